pub mod Sittings
pub mod Migrations
pub mod Listings
