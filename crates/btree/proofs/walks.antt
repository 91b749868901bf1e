pub mod Depth
pub mod Exits
pub mod MarkedPages
pub mod WalkedPages
pub mod Roots
pub mod Visits
pub mod Children
