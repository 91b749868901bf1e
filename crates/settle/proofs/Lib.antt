pub mod Bounds
pub mod SettleLemmas
pub mod Pages
