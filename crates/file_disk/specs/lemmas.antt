pub mod Narrow
pub mod Search
pub mod WaitingSectors
pub mod WholePages
