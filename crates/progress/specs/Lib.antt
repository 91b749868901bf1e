pub mod Enough
pub mod InBrief
pub mod Limits
