pub mod Found
pub mod Faults
pub mod Parts
pub mod Reasons
