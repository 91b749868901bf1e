pub mod Expansion
pub mod ProcessSteps
