pub mod Two
pub mod Parts
