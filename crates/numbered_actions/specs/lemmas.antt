pub mod Walk
pub mod Lines
