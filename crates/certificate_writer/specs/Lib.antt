pub mod Packers
pub mod Frames
pub mod Told
pub mod Written
