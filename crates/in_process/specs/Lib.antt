pub mod Calls
pub mod Given
pub mod Kept
pub mod Lines
pub mod Rooms
