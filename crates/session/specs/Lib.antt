pub mod Commands
pub mod Cut
pub mod Seen
pub mod Sessions
pub mod ByLine
