pub mod Words
pub mod Commands
pub mod Statuses
pub mod Options
pub mod Lines
