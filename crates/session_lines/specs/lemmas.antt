pub mod Lines
pub mod Stops
pub mod Words
pub mod Printed
