pub mod Bits
pub mod Bytes
pub mod Spelled
pub mod Streams
pub mod Texts
