pub mod Bytes
pub mod InMemory
pub mod Pasts
