pub mod Records
pub mod Goals
pub mod Packings
pub mod Words
pub mod FirstTable
pub mod Growth
pub mod Free
