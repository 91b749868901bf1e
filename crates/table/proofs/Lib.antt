pub mod EdgeLemmas
pub mod NumberLemmas
pub mod CountLemmas
pub mod OrderMarks
pub mod Whole
pub mod Copies
pub mod Exits
pub mod Frames
