pub mod WorkLemmas
pub mod Packed
pub mod PositionText
