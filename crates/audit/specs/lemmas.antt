pub mod Conditions
pub mod Edges
pub mod Records
pub mod Tallies
