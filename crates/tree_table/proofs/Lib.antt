mod Forests
mod Rooted
mod Faults
mod Puts
mod ByKey
mod Tables
mod Few
mod Found
mod KeyOrder
mod TableReads
mod NextEdges
pub mod HeldTable
mod LastCell
pub mod Limits
mod Commits
mod FirstTable
mod Grown
pub mod Bare
mod Versions
