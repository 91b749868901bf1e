pub mod FoundLemmas
pub mod FaultLemmas
pub mod Exits
pub mod ListLemmas
pub mod RowLists
pub mod FinishLemmas
mod StepLemmas
mod LineLemmas
