mod CellLemmas
mod EdgeLemmas
mod OrderLemmas
mod Outcomes
mod Splits
mod TableLemmas
mod ImageExits
mod ReadLemmas
pub mod Exits
pub mod Whole
pub mod ChainReads
pub mod SlotReads
pub mod OpenedFile
pub mod Lists
pub mod Bounds
pub mod CopyExits
mod Tables
mod CarriedFile
