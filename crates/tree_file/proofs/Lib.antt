pub mod MadeTable
pub mod CheckExits
pub mod Refusals
pub mod Spelled
pub mod FoundPlaces
pub mod Winners
mod Told
mod Readers
mod ForestExits
mod Walks
mod Forests
mod Exits
mod Commits
mod Loads
mod Creation
mod FoundGame
mod SealedStore
mod OpenedFile
mod Versions
mod Renewal
mod Growth
