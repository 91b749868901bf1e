mod Walks
mod Steps
mod NumberedActions
mod ActionNumbers
mod Lengths
mod TokenPlaces
mod ActionLines
mod FoundStretches
