pub mod Faults
pub mod FreePages
pub mod InPlace
pub mod Replacements
pub mod Levels
pub mod Roots
pub mod WrittenItems
pub mod Looks
