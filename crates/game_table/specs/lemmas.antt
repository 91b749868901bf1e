pub mod OneTable
pub mod Laws
pub mod Tables
pub mod Pages
pub mod TriedUnit
