pub mod Lookups
pub mod ValueDescent
pub mod LastLeaf
pub mod Leaves
pub mod NextDescent
pub mod Exits
pub mod LeafDescent
