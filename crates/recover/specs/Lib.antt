pub use Rattle.tree_table.specs.Held
pub mod Migrations
pub mod Moves
pub mod lemmas
