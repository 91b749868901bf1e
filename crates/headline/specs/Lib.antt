pub use Rattle.recover.specs.Migrations
pub use Rattle.tree_table.specs.Held
pub mod lemmas
pub mod Tables
pub mod Brief
