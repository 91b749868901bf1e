pub use Rattle.game_file.specs.Kept
pub use Rattle.game_file.specs.Stops
pub use Rattle.page_chain.specs.Chain
pub use Rattle.page_store.specs.Causes as PageStoreCauses
pub use Rattle.page_store.specs.Marks
pub use Rattle.page_store.specs.Spelled as PageSpelled
pub use Rattle.page_store.specs.Store
pub use Rattle.retrograde.specs.Changes
pub use Rattle.retrograde.specs.Edges
pub use Rattle.retrograde.specs.Stored
pub use Rattle.game_file.specs.Fields
pub use Rattle.sector_disk.specs.Disk
pub use Rattle.table.specs.Records
pub use Rattle.game_file.specs.Bytes
pub use Rattle.btree.specs.Entries as TreeMapEntries
pub use Rattle.btree.specs.Page
pub use Rattle.btree.specs.Answers
pub use Rattle.btree.specs.Readers as TreeMapReaders
pub mod Trees
pub mod Readers
pub mod Entries
pub mod Forest
pub mod Frames
pub mod Spelled
pub mod Slot
pub mod Held
pub mod KeptTrees
pub mod Last
pub mod WorkTable
pub mod Commits
pub mod Causes
pub mod InTrees
pub mod Versions
pub mod lemmas
