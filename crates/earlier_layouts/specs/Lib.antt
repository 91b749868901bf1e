pub use Rattle.game_file.specs.Bytes
pub use Rattle.game_file.specs.Calls as GameFileCalls
pub use Rattle.game_file.specs.Causes as GameFileCauses
pub use Rattle.game_file.specs.Kept
pub use Rattle.game_file.specs.Numbers
pub use Rattle.game_file.specs.State
pub use Rattle.game_file.specs.Stops
pub use Rattle.page_chain.specs.Causes as PageChainCauses
pub use Rattle.page_chain.specs.Chain
pub use Rattle.page_store.specs.InStore
pub use Rattle.page_store.specs.Marks
pub use Rattle.page_store.specs.Pages as PageStorePages
pub use Rattle.page_store.specs.Store
pub use Rattle.retrograde.specs.Changes
pub use Rattle.retrograde.specs.Stored
pub use Rattle.root_pair.specs.Root
pub use Rattle.sector_disk.specs.Disk
pub use Rattle.table.specs.Fit
pub use Rattle.table.specs.InMemory
pub use Rattle.table.specs.Memory
pub use Rattle.tree_file.specs.MoveCauses as TreeFileMoving
pub use Rattle.tree_table.specs.Held as TreeTableHeld
pub mod Spelled
pub mod Length
pub mod Slot
pub mod Held
pub mod File
pub mod ReadCauses
pub mod Calls
pub mod InFile
pub mod Copies
pub mod MoveCauses
pub mod lemmas
