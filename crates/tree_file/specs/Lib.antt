pub use Rattle.btree.specs.Page
pub use Rattle.game_file.specs.Calls as GameFileCalls
pub use Rattle.game_file.specs.Causes as GameFileCauses
pub use Rattle.game_file.specs.Fields
pub use Rattle.game_file.specs.Growth
pub use Rattle.game_file.specs.Kept
pub use Rattle.game_file.specs.Numbers
pub use Rattle.game_file.specs.Stops
pub use Rattle.page_store.specs.Causes as PageStoreCauses
pub use Rattle.page_store.specs.Marks
pub use Rattle.page_store.specs.Pages
pub use Rattle.page_store.specs.Store
pub use Rattle.retrograde.specs.Stored
pub use Rattle.root_pair.specs.Root
pub use Rattle.sector_disk.specs.Disk
pub use Rattle.tree_table.specs.Entries
pub use Rattle.tree_table.specs.Held
pub use Rattle.tree_table.specs.InTrees
pub use Rattle.tree_table.specs.KeptTrees
pub use Rattle.tree_table.specs.Slot
pub use Rattle.tree_table.specs.WorkTable
pub mod Counted
pub mod Spelled
pub mod Causes
pub mod Walked
pub mod File
pub mod Calls
pub mod InFile
pub mod MoveCauses
pub mod Older
pub mod Opened
pub mod Versions
pub mod lemmas
