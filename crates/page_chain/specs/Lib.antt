pub use Rattle.page_store.specs.Causes as PageStoreCauses
pub use Rattle.page_store.specs.Marks
pub use Rattle.page_store.specs.Pages
pub use Rattle.page_store.specs.Spelled
pub use Rattle.page_store.specs.Store
pub use Rattle.sector_disk.specs.Disk
pub mod Causes
pub mod Chain
pub mod Frames
pub mod lemmas
