pub mod Carried
pub mod Counts
pub mod Disk
pub mod Edits
pub mod Frames
pub mod Holds
pub mod Page
pub mod Works
