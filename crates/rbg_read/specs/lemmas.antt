pub mod Build
pub mod Depths
pub mod Flat
pub mod Parts
pub mod Resolve
pub mod Sizes
pub mod Switches
