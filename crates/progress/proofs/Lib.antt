pub mod Bounds
pub mod Work
pub mod Brief
pub mod Refusals
pub mod Pages
pub mod Small
