pub mod Layouts
pub mod Steps
pub mod FirstLayout
