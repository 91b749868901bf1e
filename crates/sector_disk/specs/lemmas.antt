pub mod Disk
pub mod Log
pub mod Moments
pub mod Unknown
