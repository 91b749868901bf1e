pub mod Causes
pub mod Links
pub mod EveryChain
