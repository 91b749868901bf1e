pub mod Numbers
pub mod KeyPlaces
pub mod Room
pub mod ItemBytes
pub mod TwoPuts
