pub mod Names
pub mod Pieces
pub mod Loops
pub mod BadWords
pub mod LaterImages
pub mod TextFaults
pub mod TextPlaces
pub mod Unknown
mod FirstRefused
