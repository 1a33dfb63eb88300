pub mod Placed
pub mod PlacedStep
pub mod PlacedStart
pub mod Laws
pub mod Changes
pub mod Following
