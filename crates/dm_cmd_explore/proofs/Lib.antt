pub mod Names
mod Written
pub mod Exploring
pub mod ExploreKept
