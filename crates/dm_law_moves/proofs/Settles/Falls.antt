-- What is left falls with each group of a settle, by file.
pub mod Handles
pub mod TurnFalls
pub mod Delivers
pub mod DeliverFalls
pub mod LeftFalls
pub mod TurnsFall
pub mod Less
