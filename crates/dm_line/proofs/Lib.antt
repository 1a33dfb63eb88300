pub mod Names
pub mod Below
pub mod Deliveries
