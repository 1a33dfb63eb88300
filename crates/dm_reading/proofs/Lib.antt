pub mod Names
pub mod Cuts
pub mod LineCuts
pub mod WordCuts
mod Decimal
mod Capped
