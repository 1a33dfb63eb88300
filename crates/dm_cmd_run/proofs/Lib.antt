pub mod Names
mod RunSaid
pub mod RunKept
