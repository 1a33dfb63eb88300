pub mod Making
pub mod Lawful
mod Worked
