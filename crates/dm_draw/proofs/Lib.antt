pub mod Names
pub mod Valid
pub mod Drawing
pub mod Within
mod Worked
