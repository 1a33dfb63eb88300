pub mod Names
pub mod Numbers
pub mod Field
pub mod Loop
pub mod Fields
pub mod Coded
pub mod Whats
pub mod Packets
pub mod Parts
pub mod Writes
pub mod Sizes
pub mod Worked
mod WorkedLimits
