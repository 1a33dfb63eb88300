pub mod Names
pub mod Calling
pub mod Comments
pub mod Defined
pub mod Meant
pub mod Labelled
pub mod Sizes
mod Expanding
mod Stands
mod Worked
mod WorkedCalls
