pub mod Fits
pub mod KnownStands
pub mod Found
pub mod Order
pub mod Taken
pub mod Sizes
pub mod Laws
