pub mod Sides
pub mod Files
pub mod Printed
