pub mod Alike
pub mod Private
pub mod Acting
pub mod Services
pub mod Closed
pub mod Laws
