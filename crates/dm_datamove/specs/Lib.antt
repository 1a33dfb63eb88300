pub mod Requests
pub mod Serving
pub mod Landing
