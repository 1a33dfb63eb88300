pub mod Lettered
pub mod Texts
pub mod Finding
pub mod Going
pub mod Seeing
pub mod Carried
