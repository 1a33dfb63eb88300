-- Of a settle and of a rest, by file.
pub mod Left
pub mod Rests
pub mod Passes
pub mod Puts
pub mod Laws
pub mod Still
pub mod Stays
