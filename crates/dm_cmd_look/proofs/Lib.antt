pub mod Names
mod Looking
pub mod LookKept
