pub mod Names
pub mod PlainCalls
pub mod LawfulCalls
pub mod Receives
pub mod Completes
