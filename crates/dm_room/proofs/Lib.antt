pub mod Names
pub mod HeldLemmas
