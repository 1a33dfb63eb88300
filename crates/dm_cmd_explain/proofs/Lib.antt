pub mod Names
pub mod ExplainOutcomes
pub mod ExplainKept
