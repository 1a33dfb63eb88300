pub mod Names
pub mod CheckOutcomes
mod Checking
pub mod LabelOutcomes
pub mod Judging
pub mod CheckDecided
pub mod LabelsDecided
pub mod CheckKept
pub mod LabelsKept
pub mod JudgeKept
