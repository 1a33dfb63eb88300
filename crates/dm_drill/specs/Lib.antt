pub mod Kinds
pub mod Totals
pub mod Counts
pub mod Summary
pub mod Reported
pub mod Drilled
pub mod Schedules
