-- What the verdict on a trace is, by file.
pub mod Verdict
pub mod Good
pub mod Laws
pub mod First
pub mod Before
pub mod DueStands
