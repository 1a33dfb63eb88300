-- What the verdict on a trace is, by file.
pub mod Full
pub mod Groups
pub mod KeptNames
pub mod Fulls
pub mod Led
pub mod Runs
pub mod Printed
pub mod First
pub mod Going
pub mod Before
pub mod DueLines
