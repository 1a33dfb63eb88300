-- A kernel with places behind any line, part, group and run, by file.
pub mod AnyLine
pub mod AnyPart
pub mod AnyGroup
pub mod AnyRun
