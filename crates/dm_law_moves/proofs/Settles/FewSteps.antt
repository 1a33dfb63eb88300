-- How few puts a settle makes, by file.
pub mod Far
pub mod Covers
pub mod Few
pub mod Distances
pub mod Ways
pub mod FrontRows
pub mod PutTurns
pub mod FewPuts
pub mod PutsWorked
