pub mod Names
pub mod Begun
pub mod EndsBack
pub mod Fields
pub mod Hex
pub mod Kept
pub mod LabelsBack
pub mod LineBack
pub mod Lines
pub mod LinesBack
pub mod Lists
pub mod WordsBack
pub mod Numbers
pub mod Pages
pub mod Pairs
pub mod Pieces
pub mod Spacing
mod Worked
