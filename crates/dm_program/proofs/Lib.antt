pub mod Names
pub mod Runs
mod Traces
mod Kept
mod ByRule
mod NoWords
mod Pieces
mod Sound
mod SoFar
mod RunsChecked
mod DrillsChecked
mod OwnDrilled
mod LabelsChecked
mod TracesFor
