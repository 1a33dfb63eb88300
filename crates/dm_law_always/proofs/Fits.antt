-- Lemmas of the family Fits, by file.
pub mod Rises
pub mod Serves
pub mod Creates
pub mod Constants
pub mod Start
