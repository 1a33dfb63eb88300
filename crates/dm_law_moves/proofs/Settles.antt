-- Of a settle and of a rest, by file.
pub mod Wires
pub mod Rests
pub mod PassHas
pub mod RestHas
pub mod Weights
pub mod Effects
pub mod Falls
pub mod Grows
pub mod Totals
pub mod FewSteps
pub mod Routes
