pub mod Imports
pub mod NamesRead
pub mod Fitting
pub mod Listed
pub mod WordsFit
pub mod LinesFit
pub mod EndsFit
pub mod ShapeLaws
pub mod Beginning
mod Worked
