pub mod Drills
pub mod OwnDrills
