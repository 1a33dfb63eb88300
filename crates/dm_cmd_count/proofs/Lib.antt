pub mod Names
pub mod Drills
pub mod OwnDrilling
pub mod Counted
pub mod CountKept
pub mod DrillKept
pub mod OwnKept
