pub mod State
pub mod Out
pub mod Acts
pub mod Contents
pub mod Wired
pub mod Meets
pub mod May
pub mod Lawful
