-- Lemmas of the family Trails, by file.
pub mod Worked
pub mod Alive
pub mod Known
pub mod Leads
pub mod Places
pub mod Lines
pub mod Puts
pub mod Start
pub mod Steps
pub mod Spares
pub mod Labels
pub mod Treads
pub mod Within
pub mod Found
pub mod Along
