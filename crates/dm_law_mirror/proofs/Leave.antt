-- Lemmas of the family Leave, by file.
pub mod Fronts
pub mod Answered
pub mod Asks
pub mod Asked
pub mod Stays
pub mod Goes
