pub mod Machines
pub mod Records
pub mod Lent
