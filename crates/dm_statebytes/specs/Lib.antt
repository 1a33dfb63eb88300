pub mod Statuses
pub mod Table
pub mod Shell
pub mod Lawful
pub mod Widths
pub mod Rules
pub mod Servers
