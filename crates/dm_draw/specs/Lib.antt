pub mod Draw
pub mod Boot
pub mod Directives
pub mod Own
