pub mod Args
pub mod Clap
pub mod Toml
