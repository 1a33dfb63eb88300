pub mod Names
mod Kept
mod Sets
