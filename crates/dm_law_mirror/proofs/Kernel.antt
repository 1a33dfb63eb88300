-- Lemmas of the family Kernel, by file.
pub mod Sets
