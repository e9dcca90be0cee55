-- The worked table, by computing.
pub mod Computed
