-- Worked histories, by computing.
pub mod Computed
