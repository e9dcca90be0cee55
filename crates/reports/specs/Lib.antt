-- What a reader of `reports` must believe.
pub mod Steps
pub mod Tallies
