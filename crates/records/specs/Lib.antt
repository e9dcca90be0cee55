-- What a reader of `records` must believe.
pub mod Ranges
pub mod Kinds
