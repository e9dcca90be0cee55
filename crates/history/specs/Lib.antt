-- What a reader of `history` must believe.
pub mod History
pub mod Bound
