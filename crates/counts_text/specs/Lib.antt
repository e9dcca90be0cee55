-- What a reader of `counts_text` must believe.
pub mod Lines
pub mod Room
pub mod Sums
