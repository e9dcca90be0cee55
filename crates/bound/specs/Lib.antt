-- What a reader of `bound` must believe.
pub mod Most
