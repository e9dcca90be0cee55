-- What a reader of `answers` must believe.
pub mod Answer
