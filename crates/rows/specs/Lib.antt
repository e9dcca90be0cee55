-- What a reader of `rows` must believe.
pub mod Rows
