-- What a reader of `refusal_line` must believe.
pub mod Most
