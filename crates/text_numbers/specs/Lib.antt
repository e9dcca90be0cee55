-- What a reader of `text_numbers` must believe.
pub mod Numbers
