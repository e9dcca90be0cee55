-- What a reader of `text` must believe.
pub mod Decimal
pub mod Fields
pub mod Widths
pub mod Placed
