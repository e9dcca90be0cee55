-- What a reader of `quotient` must believe.
pub mod Quotient
