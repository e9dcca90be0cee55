-- What a reader of `decimals` must believe. `Private` is cited by private functions alone.
pub mod Decimals
pub mod Private
