-- What a reader of `listing` must believe. `Private` is cited by private functions alone.
pub mod Lines
pub mod Listing
pub mod Private
