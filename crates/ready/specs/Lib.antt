-- What a reader of `ready` must believe. `Private` is cited by private functions alone.
pub mod Lists
pub mod Word
pub mod Rules
pub mod Sound
pub mod Private
