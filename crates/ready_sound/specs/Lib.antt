-- What a reader of `ready_sound` must believe, over `ready/specs/Sound`. `Private` is cited by private functions alone.
pub mod Private
