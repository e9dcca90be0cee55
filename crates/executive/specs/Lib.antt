-- What a reader of `executive` must believe, over the definitions of `events`.
pub mod Private
pub mod Steps
