-- What a reader of `counter` must believe, over the definitions of `events`.
pub mod Counter
pub mod Private
