-- What a reader of `thread` must believe.
pub mod Thread
