-- What a reader of `due_search` must believe.
pub mod Search
pub mod Kept
pub mod Word
