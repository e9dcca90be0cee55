-- What a reader of `board_search` must believe.
pub mod Answer
