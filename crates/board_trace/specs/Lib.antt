-- What a reader of `board_trace` must believe, over the definitions of `trace`.
pub mod Found
