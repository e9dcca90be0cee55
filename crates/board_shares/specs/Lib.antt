-- What a reader of `board_shares` must believe.
pub mod Replies
