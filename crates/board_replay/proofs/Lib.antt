-- Laws that the proofs of `board_replay` share.
pub mod ReplayLaws
