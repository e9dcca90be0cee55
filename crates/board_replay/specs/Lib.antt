-- What a reader of `board_replay` must believe, over the definitions of `replay_steps`.
pub mod Replayed
