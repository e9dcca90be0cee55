-- What a reader of `replay_steps` must believe.
pub mod FileSteps
