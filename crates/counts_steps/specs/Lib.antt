-- What a reader of `counts_steps` must believe.
pub mod Counts
pub mod CountSteps
