-- What a reader of `state` must believe.
pub mod Updates
pub mod State
pub mod Sound
