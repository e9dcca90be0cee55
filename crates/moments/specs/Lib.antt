-- What a reader of `moments` must believe.
pub mod Changes
pub mod Moments
pub mod Reports
