-- What a reader of `base` must believe.
pub mod Tests
pub mod Refusals
pub mod Status
