-- Laws of the test of slots.
pub mod ClearLaws
