-- Laws of the gap that a list closes.
pub mod GapLaws
