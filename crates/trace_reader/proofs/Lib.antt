-- Answers computed on a small file: what the definitions come to.
pub mod Computed
-- Laws that the crates above use.
pub mod ReaderLaws
