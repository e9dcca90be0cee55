-- Laws that the crates above use.
pub mod NumberLaws
pub mod WritingLaws
