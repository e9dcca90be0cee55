-- Laws that the crates above use.
pub mod ListLaws
pub mod ReadLaws
