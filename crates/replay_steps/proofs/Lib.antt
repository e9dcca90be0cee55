-- Laws that the crates above use.
pub mod FileLaws
pub mod LastLaws
