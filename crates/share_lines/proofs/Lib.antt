-- Laws that the crates above use.
pub mod BoundLaws
pub mod ShownLaws
pub mod LineLaws
