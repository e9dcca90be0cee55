-- Laws that the crates above use.
pub mod LineLaws
pub mod PrintLaws
pub mod ListingLaws
