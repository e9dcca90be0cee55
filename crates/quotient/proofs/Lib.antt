-- Laws that the crates above use.
pub mod QuotientLaws
