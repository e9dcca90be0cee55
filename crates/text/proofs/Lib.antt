-- Laws that the crates above use.
pub mod DecimalLaws
pub mod PlacedLaws
pub mod FieldLaws
