-- Laws that the crates above use.
pub mod RoundLaws
pub mod SpellLaws
pub mod BitsLaws
pub mod TextLaws
