-- Laws of the search for the next due, and of the word that it goes through.
pub mod DueLaws
pub mod DigitLaws
pub mod SearchLaws
