-- Laws of the rows while an entry comes.
pub mod InsertLaws
