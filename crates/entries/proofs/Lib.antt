-- Laws of the entries.
pub mod SlotLaws
pub mod InsertLaws
