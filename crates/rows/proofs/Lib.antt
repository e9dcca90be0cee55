-- Laws of the slots.
pub mod RowLaws
