-- Laws that the crates above use.
pub mod PartLaws
pub mod RefusalLaws
pub mod TestLaws
pub mod ZeroLaws
