-- Laws that the proofs of `bound` share.
pub mod MostLaws
