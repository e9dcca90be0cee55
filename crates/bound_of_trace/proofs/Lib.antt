-- Laws that the proofs of `bound_of_trace` share.
pub mod ListLaws
