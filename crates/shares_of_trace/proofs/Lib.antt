-- Laws that the proofs of `shares_of_trace` share.
pub mod ListLaws
