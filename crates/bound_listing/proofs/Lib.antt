-- Laws that the proofs of `bound_listing` share.
pub mod LineLaws
pub mod AcceptedLaws
