-- The laws that the proofs of `listing_check` cite.
pub mod VerdictLaws
