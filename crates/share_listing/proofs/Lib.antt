-- Laws that the proofs of `share_listing` share.
pub mod ListingLaws
