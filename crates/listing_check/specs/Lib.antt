-- What a reader of `listing_check` must believe.
pub mod Verdict
