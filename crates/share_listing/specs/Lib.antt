-- What a reader of `share_listing` must believe.
pub mod ShareListing
