-- What a reader of `bound_listing` must believe.
pub mod BoundListing
