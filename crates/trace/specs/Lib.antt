-- What a reader of `trace` must believe.
pub mod Lists
pub mod Write
pub mod RoundTrips
