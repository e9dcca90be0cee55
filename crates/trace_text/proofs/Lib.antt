-- The four statements.
pub mod RoundTrips
