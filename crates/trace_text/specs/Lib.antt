-- What a reader of `trace_text` must believe.
pub mod RoundTrips
