-- What a reader of `trace_back` must believe.
pub mod Back
