-- What a reader of `trace_reader` must believe.
pub mod Reader
