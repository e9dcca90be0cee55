-- What a reader of `trace_header` must believe.
pub mod Header
