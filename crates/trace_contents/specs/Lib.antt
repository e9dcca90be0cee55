-- What a reader of `trace_contents` must believe.
pub mod Read
