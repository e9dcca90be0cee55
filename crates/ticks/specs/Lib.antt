-- What a reader of `ticks` must believe.
pub mod Running
