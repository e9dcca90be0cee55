-- What a reader of `share_lines` must believe.
pub mod Lines
pub mod Bounds
