-- What a reader of `command` must believe.
pub mod Ends
