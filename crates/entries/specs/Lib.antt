-- What a reader of `entries` must believe.
pub mod Entries
