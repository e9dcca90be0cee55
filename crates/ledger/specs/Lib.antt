-- What a reader of `ledger` must believe.
pub mod Ledger
pub mod Bound
