-- What a reader of `account_lent` must believe.
pub mod Lent
