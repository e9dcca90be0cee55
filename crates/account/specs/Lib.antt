-- What a reader of `account` must believe.
pub mod Account
pub mod Rules
pub mod Sound
pub mod Carry
