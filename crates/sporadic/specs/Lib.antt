-- What a reader of `sporadic` must believe.
pub mod Rules
pub mod Carry
