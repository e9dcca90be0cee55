-- Laws of one thread's ticks and limit, and of the earlier of two moments.
pub mod EarlierLaws
pub mod RunLaws
