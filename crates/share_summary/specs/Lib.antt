-- What a reader of `share_summary` must believe. `Private` is cited by private functions alone.
pub mod Summaries
pub mod Private
