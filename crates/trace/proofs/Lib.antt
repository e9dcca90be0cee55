-- An answer computed on a small file: what the definitions come to.
pub mod Computed
-- Laws that the crates above use.
pub mod RunLaws
pub mod WriteLaws
pub mod RoundTrips
