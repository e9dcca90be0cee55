-- Lines by computing.
pub mod Computed
-- Laws that the crates above use.
pub mod LineLaws
pub mod SumLaws
