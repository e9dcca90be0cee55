-- What a log tells, by computing.
pub mod Computed
-- Laws of what is told.
pub mod TallyLaws
pub mod NumberLaws
pub mod TellLaws
