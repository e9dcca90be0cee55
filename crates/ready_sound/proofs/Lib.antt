-- Laws for the test of the lists.
pub mod StepLaws
pub mod StrikeLaws
pub mod PassLaws
