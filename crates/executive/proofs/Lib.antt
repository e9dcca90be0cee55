-- Laws for the executive's functions.
pub mod StatusLaws
pub mod RequiresLaws
pub mod ToldLaws
pub mod StepLaws
pub mod KeptLaws
pub mod ChangeLaws
pub mod DoneLaws
pub mod CarryLaws
pub mod LastLaws
