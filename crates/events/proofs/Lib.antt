-- Laws of the executive.
pub mod FitLaws
pub mod EventLaws
pub mod OpeningLaws
pub mod DemandLaws
pub mod ReportLaws
pub mod RefusedLaws
