-- Laws of the passing of time over the state.
pub mod ChangeLaws
pub mod InsertLaws
pub mod ChargeLaws
pub mod LimitLaws
pub mod FireLaws
pub mod MomentLaws
pub mod TurnLaws
pub mod ReportLaws
pub mod SeenLaws
pub mod StepLaws
pub mod ReportBounds
pub mod ToldLaws
pub mod AdvanceLaws
pub mod AnswerLaws
