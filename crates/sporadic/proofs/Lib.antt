-- Laws of the rules.
pub mod ChargeLaws
pub mod EffectLaws
pub mod CarryLaws
