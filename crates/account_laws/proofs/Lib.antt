-- Laws of sound accounts.
pub mod OrderLaws
pub mod SoundLaws
pub mod CarryLaws
