-- Laws. The crates above cite Soundness, SoundLaws and WordLaws; the other files serve the proofs of this crate.
pub mod RowLaws
pub mod WordLaws
pub mod ListLaws
pub mod StepLaws
pub mod RotateLaws
pub mod Soundness
pub mod SoundLaws
