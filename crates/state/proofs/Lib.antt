-- Laws of states: soundness as a proposition, then what the functions' proofs use.
pub mod SoundLaws
pub mod TestLaws
pub mod ThreadLaws
pub mod AbsentLaws
pub mod UpdateLaws
