-- A ledger, by computing.
pub mod Computed
-- Laws of ledgers: they are complete, and agree with the account rule by rule.
pub mod CompleteLaws
pub mod StepRules
pub mod FiledLaws
pub mod LedgerLaws
pub mod AgreeLaws
pub mod BoundLaws
