-- `listing_verdict::verdict_of` meets its contract, by cases of what was begun and of the line that was found.
use native.Mathlib.Omega.{arith}
use Rattle.listing_check.proofs.VerdictLaws.{is-refused, is-differs, is_same}
use Rattle.listing_verdict.proofs.verdict_of.Goals as goal

pub returns-then-status-ne0 : goal.returns-then-status-ne0
returns-then-status-ne0 c = is-refused _ _ _ c.begin_status-status.ensures (λ z. omega (arith, z, c.if-status-ne0.true))

pub returns-in-0 : goal.returns-in-0
returns-in-0 c = is_same _ _ _ c.begin_status-status.ensures _ (omega (arith, c.if-status-ne0.false)) c.compared.ensures (omega arith)

pub returns-in_default : goal.returns-in_default
returns-in_default c = is-differs _ _ _ c.begin_status-status.ensures _ (omega (arith, c.if-status-ne0.false)) c.compared.ensures (λ z. omega (arith, z))
