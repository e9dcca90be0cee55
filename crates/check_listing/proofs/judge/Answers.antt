-- `check_listing::judge` meets its contract: it ends with the number of the verdict.
use Rattle.std.proofs.Common.{◌≡◌, ap, ◌∙◌}
use Rattle.listing_check.specs.declared.Checked.{Checked}
use Rattle.listing_check.specs.declared.Verdict.{Verdict}
use Rattle.listing_check.specs.Verdict.{checked_of}
use Rattle.check_listing.proofs.judge.Goals as goal

numbered : (v w : Verdict) (x : Checked) → x ≡ checked_of v → v ≡ w → x.verdict ≡ (checked_of w).verdict
numbered v w x e f = ap (λ (y : Checked). y.verdict) (e ∙ ap checked_of f)

pub returns-then-checked-eq1 : goal.returns-then-checked-eq1
returns-then-checked-eq1 g c = numbered _ _ _ c.checked_of-checked.ensures c.verdict_of-v.ensures

pub returns-else-checked-eq1 : goal.returns-else-checked-eq1
returns-else-checked-eq1 g c = numbered _ _ _ c.checked_of-checked.ensures c.verdict_of-v.ensures
