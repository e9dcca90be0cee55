-- The bound by which a sweep is planned, as an answer: the most ticks at the upper priority, or 6. This is no sentence of the papers; the
-- bound is `ledger/Bound`, and `history` proves that no history takes more.
use Rattle.std.specs.Prelude.{ℕ, leb, eqb}
use mathlib.Core.{Bool.Bool, Bool.cond, List.[], List.◌∷◌}
use Rattle.base.specs.{Tests.all, Status.wrong_parameters}
use Rattle.records.specs.{declared.Parameters.Parameters, Ranges.in_range, Ranges.most_replenishments}
use Rattle.ledger.specs.Bound.{most_upper}
use Rattle.bound.specs.declared.Most.{Most}

-- the parameters of a sporadic thread that may be opened (01 Status 7): the start flag is one of them, and says nothing of the bound
unfoldable pub sporadic_thread : Parameters → Bool
sporadic_thread p = all (eqb p.policy 2 ∷ leb p.flag 1 ∷ in_range most_replenishments p ∷ [])

-- 6 for any others
unfoldable pub most_of : Parameters → ℕ → Most
most_of p length = cond (sporadic_thread p) (record { status = 0; ticks = most_upper p length }) (record { status = wrong_parameters; ticks = 0 })
