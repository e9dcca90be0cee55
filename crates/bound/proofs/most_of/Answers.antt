-- `bound::most_of` meets its contract.
use Prim.Native.Nat.{ℕ}
use mathlib.Core.Path.{sym, ap, ◌∙◌}
use Rattle.base.proofs.TestLaws.{cond-true, cond-false}
use Rattle.bound.specs.Most.{most_of}
use Rattle.bound.proofs.most_of.Goals as goal

pub most_upper-requires : goal.most_upper-requires
most_upper-requires c = sym c.sporadic_thread.ensures ∙ c.if-sporadic_thread.true

pub returns-then-sporadic_thread : goal.returns-then-sporadic_thread
unfolding most_of
returns-then-sporadic_thread c =
    ap (λ (n : ℕ). record { status = 0; ticks = n }) c.most_upper.ensures
    ∙ sym (cond-true _ _ _ (sym c.sporadic_thread.ensures ∙ c.if-sporadic_thread.true))

pub returns : goal.returns
unfolding most_of
returns c =
    ap (λ (n : ℕ). record { status = n; ticks = 0 }) c.from.ensures
    ∙ sym (cond-false _ _ _ (sym c.sporadic_thread.ensures ∙ c.if-sporadic_thread.false))
