-- `next_moment::next_moment` meets its contract.
use Prim.Native.Nat.{ℕ}
use mathlib.Core.Bool.{cond}
use mathlib.Core.Path.{◌≡◌, ap, ◌∙◌}
use lib.Dec.{eqb}
use Rattle.due_search.specs.declared.Due.{Due}
use Rattle.ticks.specs.Running.{earlier, limit_of}
use Rattle.due_search.specs.Search.{next_due}
use Rattle.next_moment.proofs.next_moment.Goals as goal

pub returns : goal.returns
returns c =
    let l = c in
    let x = l in
    let a = x.args in
    let e : x.next_due-x.result ≡ next_due a.counts.now a.dues.now a.n = x.next_due-x.ensures in
    c.earlier_of.ensures
    ∙ ap (λ (m : ℕ). earlier m x.next_due-x.result.due) l.limit_at.ensures
    ∙ ap (λ (d : Due). earlier (cond (eqb a.p 0) 0 (limit_of a.time a.p a.t)) d.due) e
