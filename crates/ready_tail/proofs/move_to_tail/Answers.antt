-- `ready_tail::move_to_tail` meets its contract: the thread leaves, and then joins.
use Prim.Native.Nat.{ℕ}
use mathlib.Core.Path.{sym, ap, subst₂, ◌∙◌}
use mathlib.Core.List.{List}
use Rattle.ready.specs.Lists.{appended}
use Rattle.ready.specs.Word.{occupancy}
use Rattle.ready.specs.Rules.{Joinable, Leavable, Movable}
use Rattle.ready_tail.proofs.move_to_tail.Goals as goal

leaves : (word i from to : ℕ) (l : List ℕ) → Movable word i from to l → Leavable word from i l
leaves word i from to l h = h.leaves

pub remove-w-requires : goal.remove-w-requires
remove-w-requires c = let a = c.args in leaves a.word a.i a.«from» a.to a.lists.now c.requires

pub append-requires : goal.append-requires
append-requires c =
    let b = c in
    let e = c.remove-w.ensures in
    subst₂ (λ (w : ℕ) (l : List ℕ). Joinable w b.args.to l) (sym e.1) (sym e.0) b.requires.joins

pub returns : goal.returns
returns c =
    let a = c.args in
    let e = c.remove-w.ensures.0 in
    (c.append.ensures.0 ∙ ap (appended a.to a.i) e, c.append.ensures.1 ∙ ap (λ (l : List ℕ). occupancy (appended a.to a.i l)) e)
