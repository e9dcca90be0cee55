-- `reports::tell_back` meets its contract.
use Prim.Native.Nat.{ℕ, ◌+◌, ◌*◌}
use mathlib.Core.Path.{ap, ◌∙◌}
use mathlib.Core.List.{List}
use lib.ListN.{get_or}
use native.Mathlib.Omega.{arith}
use Rattle.reports.specs.Tallies.{more}
use Rattle.reports.proofs.TellLaws.{none_told, back-told, more-other}
use Rattle.reports.proofs.tell_back.Goals as goal

pub returns-then-back-eq0 : goal.returns-then-back-eq0
returns-then-back-eq0 c = let a = c.args in none_told a.i a.back a.told.now c.if-back-eq0.true

pub add-requires : goal.add-requires
add-requires c = (omega arith, omega (arith, c.requires.1.1 (c.args.i * 4 + 2)))

pub add-requires-2 : goal.add-requires-2
add-requires-2 c =
    let i = c.args.i in
    let xs = c.args.told.now in (
      omega arith,
      omega (arith, ap (λ (l : List ℕ). get_or l (i * 4 + 3) 0) c.add.ensures, more-other (i * 4 + 2) (i * 4 + 3) 1 xs (λ z. omega arith), c.requires.1.1 (i * 4 + 3)),
    )

pub returns : goal.returns
returns c =
    c.add-2.ensures
    ∙ ap (more (c.args.i * 4 + 3) c.args.back) c.add.ensures
    ∙ back-told c.args.i c.args.back c.args.told.now c.if-back-eq0.false
