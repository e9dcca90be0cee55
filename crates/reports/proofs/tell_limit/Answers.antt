-- `reports::tell_limit` meets its contract.
use Prim.Native.Nat.{◌+◌, ◌*◌}
use mathlib.Core.Path.{ap, ◌∙◌, subst⁻¹}
use native.Mathlib.Omega.{arith}
use Rattle.reports.specs.Tallies.{back_tally, more_of, Tellable}
use Rattle.reports.proofs.TellLaws.{limit-told, more_room}
use Rattle.reports.proofs.tell_limit.Goals as goal

pub add-requires : goal.add-requires
add-requires c = (omega arith, omega (arith, c.requires.1.1 (c.args.i * 4)))

pub tell_back-requires : goal.tell_back-requires
tell_back-requires c =
    let i = c.args.i in (
      c.requires.0,
      subst⁻¹ (Tellable (c.args.back + 1)) c.add.ensures
          (more_room (c.args.back + 1) 1 (i * 4) c.args.told.now (omega (arith, c.requires.1.0)) (c.requires.1.0, λ k. omega (arith, c.requires.1.1 k))),
    )

pub returns : goal.returns
returns c =
    let a = c.args in
    c.tell_back.ensures ∙ ap (more_of a.i (back_tally a.back)) c.add.ensures ∙ limit-told a.i a.back a.told.now
