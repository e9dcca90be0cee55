-- `share_lines::put_summary` meets its contract: one line after the other, or none.
use native.Mathlib.Omega.{arith}
use mathlib.Core.Path.{◌∙◌, subst}
use Rattle.text.proofs.PlacedLaws.{after}
use Rattle.share_lines.specs.Lines.{summary_lines}
use Rattle.share_lines.specs.Bounds.{ShownSummary}
use Rattle.share_lines.proofs.LineLaws.{same-summary, no_lines}
use Rattle.share_lines.proofs.put_summary.Goals as goal

pub returns-in_default : goal.returns-in_default
returns-in_default c =
    let s = c in
    record { put = no_lines _ _ s.args.x c.in_default.not-Of s.requires.0; upper_bound = omega arith }

pub put_leader-at-requires : goal.put_leader-at-requires
put_leader-at-requires c =
    let s = c in
    ((subst ShownSummary c.in-Of.is s.requires.0).0, omega arith, omega (arith, s.requires.1))

pub put_leader-requires : goal.put_leader-requires
put_leader-requires c =
    let p = c.put_leader-at in
    let s = c in
    ((subst ShownSummary c.in-Of.is s.requires.0).1, omega arith, omega (arith, s.requires.1, p.ensures.upper_bound, p.auto.out))

pub shape_of-out : goal.shape_of-out
shape_of-out c = c.put_leader.auto.out ∙ c.put_leader-at.auto.out

pub returns : goal.returns
unfolding summary_lines
returns c =
    let p = c.put_leader-at in
    let q = c.put_leader in
    let s = c in
    record { put = same-summary c.in-Of.is (after (omega (arith, p.ensures.upper_bound, s.requires.1)) p.ensures.put q.ensures.put); upper_bound = omega (arith, q.ensures.upper_bound, p.ensures.upper_bound) }
