-- `share_lines::put_end` meets its contract, variant by variant.
use native.Mathlib.Omega.{arith}
use mathlib.Core.Path.{subst}
use Rattle.share_lines.specs.Bounds.{ShownShare}
use Rattle.share_lines.proofs.LineLaws.{same_end, none_end}
use Rattle.share_lines.proofs.put_end.Goals as goal

pub returns-in_default : goal.returns-in_default
returns-in_default c =
    let p = c.put_word in
    let s = c in
    record { put = none_end s.args.x c.in_default.not-Of s.requires.0 p.ensures; upper_bound = omega (arith, p.ensures.next) }

pub put_digits-requires : goal.put_digits-requires
put_digits-requires c =
    let s = c in
    (subst ShownShare c.in-Of.is s.requires.0, omega (arith, s.requires.1))

pub returns : goal.returns
returns c =
    let p = c.put_digits in
    record { put = same_end c.in-Of.is p.ensures.put; upper_bound = p.ensures.upper_bound }
