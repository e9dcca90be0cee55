-- `share_lines::put_leader` meets its contract: its word, the number, and then the share.
use mathlib.Core.Path.{◌∙◌}
use native.Mathlib.Omega.{arith}
use Rattle.text.specs.Fields.{space}
use Rattle.text.proofs.PlacedLaws.{after}
use Rattle.share_lines.specs.Lines.{leader_line}
use Rattle.text.proofs.FieldLaws.{byte-length}
use Rattle.share_lines.proofs.put_leader.Goals as goal

pub put_word-at-requires : goal.put_word-at-requires
put_word-at-requires c = let s = c in omega (arith, s.requires.1, s.requires.2)

pub put_field-at-requires : goal.put_field-at-requires
put_field-at-requires c =
    let w = c.put_word-at in
    let s = c in
    rw c.from.ensures (omega (arith, s.requires.1, s.requires.2, w.ensures.next, w.auto.out, byte-length space s.ranges.thread))

pub put_digits-requires : goal.put_digits-requires
put_digits-requires c =
    let f = rw c.from.ensures at c.put_field-at.ensures in
    let w = c.put_word-at in
    let s = c in
    (s.requires.0, omega (arith, s.requires.1, s.requires.2, f.next, c.put_field-at.auto.out, w.ensures.next, w.auto.out, byte-length space s.ranges.thread))

pub shape_of-out : goal.shape_of-out
shape_of-out c = c.put_digits.auto.out ∙ c.put_field-at.auto.out ∙ c.put_word-at.auto.out

pub returns : goal.returns
unfolding leader_line
returns c =
    let e = c.put_digits in
    let f = rw c.from.ensures at c.put_field-at.ensures in
    let w = c.put_word-at in
    let s = c in
    let l = byte-length space s.ranges.thread in record {
      put = after (omega (arith, s.requires.1, s.requires.2, f.next, w.ensures.next)) (after (omega (arith, s.requires.1, s.requires.2, w.ensures.next)) w.ensures f) e.ensures.put;
      upper_bound = omega (arith, e.ensures.upper_bound, s.requires.1, f.next, w.ensures.next);
    }
