-- `share_lines::put_line` meets its contract: its word and three fields, and then the share.
use native.Mathlib.Omega.{arith}
use mathlib.Core.Path.{◌∙◌}
use Rattle.text.specs.Fields.{field, space}
use Rattle.text.proofs.PlacedLaws.{room-b, room-c, room-d, all-four, after, length-put}
use Rattle.text.proofs.FieldLaws.{within, ended}
use Rattle.share_lines.specs.Lines.{share_word, share_line}
use Rattle.share_lines.proofs.LineLaws.{numbers-most}
use Rattle.share_lines.proofs.put_line.Goals as goal

pub put_field-at-requires : goal.put_field-at-requires
put_field-at-requires c =
    let w = c in
    let s = c in
    let a = s.args in
    room-b a.out.now a.at share_word (field a.i space) (field a.total space) (field a.elapsed space) (within c.args.at (numbers-most c.ranges.i c.ranges.total c.ranges.elapsed) (omega (arith, c.requires.1))) w.put_word-at.ensures

pub put_field-at-requires-2 : goal.put_field-at-requires-2
put_field-at-requires-2 c =
    let w = c in
    let s = c in
    let a = s.args in
    room-c a.out.now a.at share_word (field a.i space) (field a.total space) (field a.elapsed space) (within c.args.at (numbers-most c.ranges.i c.ranges.total c.ranges.elapsed) (omega (arith, c.requires.1))) w.put_word-at.ensures c.put_field-at.ensures

pub put_field-at-requires-3 : goal.put_field-at-requires-3
put_field-at-requires-3 c =
    let w = c in
    let s = c in
    let a = s.args in
    room-d a.out.now a.at share_word (field a.i space) (field a.total space) (field a.elapsed space) (within c.args.at (numbers-most c.ranges.i c.ranges.total c.ranges.elapsed) (omega (arith, c.requires.1))) w.put_word-at.ensures c.put_field-at.ensures c.put_field-at-2.ensures

pub put_end-requires : goal.put_end-requires
put_end-requires c =
    let n = ended (numbers-most c.ranges.i c.ranges.total c.ranges.elapsed) (all-four c.args.out.now c.args.at share_word (field c.args.i space) (field c.args.total space) (field c.args.elapsed space) (within c.args.at (numbers-most c.ranges.i c.ranges.total c.ranges.elapsed) (omega (arith, c.requires.1))) c.put_word-at.ensures c.put_field-at.ensures c.put_field-at-2.ensures c.put_field-at-3.ensures) in
    (c.requires.0, omega (arith, n.1, length-put (within c.args.at (numbers-most c.ranges.i c.ranges.total c.ranges.elapsed) (omega (arith, c.requires.1))) n.0, c.requires.1))

pub shape_of-out : goal.shape_of-out
shape_of-out c = c.put_end.auto.out ∙ length-put (within c.args.at (numbers-most c.ranges.i c.ranges.total c.ranges.elapsed) (omega (arith, c.requires.1))) (ended (numbers-most c.ranges.i c.ranges.total c.ranges.elapsed) (all-four c.args.out.now c.args.at share_word (field c.args.i space) (field c.args.total space) (field c.args.elapsed space) (within c.args.at (numbers-most c.ranges.i c.ranges.total c.ranges.elapsed) (omega (arith, c.requires.1))) c.put_word-at.ensures c.put_field-at.ensures c.put_field-at-2.ensures c.put_field-at-3.ensures)).0

pub returns : goal.returns
unfolding share_line
returns c =
    let n = ended (numbers-most c.ranges.i c.ranges.total c.ranges.elapsed) (all-four c.args.out.now c.args.at share_word (field c.args.i space) (field c.args.total space) (field c.args.elapsed space) (within c.args.at (numbers-most c.ranges.i c.ranges.total c.ranges.elapsed) (omega (arith, c.requires.1))) c.put_word-at.ensures c.put_field-at.ensures c.put_field-at-2.ensures c.put_field-at-3.ensures) in
    let q = c.put_end in
    record { put = after (omega (arith, n.1, c.requires.1)) n.0 q.ensures.put; upper_bound = omega (arith, q.ensures.upper_bound, n.1) }
