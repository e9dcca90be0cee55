-- `counts_text::put_thread` meets its contract: its word, a field and four more.
use Prim.Native.Nat.{ℕ, ◌+◌, ◌*◌}
use native.Mathlib.Omega.{arith}
use lib.ListN.{get_or}
use mir.Syntax.{w64}
use mir.Val.{Fits}
use Rattle.text.specs.Fields.{space, field, row}
use Rattle.text.proofs.FieldLaws.{within, ended}
use Rattle.counts_text.specs.Lines.{four_line}
use Rattle.counts_text.proofs.LineLaws.{four-length, room-b, room-c, all_three}
use Rattle.counts_text.proofs.put_thread.Goals as goal

pub put_field-there-requires : goal.put_field-there-requires
unfolding four_line
put_field-there-requires c =
    let a = c.args in
    let k = a.i * 4 in
    let n : ℕ → ℕ = λ j. get_or a.xs.now j 0 in
    let f : (j : ℕ) → Fits w64 (n j) = λ j. omega (arith, c.fits-xs j) in
    let h = within a.at (four-length a.word.now a.i c.requires.0 c.requires.1 (f k) (f (k + 1)) (f (k + 2)) (f (k + 3))) c.requires.2 in
    room-b a.out.now a.at a.word.now (field a.i space) (row (n k) (n (k + 1)) (n (k + 2)) (n (k + 3))) h c.put_word-here.ensures

pub put_row-requires : goal.put_row-requires
unfolding four_line
put_row-requires c =
    let a = c.args in
    let k = a.i * 4 in
    let n : ℕ → ℕ = λ j. get_or a.xs.now j 0 in
    let f : (j : ℕ) → Fits w64 (n j) = λ j. omega (arith, c.fits-xs j) in
    let h = within a.at (four-length a.word.now a.i c.requires.0 c.requires.1 (f k) (f (k + 1)) (f (k + 2)) (f (k + 3))) c.requires.2 in
    room-c a.out.now a.at a.word.now (field a.i space) (row (n k) (n (k + 1)) (n (k + 2)) (n (k + 3))) h c.put_word-here.ensures c.put_field-there.ensures

pub returns : goal.returns
unfolding four_line
returns c =
    let a = c.args in
    let k = a.i * 4 in
    let n : ℕ → ℕ = λ j. get_or a.xs.now j 0 in
    let f : (j : ℕ) → Fits w64 (n j) = λ j. omega (arith, c.fits-xs j) in
    let l = four-length a.word.now a.i c.requires.0 c.requires.1 (f k) (f (k + 1)) (f (k + 2)) (f (k + 3)) in
    let e = ended l
    (all_three a.out.now a.at a.word.now (field a.i space) (row (n k) (n (k + 1)) (n (k + 2)) (n (k + 3))) (within a.at l c.requires.2) c.put_word-here.ensures c.put_field-there.ensures c.put_row.ensures) in
    record { put = e.0; upper_bound = e.1 }
