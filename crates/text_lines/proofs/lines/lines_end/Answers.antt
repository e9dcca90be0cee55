-- `text_lines::lines_end` meets its contract.
use Rattle.std.proofs.Common.{◌≡◌, ℕ, zero, suc, ◌+◌, ◌-◌, ◌<◌, List, drop, sym, ap, ◌∙◌, arith}
use Rattle.std.proofs.lemmas.List.{drop-drop, length-drop}
use Rattle.text_lines.specs.Lines.{line_length, lines_length}
use Rattle.text_lines.proofs.LineLaws.{line-within}
use Rattle.text_lines.proofs.lines.lines_end.Goals as goal

-- one line more
line-passed : (n : ℕ) (s : List ℕ) (at end : ℕ) → 0 < n → end ≡ at + line_length (drop at s) → at + lines_length n (drop at s) ≡ end + lines_length (n - 1) (drop end s)
unfolding lines_length
line-passed (suc n) s at end h e =
    let d : drop (line_length (drop at s)) (drop at s) ≡ drop end s = drop-drop (line_length (drop at s)) at s ∙ ap (λ (k : ℕ). drop k s) (sym e) in
    let z : suc n - 1 ≡ n = omega arith in
    rw (d, z) (omega arith)
line-passed zero s at end h e = absurd (omega arith)

pub loop-line-preserved : goal.loop-line-preserved
loop-line-preserved c =
    let w = c.loop-line in
    let s = c.args.text.now in
    let e = c.line_end-place.ensures in
    let z : c.args.lines - w._line - 1 ≡ c.args.lines - (w._line + 1) = omega arith in (
      omega (arith, line-within (drop w.place s), length-drop w.place s),
      rw z at (sym (line-passed (c.args.lines - w._line) s w.place c.line_end-place.result (omega arith) e) ∙ w.invariant.1),
    )

pub returns-clause-value : goal.returns-clause-value
unfolding lines_length
returns-clause-value c =
    let w = c.loop-line in
    let z : c.args.lines - w._line ≡ 0 = omega arith in
    let e = rw z at w.invariant.1 in
    omega arith
