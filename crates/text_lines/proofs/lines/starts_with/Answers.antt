-- `text_lines::starts_with` meets its contract.
use Rattle.std.proofs.Common.{List, ℕ, ◌++◌, length, take, drop, refl, sym, ap, ◌∙◌}
use Rattle.std.proofs.lemmas.List.{take_at, take-append-drop}
use Rattle.std.proofs.lemmas.Slice.Eq.{starts_is}
use Rattle.std.proofs.lemmas.Bool.Decides.{Decides-eqb}
use Rattle.text_lines.proofs.LineLaws.{starts-as}
use Rattle.text_lines.proofs.lines.starts_with.Goals as goal

pub returns : goal.returns
returns c =
    let s = c.args.text.now in
    let w = c.args.word.now in
    let t = starts_is Decides-eqb s w _ c.starts_with.ensures.value in
    starts-as w s _
    (λ e. ap (take (length w)) (t.0 e) ∙ take_at w (drop (length w) s) (length w) refl)
    (λ e. t.1 (drop (length w) s) (sym (take-append-drop (length w) s) ∙ ap (λ (x : List ℕ). x ++ drop (length w) s) e))
