-- `ready_vectors::remove` meets what `ready_removal::remove` requires: the case was found sound.
use Rattle.std.proofs.Common.{ℕ, ◌≤◌, ◌<◌, get_or, refl, sym, ◌∙◌, arith}
use Rattle.ready.proofs.Soundness.{sound-true}
use Rattle.ready.proofs.SoundLaws.{leavable}
use Rattle.ready_vectors.proofs.remove.Goals as goal

pub remove-word-requires : goal.remove-word-requires
remove-word-requires c =
    let place : ℕ → ℕ = λ i. get_or c.args.c.places i 0 in
    let h = sound-true place c.args.c.word c.args.c.lists (sym c.is_sound.ensures ∙ c.if-not-is_sound.false) in
    let m : c.args.i < 32 = omega (arith, c.from-at.ensures) in
    let lo : 1 ≤ place c.args.i = omega (arith, rw c.from-at.ensures at c.if-c-at-eq0.false) in
    rw c.from-at.ensures
    (leavable place c.args.c.word c.args.c.lists h (place c.args.i) lo (h.rows.places c.args.i m) c.args.i m refl)
