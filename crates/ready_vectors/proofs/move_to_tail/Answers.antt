-- `ready_vectors::move_to_tail` meets what `ready_tail::move_to_tail` requires: the case was found sound.
use Rattle.std.proofs.Common.{ℕ, ◌≤◌, ◌<◌, get_or, refl, sym, ◌∙◌, arith}
use Rattle.ready.proofs.Soundness.{sound-true}
use Rattle.ready.proofs.SoundLaws.{movable}
use Rattle.ready_vectors.proofs.move_to_tail.Goals as goal

pub move_to_tail-word-requires : goal.move_to_tail-word-requires
move_to_tail-word-requires c =
    let place : ℕ → ℕ = λ i. get_or c.args.c.places i 0 in
    let h = sound-true place c.args.c.word c.args.c.lists (sym c.is_sound.ensures ∙ c.if-not-is_sound.false) in
    let m : c.args.i < 32 = omega (arith, c.from-at.ensures) in
    let lo : 1 ≤ place c.args.i = omega (arith, rw c.from-at.ensures at c.if-c-at-eq0.false) in
    rw c.from-at.ensures
    (movable place c.args.c.word c.args.c.lists h c.args.i m (place c.args.i) c.args.p lo (h.rows.places c.args.i m) refl (omega arith) (omega arith))
