-- `ready_vectors::append` meets what `ready_tail::append` requires: the case was found sound.
use Rattle.std.proofs.Common.{ℕ, get_or, sym, ◌∙◌, arith}
use Rattle.ready.proofs.Soundness.{sound-true}
use Rattle.ready.proofs.SoundLaws.{joinable}
use Rattle.ready_vectors.proofs.append.Goals as goal

pub append-word-requires : goal.append-word-requires
append-word-requires c =
    let place : ℕ → ℕ = λ i. get_or c.args.c.places i 0 in
    let h = sound-true place c.args.c.word c.args.c.lists (sym c.is_sound.ensures ∙ c.if-not-is_sound.false) in
    joinable place c.args.c.word c.args.c.lists h c.args.p (omega arith) (omega arith) c.args.i (omega (arith, c.from-at.ensures)) (λ e. omega (arith, rw c.from-at.ensures at c.if-c-at-ne0.false))
