-- `ready_vectors::show_head` meets what `ready::head` requires: the case was found sound, and its word is not 0.
use Rattle.std.proofs.Common.{ℕ, get_or, sym, ◌∙◌}
use Rattle.ready.proofs.Soundness.{sound-true}
use Rattle.ready.proofs.SoundLaws.{highest-sound}
use Rattle.ready_vectors.proofs.show_head.Goals as goal

pub head-requires : goal.head-requires
head-requires c =
    let place : ℕ → ℕ = λ i. get_or c.args.c.places i 0 in
    let h = sound-true place c.args.c.word c.args.c.lists (sym c.is_sound.ensures ∙ c.if-not-is_sound.false) in
    rw c.highest-p.ensures (highest-sound place c.args.c.word c.args.c.lists h c.if-c-eq0.false).held
