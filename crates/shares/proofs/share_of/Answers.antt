-- `shares::share_of` meets its contract: the refusals in their order, no time, and the share.
use Prim.Native.Nat.{◌<◌}
use mathlib.Core.Bool.{true}
use mathlib.Core.Path.{◌≡◌, sym, ap, ◌∙◌}
use native.Mathlib.Omega.{arith}
use Rattle.state.specs.Sound.{sound_state}
use Rattle.state.specs.Updates.{whole}
use Rattle.shares.specs.declared.Share.TheVariants as share
use Rattle.shares.proofs.ShareLaws.{times, share-unsound, share-wrong, share-none, share-is}
use Rattle.shares.proofs.share_of.Goals as goal

pub returns-then-not-sound : goal.returns-then-not-sound
returns-then-not-sound c =
    ap share.Refused c.from.ensures
    ∙ sym (share-unsound (whole c.args.c c.args.dues.now c.args.amounts.now) c.args.thread (sym c.sound.ensures ∙ c.if-not-sound.true))

pub returns-then-c-from : goal.returns-then-c-from
returns-then-c-from c =
    ap share.Refused c.from-then-c-from.ensures
    ∙ sym (share-wrong (whole c.args.c c.args.dues.now c.args.amounts.now) c.args.thread (sym c.sound.ensures ∙ c.if-not-sound.false) (omega (arith, c.if-c-from.true, c.from-2.ensures)))

pub returns-then-c : goal.returns-then-c
returns-then-c c =
    sym (share-none (whole c.args.c c.args.dues.now c.args.amounts.now) c.args.thread (sym c.sound.ensures ∙ c.if-not-sound.false) (omega (arith, c.if-c-from.false, c.from-2.ensures)) (omega (arith, c.if-c.true)))

pub bounds-c-from : goal.bounds-c-from
bounds-c-from c = omega (arith, c.if-c-from.false, c.from-2.ensures, c.from-3.ensures, (times (whole c.args.c c.args.dues.now c.args.amounts.now) c.args.thread (sym c.sound.ensures ∙ c.if-not-sound.false)).few)

pub overflow_sub-c : goal.overflow_sub-c
overflow_sub-c c = (times (whole c.args.c c.args.dues.now c.args.amounts.now) c.args.thread (sym c.sound.ensures ∙ c.if-not-sound.false)).order

pub quotient-requires : goal.quotient-requires
quotient-requires c =
    let t = times (whole c.args.c c.args.dues.now c.args.amounts.now) c.from-3.result (sym c.sound.ensures ∙ c.if-not-sound.false) in
    (omega (arith, t.total, t.last), omega (arith, t.last))

pub returns : goal.returns
returns c =
    let s = whole c.args.c c.args.dues.now c.args.amounts.now in
    let e : sound_state s ≡ true = sym c.sound.ensures ∙ c.if-not-sound.false in
    let l : c.args.thread < s.header.n = omega (arith, c.if-c-from.false, c.from-2.ensures) in
    ap share.Of (rw c.from-3.ensures at c.quotient.ensures)
    ∙ sym (share-is s c.args.thread e l (λ z. c.if-c.false (omega (arith, z, (times s c.args.thread e).order))))
