-- `ready_sound::sound` meets its contract: what is left, for the lists that are left, decides the whole.
use Prim.Native.Nat.{ℕ, suc, ◌+◌, ◌-◌, ◌^◌, ◌≤◌}
use mathlib.Core.Path.{◌≡◌, refl, sym, ap, ◌∙◌}
use native.Mathlib.Omega.{arith}
use lib.ListN.{drop, length-take, length-drop}
use lib.Pow.{pow_pos}
use Rattle.ready.specs.Lists.{start}
use Rattle.ready.specs.Word.{highest_of}
use Rattle.ready_sound.proofs.PassLaws.{Next, pass-start, pass-next, pass-fails, pass-passes, last-fails, last-decides}
use Rattle.ready_sound.proofs.sound.Goals as goal

pub loop-rest-init : goal.loop-rest-init
loop-rest-init c = let a = c.args in pass-start a.word a.lists.now a.places _ (omega arith) (omega arith) (omega arith)

-- where its row starts, and that the part is a row at least
record Begins (p at end : ℕ) : Type 0 where
  low : 1 ≤ p
  high : p ≤ 32
  row : at + 33 ≤ end
  within : end ≤ 1056

begins : {rest : ℕ} (p at end : ℕ) → Next rest end → p ≡ highest_of rest → at ≡ start p → Begins p at end
begins p at end x h e =
    let k : p ≡ suc x.list = h ∙ x.highest in
    record { low = omega arith; high = omega (arith, x.range); row = omega (arith, x.ends); within = omega (arith, x.ends, x.range) }

pub row_start-at-requires : goal.row_start-at-requires
row_start-at-requires c = let x = pass-next c.args.word c.args.lists.now c.args.places c.loop-rest.left c.loop-rest.rest c.loop-rest.end c.loop-rest.invariant (omega arith) in (omega (arith, c.highest-p.ensures, x.highest), omega (arith, c.highest-p.ensures, x.highest, x.range))

pub slice_bounds-strike_row-count : goal.slice_bounds-strike_row-count
slice_bounds-strike_row-count c = let g = begins c.highest-p.result c.row_start-at.result c.loop-rest.end (pass-next c.args.word c.args.lists.now c.args.places c.loop-rest.left c.loop-rest.rest c.loop-rest.end c.loop-rest.invariant (omega arith)) c.highest-p.ensures c.row_start-at.ensures in omega (arith, g.row)

pub slice_bounds-strike_row-start : goal.slice_bounds-strike_row-start
slice_bounds-strike_row-start c = let g = begins c.highest-p.result c.row_start-at.result c.loop-rest.end (pass-next c.args.word c.args.lists.now c.args.places c.loop-rest.left c.loop-rest.rest c.loop-rest.end c.loop-rest.invariant (omega arith)) c.highest-p.ensures c.row_start-at.ensures in omega (arith, g.row, g.within)

pub slice_bounds-strike_row-end : goal.slice_bounds-strike_row-end
slice_bounds-strike_row-end c = let g = begins c.highest-p.result c.row_start-at.result c.loop-rest.end (pass-next c.args.word c.args.lists.now c.args.places c.loop-rest.left c.loop-rest.rest c.loop-rest.end c.loop-rest.invariant (omega arith)) c.highest-p.ensures c.row_start-at.ensures in omega (arith, g.row, g.within)

pub strike_row-requires : goal.strike_row-requires
strike_row-requires c =
    let r = c in
    let b = r in
    let l = b.args.lists.now in
    let at = r.row_start-at.result in
    let g = begins c.highest-p.result c.row_start-at.result c.loop-rest.end (pass-next c.args.word c.args.lists.now c.args.places c.loop-rest.left c.loop-rest.rest c.loop-rest.end c.loop-rest.invariant (omega arith)) c.highest-p.ensures c.row_start-at.ensures in
    (g.low, omega (arith, g.row, g.within, length-take (b.loop-rest.end - at) (drop at l), length-drop at l))

pub returns-then-not-strike_row : goal.returns-then-not-strike_row
returns-then-not-strike_row c =
    let d = c in
    let r = d in
    let b = r in
    let a = b.args in
    pass-fails a.word a.lists.now a.places b.loop-rest.left b.loop-rest.rest b.loop-rest.end r.highest-p.result r.row_start-at.result
    (omega arith) b.loop-rest.invariant (pass-next c.args.word c.args.lists.now c.args.places c.loop-rest.left c.loop-rest.rest c.loop-rest.end c.loop-rest.invariant (omega arith)) r.highest-p.ensures r.row_start-at.ensures refl d.strike_row.ensures
    (c.if-not-strike_row.true)

pub bit-rest-requires : goal.bit-rest-requires
bit-rest-requires c = let g = begins c.highest-p.result c.row_start-at.result c.loop-rest.end (pass-next c.args.word c.args.lists.now c.args.places c.loop-rest.left c.loop-rest.rest c.loop-rest.end c.loop-rest.invariant (omega arith)) c.highest-p.ensures c.row_start-at.ensures in (g.low, g.high)

pub overflow_sub-rest : goal.overflow_sub-rest
overflow_sub-rest c =
    let r = c in
    let x = pass-next c.args.word c.args.lists.now c.args.places c.loop-rest.left c.loop-rest.rest c.loop-rest.end c.loop-rest.invariant (omega arith) in
    let k : r.highest-p.result - 1 ≡ x.list = omega (arith, r.highest-p.ensures, x.highest) in
    omega (arith, c.bit-rest.ensures, ap (λ (n : ℕ). 2 ^ n) k, x.low)

pub loop-rest-smaller : goal.loop-rest-smaller
loop-rest-smaller c =
    let p = c.highest-p.result in
    omega (arith, c.bit-rest.ensures, pow_pos (p - 1))

pub loop-rest-preserved : goal.loop-rest-preserved
loop-rest-preserved c =
    let d = c in
    let r = d in
    let b = r in
    let a = b.args in
    rw c.bit-rest.ensures
    (pass-passes a.word a.lists.now a.places b.loop-rest.left b.loop-rest.rest b.loop-rest.end r.highest-p.result r.row_start-at.result
    (omega arith) b.loop-rest.invariant (pass-next c.args.word c.args.lists.now c.args.places c.loop-rest.left c.loop-rest.rest c.loop-rest.end c.loop-rest.invariant (omega arith)) r.highest-p.ensures r.row_start-at.ensures refl d.strike_row.ensures
    (c.if-not-strike_row.false))

pub slice_bounds-all_zero-end : goal.slice_bounds-all_zero-end
slice_bounds-all_zero-end c =
    let b = c in
    let l = b.args.lists.now in
    let h = b.loop-rest.invariant in
    omega (arith, length-take b.loop-rest.end l, h.ends, h.range)

pub returns-then-not-all_zero : goal.returns-then-not-all_zero
returns-then-not-all_zero c =
    let z = c in
    let b = z in
    let a = b.args in
    last-fails a.word a.lists.now a.places b.loop-rest.left b.loop-rest.rest b.loop-rest.end (omega arith) b.loop-rest.invariant (omega arith)
    (sym z.all_zero.ensures ∙ c.if-not-all_zero.true)

pub slice_bounds-all_zero-end-2 : goal.slice_bounds-all_zero-end-2
slice_bounds-all_zero-end-2 c = sym c.loop-rest.invariant.array

pub returns : goal.returns
returns c =
    let i = c in
    let z = i in
    let b = z in
    let a = b.args in
    c.all_zero-2.ensures
    ∙ last-decides a.word a.lists.now a.places b.loop-rest.left b.loop-rest.rest b.loop-rest.end (omega arith) b.loop-rest.invariant (omega arith)
    (sym z.all_zero.ensures ∙ c.if-not-all_zero.false)
