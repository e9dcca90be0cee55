-- `ready_removal::rotate` meets its contract: a lone thread's list stays, and in any other the gap is closed and the head put at the end.
use Prim.Native.Nat.{ℕ, ◌+◌}
use mathlib.Core.Path.{◌≡◌, ap, ◌∙◌}
use mathlib.Core.List.{List}
use native.Mathlib.Omega.{arith}
use lib.ListN.{set, get_or}
use Rattle.ready.specs.Word.{size_at}
use Rattle.ready.proofs.RowLaws.{size-read}
use Rattle.ready.proofs.RotateLaws.{lone-stays, rotate-stores}
use Rattle.ready_removal.proofs.rotate.Goals as goal
use Rattle.ready_removal.proofs.rotate.Goals.{After-from-n}

-- the length that was read
read : (c : After-from-n) → c.from-n.result ≡ size_at c.args.lists.now c.args.p
read c = c.from-n.ensures ∙ size-read c.args.p c.row_start-at.result c.args.lists.now c.row_start-at.ensures

pub row_start-at-requires : goal.row_start-at-requires
row_start-at-requires c = let f = c.requires.formed in (f.low, f.high)

pub returns-then-n-lt2 : goal.returns-then-n-lt2
returns-then-n-lt2 c =
    lone-stays c.args.p c.args.lists.now c.requires c.row_start-at.result c.from-n.result c.row_start-at.ensures c.from-n.ensures c.if-n-lt2.true

pub close-requires : goal.close-requires
close-requires c =
    let f = c.requires.formed in
    omega (arith, read (goal.at.close-requires c).After-from-n, f.short, f.array, c.requires.some)

pub overflow_add-lists : goal.overflow_add-lists
overflow_add-lists c = omega (arith, read (goal.at.overflow_add-lists c).After-from-n, c.requires.formed.short)

pub bounds-lists-at-3 : goal.bounds-lists-at-3
bounds-lists-at-3 c = omega (arith, read (goal.at.bounds-lists-at-3 c).After-from-n, c.requires.formed.short)

pub returns : goal.returns
returns c =
    let r = c.row_start-at.result in
    let l = c.args.lists.now in
    ap (λ (y : List ℕ). set y (r + c.from-n.result) (get_or l (r + 1) 0)) c.close.ensures
    ∙ rotate-stores c.args.p l c.requires r c.from-n.result c.row_start-at.ensures c.from-n.ensures
