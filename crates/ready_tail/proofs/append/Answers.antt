-- `ready_tail::append` meets its contract: two stores put the thread behind the last, and the word gains a bit where the list was empty.
use Prim.Native.Nat.{ℕ, ◌+◌}
use mathlib.Core.Path.{◌≡◌, sym, ap, ◌∙◌}
use native.Mathlib.Omega.{arith}
use lib.ListN.{set, get_or}
use Rattle.ready.specs.Lists.{appended}
use Rattle.ready.specs.Word.{size_at, occupancy}
use Rattle.ready.proofs.RowLaws.{size-read, append-stores}
use Rattle.ready.proofs.WordLaws.{occupancy-lt}
use Rattle.ready.proofs.ListLaws.{append-fill, append-same}
use Rattle.ready_tail.proofs.append.Goals as goal
use Rattle.ready_tail.proofs.append.Goals.{After-from, After-bit}

-- the length that was read
read : (c : After-from) → get_or c.args.lists.now c.row_start-at.result 0 ≡ size_at c.args.lists.now c.args.p
read c = size-read c.args.p c.row_start-at.result c.args.lists.now c.row_start-at.ensures

stored : (c : After-from)
    → set (set c.args.lists.now (c.row_start-at.result + 1 + c.from.result) c.args.i) c.row_start-at.result (get_or c.args.lists.now c.row_start-at.result 0 + 1)
    ≡ appended c.args.p c.args.i c.args.lists.now
stored c =
    append-stores c.args.word c.args.p c.args.lists.now c.requires.formed c.args.i c.row_start-at.result c.from.result
    c.row_start-at.ensures c.from.ensures c.requires.room

-- the word with the bit of a list that was empty
filled : (c : After-bit) → c.args.word + c.bit.result ≡ occupancy (appended c.args.p c.args.i c.args.lists.now)
filled c =
    let a = c.args in
    ap (λ (k : ℕ). a.word + k) c.bit.ensures
    ∙ append-fill a.word a.p a.i a.lists.now c.requires (sym (size-read a.p c.row_start-at.result a.lists.now c.row_start-at.ensures) ∙ c.if-n-eq0.true)

pub overflow_add-lists-2 : goal.overflow_add-lists-2
overflow_add-lists-2 c = omega (arith, read (goal.at.overflow_add-lists-2 c).After-from)

pub bounds-lists-at-2 : goal.bounds-lists-at-2
bounds-lists-at-2 c = omega (arith, read (goal.at.bounds-lists-at-2 c).After-from)

pub overflow_add-lists-3 : goal.overflow_add-lists-3
overflow_add-lists-3 c = omega (arith, read (goal.at.overflow_add-lists-3 c).After-from)

pub overflow_add-result : goal.overflow_add-result
overflow_add-result c = omega (arith, filled (goal.at.overflow_add-result c).After-bit, occupancy-lt (appended c.args.p c.args.i c.args.lists.now))

pub returns-then-n-eq0 : goal.returns-then-n-eq0
returns-then-n-eq0 c = let g = goal.at.returns-then-n-eq0 c in (stored g.After-from, filled g.After-bit)

pub returns : goal.returns
returns c =
    let a = c.args in
    let w = (goal.at.returns c).After-from in
    (stored w, append-same a.word a.p a.i a.lists.now c.requires (λ e. c.if-n-eq0.false (read w ∙ e)))
