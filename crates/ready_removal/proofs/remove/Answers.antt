-- `ready_removal::remove` meets its contract: the gap that the thread leaves is closed, and the word loses the bit of a list that empties.
use Prim.Native.Nat.{ℕ, ◌+◌, ◌-◌, ◌≤◌, ◌<◌}
use mathlib.Core.Path.{◌≡◌, sym, ap, ◌∙◌}
use mathlib.Core.List.{List}
use native.Mathlib.Omega.{arith}
use lib.ListN.{set, get_or, take, drop}
use Rattle.ready.specs.Lists.{threads, removed}
use Rattle.ready.specs.Word.{size_at, occupancy}
use Rattle.ready.specs.Private.{index_of}
use Rattle.ready.proofs.RowLaws.{size-read, remove-index, remove-stores}
use Rattle.ready.proofs.ListLaws.{remove-clear, remove-same}
use Rattle.ready_removal.proofs.remove.Goals as goal
use Rattle.ready_removal.proofs.remove.Goals.{After-index_of-j, After-close, After-bit}

-- the length that was read
read : (c : After-index_of-j) → get_or c.args.lists.now c.row_start-at.result 0 ≡ size_at c.args.lists.now c.args.p
read c = size-read c.args.p c.row_start-at.result c.args.lists.now c.row_start-at.ensures

-- where it was sought
sought : (at k j i : ℕ) (l : List ℕ) → j ≡ index_of i (take ((at + 1 + k) - (at + 1)) (drop (at + 1) l)) → j ≡ index_of i (take k (drop (at + 1) l))
sought at k j i l e = let m : (at + 1 + k) - (at + 1) ≡ k = omega arith in rw m at e

-- where the thread stands
found : (c : After-index_of-j)
    → (c.index_of-j.result ≡ index_of c.args.i (threads c.args.p c.args.lists.now))
    × (c.index_of-j.result < c.from-k.result)
    × (c.from-k.result ≤ 32)
found c =
    remove-index c.args.word c.args.p c.args.lists.now c.requires.formed c.args.i c.row_start-at.result c.from-k.result
    c.row_start-at.ensures c.from-k.ensures c.index_of-j.result (sought c.row_start-at.result c.from-k.result c.index_of-j.result c.args.i c.args.lists.now c.index_of-j.ensures) c.requires.member

-- the array once the gap is closed and the length stored
stored : (c : After-close) → set c.close.new.lists c.row_start-at.result (get_or c.args.lists.now c.row_start-at.result 0 - 1) ≡ removed c.args.p c.args.i c.args.lists.now
stored c =
    let l = c.args.lists.now in
    let k =
    remove-index c.args.word c.args.p l c.requires.formed c.args.i c.row_start-at.result c.from-k.result
    c.row_start-at.ensures c.from-k.ensures c.index_of-j.result (sought c.row_start-at.result c.from-k.result c.index_of-j.result c.args.i c.args.lists.now c.index_of-j.ensures) c.requires.member in
    ap (λ (t : List ℕ). set t c.row_start-at.result (get_or l c.row_start-at.result 0 - 1)) c.close.ensures
    ∙ remove-stores c.args.word c.args.p l c.requires.formed c.args.i c.row_start-at.result c.from-k.result
    c.row_start-at.ensures c.from-k.ensures c.index_of-j.result k.0 c.requires.member

-- the word without the bit of a list that empties
cleared : (c : After-bit) → c.args.word ≡ occupancy (removed c.args.p c.args.i c.args.lists.now) + c.bit.result
cleared c =
    let l = c.args.lists.now in
    remove-clear c.args.word c.args.p c.args.i l c.requires (sym (size-read c.args.p c.row_start-at.result l c.row_start-at.ensures) ∙ c.if-n-eq1.true)
    ∙ ap (λ (k : ℕ). occupancy (removed c.args.p c.args.i l) + k) (sym c.bit.ensures)

pub overflow_add-at-5 : goal.overflow_add-at-5
overflow_add-at-5 c = omega (arith, found (goal.at.overflow_add-at-5 c).After-index_of-j)

pub overflow_sub-k : goal.overflow_sub-k
overflow_sub-k c = omega (arith, found (goal.at.overflow_sub-k c).After-index_of-j)

pub close-requires : goal.close-requires
close-requires c = omega (arith, found (goal.at.close-requires c).After-index_of-j, c.requires.formed.array)

pub overflow_sub-lists : goal.overflow_sub-lists
overflow_sub-lists c = omega (arith, found (goal.at.overflow_sub-lists c).After-index_of-j, c.from-k.ensures)

pub overflow_sub-result : goal.overflow_sub-result
overflow_sub-result c = omega (arith, cleared (goal.at.overflow_sub-result c).After-bit)

pub returns-then-n-eq1 : goal.returns-then-n-eq1
returns-then-n-eq1 c = let g = goal.at.returns-then-n-eq1 c in (stored g.After-close, omega (arith, cleared g.After-bit))

pub returns : goal.returns
returns c =
    let g = goal.at.returns c in
    (stored g.After-close, remove-same c.args.word c.args.p c.args.i c.args.lists.now c.requires (λ e. c.if-n-eq1.false (read g.After-index_of-j ∙ e)))
