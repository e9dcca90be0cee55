-- `due_search::next_in_word` meets its contract: `best` is what the definition gives for the threads that the word no longer names, and
-- where the search ends early none of the others is sooner.
use Prim.Native.Nat.{ℕ, ◌-◌, ◌<◌, ◌≤◌}
use mathlib.Core.Path.{◌≡◌}
use native.Mathlib.Omega.{arith}
use lib.Bits.{and_le_r}
use lib.Count.{count_trailing_zeros, trailing_of_zero}
use Rattle.due_search.proofs.DigitLaws.{set-within}
use Rattle.due_search.proofs.SearchLaws.{none_found, seen_first, seen_next, seen_all, seen-enough}
use Rattle.due_search.proofs.next_in_word.Goals as goal
use Rattle.due_search.proofs.next_in_word.Goals.{After-lowest-first, After-lowest-k, After-without_lowest-rest-in-loop-best}

-- a word of 0 names no thread
no-thread : (word : ℕ) → word ≡ 0 → 32 ≤ count_trailing_zeros 32 word
no-thread word e = rw (e, trailing_of_zero 32) (omega arith)

pub returns-then-word-eq0 : goal.returns-then-word-eq0
returns-then-word-eq0 c counts p a =
    let b = c.args in
    none_found counts b.dues.now 32 b.word (omega arith) p (no-thread b.word c.if-word-eq0.true)

pub lowest-first-requires : goal.lowest-first-requires
lowest-first-requires c = tt

pub without_lowest-rest-requires : goal.without_lowest-rest-requires
without_lowest-rest-requires c = omega (arith, c.if-word-eq0.false)

-- the first thread
first_small : (c : After-lowest-first) → c.lowest-first.result < 32
first_small c =
    let b = c in
    omega (arith, c.lowest-first.ensures, set-within 32 b.args.word (omega (arith, b.ranges.word)) (omega (arith, c.if-word-eq0.false)))

pub first_due-requires : goal.first_due-requires
first_due-requires c = first_small (goal.at.first_due-requires c).After-lowest-first

pub loop-best-init : goal.loop-best-init
loop-best-init c =
    let w = c in
    let f = w in
    let b = f in
    let a = b.args in (
      omega (arith, w.without_lowest-rest.ensures, and_le_r a.word (a.word - 1), b.ranges.word),
      λ counts p. rw w.without_lowest-rest.ensures
          (seen_first counts a.dues.now 32 (omega arith) a.word f.lowest-first.result c.first_due.result p f.lowest-first.ensures (first_small (goal.at.loop-best-init c).After-lowest-first) c.first_due.ensures),
    )

pub returns-then-rest-eq0 : goal.returns-then-rest-eq0
returns-then-rest-eq0 c counts p a =
    let l = c in
    let b = l.args in
    seen_all counts b.dues.now 32 (omega arith) l.loop-best.rest l.loop-best.best (l.loop-best.invariant.1 counts p) (no-thread l.loop-best.rest c.if-rest-eq0.true)

pub lowest-k-requires : goal.lowest-k-requires
lowest-k-requires c = tt

pub without_lowest-rest-requires-in-loop-best : goal.without_lowest-rest-requires-in-loop-best
without_lowest-rest-requires-in-loop-best c = omega (arith, c.if-rest-eq0.false)

-- the next thread
next_small : (c : After-lowest-k) → c.lowest-k.result < 32
next_small c =
    let l = c in
    omega (arith, c.lowest-k.ensures, set-within 32 l.loop-best.rest l.loop-best.invariant.0 (omega (arith, c.if-rest-eq0.false)))

pub first_due-requires-in-loop-best : goal.first_due-requires-in-loop-best
first_due-requires-in-loop-best c = next_small (goal.at.first_due-requires-in-loop-best c).After-lowest-k

pub lesser_of-best-requires : goal.lesser_of-best-requires
lesser_of-best-requires c = tt

-- the rest is less without it
falls : (c : After-without_lowest-rest-in-loop-best) → c.without_lowest-rest-in-loop-best.result < c.loop-best.rest
falls c =
    let r = c.loop-best.rest in
    omega (arith, c.without_lowest-rest-in-loop-best.ensures, and_le_r r (r - 1), c.if-rest-eq0.false)

pub loop-best-smaller : goal.loop-best-smaller
loop-best-smaller c = falls (goal.at.loop-best-smaller c).After-without_lowest-rest-in-loop-best

pub loop-best-preserved : goal.loop-best-preserved
loop-best-preserved c =
    let w = c in
    let k = w in
    let l = k in
    let a = l.args in (
      omega (arith, falls (goal.at.loop-best-preserved c).After-without_lowest-rest-in-loop-best, l.loop-best.invariant.0),
      λ counts p. rw w.without_lowest-rest-in-loop-best.ensures
          (seen_next counts a.dues.now 32 (omega arith) l.loop-best.rest l.loop-best.best (l.loop-best.invariant.1 counts p) k.lowest-k.result
          c.first_due-in-loop-best.result c.lesser_of-best.result k.lowest-k.ensures (next_small (goal.at.loop-best-preserved c).After-lowest-k) c.first_due-in-loop-best.ensures c.lesser_of-best.ensures),
    )

pub returns : goal.returns
returns c counts p a =
    let l = c in
    let b = l.args in
    seen-enough counts b.dues.now 32 (omega arith) l.loop-best.rest l.loop-best.best (l.loop-best.invariant.1 counts p) b.earliest (omega arith) a
