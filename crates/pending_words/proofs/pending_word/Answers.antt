-- `pending_words::pending_word` meets its contract: after k threads the word has k digits, one for each of them.
use Prim.Native.Nat.{ℕ, suc, ◌+◌, ◌^◌, ◌<◌}
use mathlib.Core.Path.{◌≡◌}
use native.Mathlib.Nat.{pow-le-pow_right}
use native.Mathlib.Numerals.{add-one}
use native.Mathlib.Omega.{arith}
use Rattle.due_search.specs.Word.{digit, pending_digit}
use Rattle.due_search.proofs.SearchLaws.{word_more}
use Rattle.pending_words.proofs.pending_word.Goals as goal
use Rattle.pending_words.proofs.pending_word.Goals.{After-pending_bit-word}

-- the word with the bit of the thread that was read
more : (c : After-pending_bit-word)
    → (c.loop-k.word + c.pending_bit-word.result < 2 ^ suc c.loop-k.k)
    × ((j : ℕ) → j < suc c.loop-k.k → digit j (c.loop-k.word + c.pending_bit-word.result) ≡ pending_digit c.args.counts.now j)
more c = word_more c.args.counts.now c.loop-k.k c.loop-k.word c.pending_bit-word.result c.loop-k.invariant.0 c.loop-k.invariant.1 c.pending_bit-word.ensures

pub overflow_add-word : goal.overflow_add-word
overflow_add-word c =
    let k = c.loop-k.k in
    omega (arith, (more (goal.at.overflow_add-word c).After-pending_bit-word).0, pow-le-pow_right {n = 2} (omega arith) {i = suc k} {j = 32} (omega arith))

pub loop-k-preserved : goal.loop-k-preserved
loop-k-preserved c = let m = more (goal.at.loop-k-preserved c).After-pending_bit-word in (rw add-one m.0, rw add-one m.1)

pub returns : goal.returns
returns c j l = c.loop-k.invariant.1 j (omega arith)
