-- `pending_words::pending_word` meets its contract: after k threads the word has k digits, one for each of them.
use Prim.Native.Nat.{ℕ, ◌^◌, ◌<◌}
use mathlib.Core.Path.{◌≡◌}
use Rattle.due_search.specs.Word.{digit, pending_digit}
use Rattle.pending_words.proofs.pending_word.Given as goal

abbrev pub invariant-loop-k : goal.invariant-loop-k
invariant-loop-k l = (l.word < 2 ^ l.k) × ((j : ℕ) → j < l.k → digit j l.word ≡ pending_digit l.counts j)
