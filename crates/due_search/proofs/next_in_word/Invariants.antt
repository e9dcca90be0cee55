-- The loop of `due_search::next_in_word`: `best` is what the definition gives for the threads that the word no longer names.
use Prim.Native.Nat.{ℕ, ◌-◌, ◌^◌, ◌<◌}
use mathlib.Core.List.{List}
use native.Mathlib.Omega.{arith}
use Rattle.due_search.specs.Word.{PendingWord}
use Rattle.due_search.proofs.SearchLaws.{Seen}
use Rattle.due_search.proofs.next_in_word.Given as goal

abbrev pub invariant-loop-best : goal.invariant-loop-best
invariant-loop-best l = (l.rest < 2 ^ 32) × ((counts : List ℕ) → PendingWord counts l.word → Seen counts l.dues 32 l.rest l.best)

abbrev pub decreases-loop-best : goal.decreases-loop-best
decreases-loop-best l = l.rest
