-- `due_search::each_thread` meets its contract: after i threads `best` is what the definition gives for i.
use mathlib.Core.Path.{◌≡◌}
use Rattle.due_search.specs.Search.{next_due}
use Rattle.due_search.proofs.each_thread.Given as goal

abbrev pub invariant-loop-i : goal.invariant-loop-i
invariant-loop-i l = l.best ≡ next_due l.counts l.dues l.i
