-- 02 E2: the search for the next due as other languages call it, over any counts and entries.
use Rattle.std.specs.Prelude.{ℕ, Bool, cond, ◌&&◌, List, leb}
use Rattle.base.specs.Status.{wrong_thread}
use Rattle.records.specs.Ranges.{most_threads}
use Rattle.due_search.specs.declared.Due.{Due}
use Rattle.due_search.specs.Search.{next_due}
use Rattle.board_search.specs.declared.NextDue.{NextDue}

-- what was found, with status 0
abbrev pub found_of : Due → NextDue
found_of x = record { status = 0; thread = x.thread; due = x.due }

-- 01 Status 6: N out of range is refused with 5, and then none is found (ours)
abbrev pub refused_search : NextDue
refused_search = record { status = wrong_thread; thread = most_threads; due = 0 }

-- 02 E2 3: none is thread 32, never due 0
abbrev pub search_answer : List ℕ → List ℕ → ℕ → NextDue
search_answer counts dues n = cond (leb 1 n && leb n most_threads) (found_of (next_due counts dues n)) refused_search
