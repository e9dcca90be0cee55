-- 02 E2: the word of the threads that have something pending, and the search through it.
use Rattle.std.specs.Prelude.{ℕ, zero, suc, ◌/◌, ◌%◌, ◌<◌, cond, ◌≡◌, List, get_or, length, set, eqb}
use Rattle.records.specs.Ranges.{most_threads}
use Rattle.due_search.specs.declared.Due.{Due}
use Rattle.due_search.specs.Search.{next_due}
use Rattle.due_search.specs.Kept.{NoneBefore}

-- binary digit j of a word, the lowest first
unfoldable pub digit : ℕ → ℕ → ℕ
digit zero word = word % 2
digit (suc j) word = digit j (word / 2)

-- whether thread j has something pending
abbrev pub pending_digit : List ℕ → ℕ → ℕ
pending_digit counts j = cond (eqb (get_or counts j 0) 0) 0 1

-- digit j of the word is set exactly when thread j has something pending
abbrev pub PendingWord : List ℕ → ℕ → Type 0
PendingWord counts word = (j : ℕ) → j < most_threads → digit j word ≡ pending_digit counts j

-- 02 E2 3: r is the next due of any counts whose word it is, where no first due is before `earliest`
abbrev pub NextInWord : ℕ → List ℕ → ℕ → Due → Type 0
NextInWord word dues earliest r =
    (counts : List ℕ) → PendingWord counts word → NoneBefore counts dues most_threads earliest → r ≡ next_due counts dues most_threads

-- r is the word of the counts after thread i's became `count`
abbrev pub WordAfter : ℕ → ℕ → ℕ → ℕ → Type 0
WordAfter word i count r = (counts : List ℕ) → i < length counts → PendingWord counts word → PendingWord (set counts i count) r
