-- What happened at the events of a trace (02 E3), as lines. The form is ours: of each event its number and its status, then a line for
-- each thread of which a number is not 0; at the end the sums of every thread. Thread i's four numbers stand from i * 4 on.
use Rattle.std.specs.Prelude.{ℕ, ◌+◌, ◌*◌}
use mathlib.Core.{Bool.Bool, Bool.cond, List.List, List.[], List.◌∷◌, List.◌++◌}
use lib.{Dec.eqb, ListN.get_or}
use Rattle.base.specs.Tests.{all}
use Rattle.reports.specs.Tallies.{per_thread}
use Rattle.text.specs.Fields.{space, newline, field, row}
use Rattle.trace.specs.Lists.{joined}

-- the words `event`, `count` and `sum`, each with a space after it
abbrev pub event_word : List ℕ
event_word = 101 ∷ 118 ∷ 101 ∷ 110 ∷ 116 ∷ space ∷ []

abbrev pub count_word : List ℕ
count_word = 99 ∷ 111 ∷ 117 ∷ 110 ∷ 116 ∷ space ∷ []

abbrev pub sum_word : List ℕ
sum_word = 115 ∷ 117 ∷ 109 ∷ space ∷ []

-- the line of event i: its number and its status
unfoldable pub event_line : ℕ → ℕ → List ℕ
event_line i status = event_word ++ field i space ++ field status newline

-- 02 E3 2: a line of a word, a thread's number, its limits, quanta and replenishments, and the sum of their amounts
unfoldable pub four_line : List ℕ → ℕ → ℕ → ℕ → ℕ → ℕ → List ℕ
four_line word i limits quanta replenishments amounts = word ++ field i space ++ row limits quanta replenishments amounts

-- of thread i
abbrev pub thread_line : List ℕ → List ℕ → ℕ → List ℕ
thread_line word xs i =
    four_line word i (get_or xs (i * per_thread) 0) (get_or xs (i * per_thread + 1) 0) (get_or xs (i * per_thread + 2) 0) (get_or xs (i * per_thread + 3) 0)

-- nothing happened to thread i
unfoldable pub quiet : List ℕ → ℕ → Bool
quiet xs i =
    all
    (eqb (get_or xs (i * per_thread) 0) 0 ∷ eqb (get_or xs (i * per_thread + 1) 0) 0 ∷ eqb (get_or xs (i * per_thread + 2) 0) 0 ∷ eqb (get_or xs (i * per_thread + 3) 0) 0 ∷ [])

-- such a thread has no line
unfoldable pub count_line : List ℕ → ℕ → List ℕ
count_line xs i = cond (quiet xs i) [] (thread_line count_word xs i)

-- the lines of event i, given its status, how many threads there are, and its numbers
unfoldable pub event_text : ℕ → ℕ → ℕ → List ℕ → List ℕ
event_text i status n xs = event_line i status ++ joined (count_line xs) n

-- the last lines: the sums of each of n threads
unfoldable pub sums_text : ℕ → List ℕ → List ℕ
sums_text n xs = joined (thread_line sum_word xs) n
