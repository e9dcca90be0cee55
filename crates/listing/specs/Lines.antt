-- The lines of a listing as bytes. Numbers are in decimal without leading zeros; a line ends in one newline (01 Replay 7).
use Rattle.std.specs.Prelude.{ℕ, suc, List, [], ◌∷◌, ◌++◌, get_or}
use Rattle.text.specs.Fields.{space, newline, labelled, row}
use Rattle.state.specs.{declared.State.State, State.thread_at}
use Rattle.passing.specs.Sequence.{Answer}
use Rattle.trace.specs.Lists.{joined}

-- the words `thread`, `idle` and `refused`, each with a space after it
abbrev pub thread_word : List ℕ
thread_word = 116 ∷ 104 ∷ 114 ∷ 101 ∷ 97 ∷ 100 ∷ space ∷ []

abbrev pub idle_word : List ℕ
idle_word = 105 ∷ 100 ∷ 108 ∷ 101 ∷ space ∷ []

abbrev pub refused_word : List ℕ
refused_word = 114 ∷ 101 ∷ 102 ∷ 117 ∷ 115 ∷ 101 ∷ 100 ∷ space ∷ []

-- the first line: `event status running next`
abbrev pub header_line : List ℕ
header_line =
    101 ∷ 118 ∷ 101 ∷ 110 ∷ 116 ∷ space ∷ 115 ∷ 116 ∷ 97 ∷ 116 ∷ 117 ∷ 115 ∷ space ∷ 114 ∷ 117 ∷ 110 ∷ 110 ∷ 105 ∷ 110 ∷ 103 ∷ space ∷ 110 ∷ 101 ∷ 120 ∷ 116 ∷ newline ∷ []

-- the line of event i: its number, its status, the running thread and the next moment
unfoldable pub event_line : ℕ → ℕ → ℕ → ℕ → List ℕ
event_line i status running next = row i status running next

-- 01 Replay 5: the line of thread i: `thread`, its number, capacity, pending count and total
unfoldable pub thread_line : ℕ → ℕ → ℕ → ℕ → List ℕ
thread_line i capacity count total = thread_word ++ row i capacity count total

-- the last line: `idle` and the idle time
unfoldable pub idle_line : ℕ → List ℕ
idle_line idle = labelled idle_word idle

-- 01 Replay 8: the only line of a file that can't be replayed: `refused` and the number
unfoldable pub refused_line : ℕ → List ℕ
refused_line n = labelled refused_word n

-- a line for each answer, the first of them to event i
unfoldable pub event_lines : ℕ → List (Answer State) → List ℕ
event_lines i [] = []
event_lines i (a ∷ rest) = event_line i a.status a.running a.next ++ event_lines (suc i) rest

-- a line for each of the N threads of a state, by number
unfoldable pub thread_lines : State → ℕ → List ℕ
thread_lines s n = joined (λ i. thread_line i (thread_at s i).server.capacity (get_or s.counts i 0) (thread_at s i).total) n
