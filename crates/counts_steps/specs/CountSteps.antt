-- The same event by event: what a step gives, and that the steps of a file give the whole.
use Rattle.std.specs.Prelude.{ℕ, suc, ◌*◌, ◌≤◌, length, get_or, replicate}
use mathlib.Core.{Bool.Bool, Bool.true, Bool.false, Bool.cond, List.List, List.[], List.◌++◌, Path.◌≡◌}
use Rattle.records.specs.Ranges.{most_threads}
use Rattle.reports.specs.Tallies.{per_thread}
use Rattle.state.specs.{declared.State.State, Updates.whole}
use Rattle.events.specs.Reports.{most_told}
use Rattle.trace_records.specs.Layout.{most_events}
use Rattle.trace_reader.specs.Reader.{first_offset, events_from}
use Rattle.replay_steps.specs.FileSteps.{opening_of, begun_of, stepped_of, told_at, closing, end_from}
use Rattle.counts_text.specs.{Lines.event_text, Lines.sums_text, Sums.added}
use Rattle.counts_steps.specs.{declared.Counted.Counted, Counts.event_texts, Counts.sums_over, Counts.counts_of}

-- the lines of the event at an offset of the file, as event i, given to a state; none where the file ends
unfoldable pub text_at : ℕ → State → List ℕ → ℕ → List ℕ
text_at i s file offset =
    cond (stepped_of s file offset).more (event_text i (stepped_of s file offset).answer.status s.header.n (told_at s file offset)) []

-- what a step answers, with the state whole: whether there was an event, the offset after it, how many bytes its lines have, and the state
-- that it left
pub record CountStep : Type 0 where
  pub more : Bool
  pub offset : ℕ
  pub length : ℕ
  pub state : State

abbrev pub counted_with : Counted → List ℕ → List ℕ → CountStep
counted_with r dues amounts = record { more = r.more; offset = r.offset; length = r.length; state = whole r.core dues amounts }

unfoldable pub counted_at : ℕ → State → List ℕ → ℕ → CountStep
counted_at i s file offset =
    record {
      more = (stepped_of s file offset).more;
      offset = (stepped_of s file offset).offset;
      length = length (text_at i s file offset);
      state = (stepped_of s file offset).answer.state;
    }

-- the sums of at most i events: none is more than so many times what one event tells at most, so that no sum of a file wraps
pub record SumsOf (i : ℕ) (xs : List ℕ) : Type 0 where
  pub all : length xs ≡ most_threads * per_thread
  pub most : (k : ℕ) → get_or xs k 0 ≤ i * most_told

-- ---- the steps of a file

-- at most k events from an offset on, as the reader yields them: their lines, the first of them number i; and what they tell, added up
unfoldable pub text_from : ℕ → State → List ℕ → ℕ → ℕ → List ℕ
text_from i s file offset k = event_texts i s (events_from file offset k)

unfoldable pub sums_from : State → List ℕ → ℕ → ℕ → List ℕ
sums_from s file offset k = sums_over s (events_from file offset k)

-- a step with an event gives its lines and its numbers, and leads to where the steps after it give those of the others
pub record Leads (i : ℕ) (s : State) (file : List ℕ) (offset k : ℕ) (x : CountStep) : Type 0 where
  pub text : text_from i s file offset (suc k) ≡ text_at i s file offset ++ text_from (suc i) x.state file x.offset k
  pub sums : sums_from s file offset (suc k) ≡ added (told_at s file offset) (sums_from x.state file x.offset k)
  pub state : end_from s file offset (suc k) ≡ end_from x.state file x.offset k

-- a step at the end of the file tells nothing and leaves the state as it is, and there are no others
pub record Ends (i : ℕ) (s : State) (file : List ℕ) (offset k : ℕ) (x : CountStep) : Type 0 where
  pub text : text_from i s file offset k ≡ []
  pub sums : sums_from s file offset k ≡ replicate (most_threads * per_thread) 0
  pub state : end_from s file offset k ≡ s
  pub told : told_at s file offset ≡ replicate (most_threads * per_thread) 0
  pub stays : x.state ≡ s

abbrev pub StepsCount : Type 0
StepsCount =
    (i : ℕ) (s : State) (file : List ℕ) (offset k : ℕ)
    → ((counted_at i s file offset).more ≡ true → Leads i s file offset k (counted_at i s file offset))
    × ((counted_at i s file offset).more ≡ false → Ends i s file offset k (counted_at i s file offset))

-- 01 Trace 7: the steps from a file's first event on give the lines of all of its events and the sums
abbrev pub StepsCountAll : Type 0
StepsCountAll =
    (file : List ℕ) → (begun_of file).status ≡ 0
    → counts_of file
    ≡ text_from 0 (opening_of file).state file (first_offset file) most_events
    ++ sums_text (closing file).header.n (sums_from (opening_of file).state file (first_offset file) most_events)
