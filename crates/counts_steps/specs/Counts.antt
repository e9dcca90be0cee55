-- What happened at the events of a file, as text (02 E3): the lines of each event in order, then the sums of each thread of the table; or
-- the line of a refusal, as a listing has it (01 Replay 8).
use Rattle.std.specs.Prelude.{ℕ, suc, eqb}
use mathlib.Core.{Bool.cond, List.List, List.[], List.◌∷◌, List.◌++◌}
use Rattle.records.specs.declared.Event.{Event}
use Rattle.passing.specs.{Sequence.answer, Reports.reports, Reports.total}
use Rattle.reports.specs.Tallies.{numbers}
use Rattle.state.specs.declared.State.{State}
use Rattle.moments.specs.Reports.{tallies}
use Rattle.events.specs.{Answers.executive, Reports.own_tallies, Reports.event_numbers}
use Rattle.replay_steps.specs.FileSteps.{opening_of, begun_of, events_in, closing}
use Rattle.listing.specs.Lines.{refused_line}
use Rattle.counts_text.specs.Lines.{event_text, sums_text}

-- 02 E3 2: the lines of a sequence of events, the first of them number i, each event being given the state that the one before it returned
unfoldable pub event_texts : ℕ → State → List Event → List ℕ
event_texts i s [] = []
event_texts i s (e ∷ es) =
    event_text i (answer executive s e).status s.header.n (event_numbers s e) ++ event_texts (suc i) (answer executive s e).state es

-- what the events of a sequence tell, added up
unfoldable pub sums_over : State → List Event → List ℕ
sums_over s es = numbers (total tallies (reports executive tallies own_tallies s es))

-- a file that is replayed: the lines of its events, and the sums
unfoldable pub replayed_counts : List ℕ → List ℕ
replayed_counts file = event_texts 0 (opening_of file).state (events_in file) ++ sums_text (closing file).header.n (sums_over (opening_of file).state (events_in file))

-- 01 Replay 8: a file that is refused by the reader, or else by the opening, gives the line of that refusal
unfoldable pub counts_of : List ℕ → List ℕ
counts_of file = cond (eqb (begun_of file).status 0) (replayed_counts file) (refused_line (begun_of file).status)
