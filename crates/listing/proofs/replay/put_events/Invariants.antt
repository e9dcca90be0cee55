-- `listing::replay::put_events` meets its contract: the lines so far and those of the events that are left are all.
use Prim.Native.Nat.{◌+◌, ◌-◌, ◌*◌, ◌≤◌}
use mathlib.Core.Bool.{true}
use mathlib.Core.Path.{◌≡◌}
use lib.ListN.{length}
use Rattle.state.specs.Sound.{sound_state}
use Rattle.state.specs.Updates.{whole}
use Rattle.replay_steps.specs.FileSteps.{answers_from, end_from}
use Rattle.trace_records.specs.Layout.{most_events}
use Rattle.listing.specs.Lines.{event_lines}
use Rattle.listing.specs.Private.{event_line_most}
use Rattle.listing.proofs.PrintLaws.{Printed}
use Rattle.listing.proofs.replay.put_events.Given as goal

abbrev pub invariant-loop-i : goal.invariant-loop-i
invariant-loop-i l =
    (sound_state (whole l.s l.dues l.amounts) ≡ true)
    × (length l.out ≡ length l.initial.out)
    × (l.here ≤ l.at + event_line_most * l.i)
    × (end_from (whole l.s l.dues l.amounts) l.file l.offset (most_events - l.i) ≡ end_from (whole l.initial.s l.initial.dues l.initial.amounts) l.file l.initial.offset most_events)
    × Printed l.initial.out l.out l.at l.here (event_lines l.i (answers_from (whole l.s l.dues l.amounts) l.file l.offset (most_events - l.i))) (event_lines 0 (answers_from (whole l.initial.s l.initial.dues l.initial.amounts) l.file l.initial.offset most_events))
