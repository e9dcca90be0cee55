-- `counts::write_events` meets its contract: what has been told and what the events that are left tell add up to the whole.
use Rattle.std.proofs.Common.{◌≡◌, ◌-◌, true, length}
use Rattle.trace_records.specs.Layout.{most_events}
use Rattle.state.specs.Sound.{sound_state}
use Rattle.state.specs.Updates.{whole}
use Rattle.replay_steps.specs.FileSteps.{end_from}
use Rattle.counts_text.specs.Sums.{added}
use Rattle.counts_steps.specs.CountSteps.{SumsOf, sums_from}
use Rattle.counts.proofs.write_events.Given as goal

abbrev pub invariant-loop-i : goal.invariant-loop-i
invariant-loop-i g l =
    (sound_state (whole l.s l.dues l.amounts) ≡ true)
    × SumsOf l.i l.sums
    × (length l.out ≡ length l.fn.out)
    × (added l.sums (sums_from (whole l.s l.dues l.amounts) l.file l.offset (most_events - l.i)) ≡ sums_from (whole l.fn.opened l.fn.dues l.fn.amounts) l.file l.fn.first most_events)
    × (end_from (whole l.s l.dues l.amounts) l.file l.offset (most_events - l.i) ≡ end_from (whole l.fn.opened l.fn.dues l.fn.amounts) l.file l.fn.first most_events)
