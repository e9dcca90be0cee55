-- The worked table and what the worked rows tell, by computing.
use mathlib.Core.Path.{refl}
use Rattle.base.specs.Tests.{all, below}
use Rattle.records.specs.Ranges.{fifo_in_range, rr_in_range, sporadic_in_range, in_range, all_zero}
use Rattle.sporadic.specs.Rules.{scheduled, limit_effect, return_effect}
use Rattle.account.specs.Sound.{sound_at}
use Rattle.ready.specs.Lists.{with_threads, without, occurs}
use Rattle.ready.specs.Word.{word_of, occupancy}
use Rattle.ready.specs.Sound.{sound_row, sound_rows, sound_lists}
use Rattle.entries.specs.Entries.{slot_for, inserted}
use Rattle.passing.specs.Time.{by_moments}
use Rattle.base.specs.Refusals.{first_refusal}
use Rattle.passing.specs.Sequence.{status, answer}
use Rattle.passing.specs.Reports.{report}
use Rattle.reports.specs.Tallies.{numbers_below}
use Rattle.rows.specs.Rows.{with_slots}
use Rattle.state.specs.Sound.{present_test, absent_test, sound_state}
use Rattle.due_search.specs.Search.{next_due}
use Rattle.moments.specs.Moments.{limits, replenish, replenish_below, fire}
use Rattle.moments.specs.Reports.{limit_log, replenish_log, below_log}
use Rattle.events.specs.Events.{change_of, happened}
use Rattle.events.specs.Answers.{field_status_of, state_status_of}
use Rattle.events.specs.Opening.{entered_below, open_status, opening}
use Rattle.events.specs.Table.{list_of, TableHolds}
use Rattle.events.specs.Reports.{RowsHold}

-- the replay's seven events and the five rows
pub table-holds : TableHolds
unfolding lib.Count.count_leading_zeros all below fifo_in_range rr_in_range sporadic_in_range in_range all_zero scheduled limit_effect return_effect sound_at with_threads without occurs word_of occupancy sound_row sound_rows sound_lists by_moments first_refusal status answer with_slots present_test absent_test sound_state next_due limits replenish replenish_below fire change_of happened field_status_of state_status_of entered_below open_status opening list_of slot_for inserted
table-holds = refl

-- what events tell
pub rows-hold : RowsHold
unfolding lib.Count.count_leading_zeros all below fifo_in_range rr_in_range sporadic_in_range in_range all_zero scheduled limit_effect return_effect sound_at with_threads without occurs word_of occupancy sound_row sound_rows sound_lists by_moments first_refusal status answer with_slots present_test absent_test sound_state next_due limits replenish replenish_below fire change_of happened field_status_of state_status_of entered_below open_status opening report limit_log replenish_log below_log numbers_below slot_for inserted
rows-hold = refl
