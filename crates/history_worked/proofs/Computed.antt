-- Budgets seen from worked histories, by computing.
use Prim.Native.Nat.{ℕ}
use mathlib.Core.Path.{◌≡◌, refl, ap}
use mathlib.Core.List.{List, [], ◌∷◌}
use lib.ListN.{take}
use Rattle.base.specs.Tests.{all, below}
use Rattle.records.specs.Ranges.{fifo_in_range, rr_in_range, sporadic_in_range, in_range, all_zero}
use Rattle.sporadic.specs.Rules.{scheduled, limit_effect, return_effect}
use Rattle.sporadic.specs.Carry.{carried_server, cant_carry}
use Rattle.entries.specs.Entries.{slot_for, inserted}
use Rattle.account.specs.Carry.{carried}
use Rattle.account.specs.Sound.{sound_at}
use Rattle.ready.specs.Lists.{with_threads, without, occurs}
use Rattle.ready.specs.Word.{word_of, occupancy}
use Rattle.ready.specs.Sound.{sound_row, sound_rows, sound_lists}
use Rattle.passing.specs.Time.{by_moments}
use Rattle.base.specs.Refusals.{first_refusal}
use Rattle.passing.specs.Sequence.{status, answer, end}
use Rattle.passing.specs.Reports.{report}
use Rattle.rows.specs.Rows.{with_slots}
use Rattle.state.specs.Sound.{present_test, absent_test, sound_state}
use Rattle.due_search.specs.Search.{next_due}
use Rattle.moments.specs.Moments.{limits, replenish, replenish_below, fire}
use Rattle.moments.specs.Reports.{limit_log, replenish_log, below_log}
use Rattle.events.specs.Events.{change_of, happened}
use Rattle.events.specs.Answers.{field_status_of, state_status_of}
use Rattle.events.specs.Opening.{entered_below, open_status, opening}
use Rattle.reports.specs.Steps.{Step}
use Rattle.ledger.specs.Ledger.{ran_in, back_in, sum_of}
use Rattle.state.specs.declared.State.{State}
use Rattle.state.specs.State.{thread_at, pending_at}
use Rattle.account.specs.Account.{pending_dues, pending_amounts}
use Rattle.events.specs.Answers.{executive}
use Rattle.history.specs.History.{Replayed, RanLow, SetTwice, history_of, begun, seven, alone, low, slow, twice}
use Rattle.history.specs.Bound.{Reached, MostIn}

-- Numbers of a history and of the state at its end, two or three at a time: a tuple computes what it is of once, where each number alone
-- would compute it anew.
abbrev sums : List Step → ℕ × ℕ
sums h = (sum_of ran_in h, sum_of back_in h)

abbrev spent : State → ℕ × (ℕ × ℕ)
spent s = let t = thread_at s 0 in (t.total, (t.parameters.budget, t.server.capacity))

abbrev entries : State → List ℕ × List ℕ
entries s = let q = pending_at s 0 in (pending_dues q, pending_amounts q)

seven-sums : sums (history_of 0 begun seven) ≡ (16, 6)
unfolding lib.Count.count_leading_zeros all below fifo_in_range rr_in_range sporadic_in_range in_range all_zero scheduled limit_effect return_effect sound_at with_threads without occurs word_of occupancy sound_row sound_rows sound_lists by_moments first_refusal status answer with_slots present_test absent_test sound_state next_due limits replenish replenish_below fire change_of happened field_status_of state_status_of entered_below open_status opening report limit_log replenish_log below_log slot_for inserted
seven-sums = refl

seven-spent : spent (end executive begun seven) ≡ (16, (10, 0))
unfolding lib.Count.count_leading_zeros all below fifo_in_range rr_in_range sporadic_in_range in_range all_zero scheduled limit_effect return_effect sound_at with_threads without occurs word_of occupancy sound_row sound_rows sound_lists by_moments first_refusal status answer with_slots present_test absent_test sound_state next_due limits replenish replenish_below fire change_of happened field_status_of state_status_of entered_below open_status opening report limit_log replenish_log below_log slot_for inserted
seven-spent = refl

pub replayed : Replayed
unfolding lib.Count.count_leading_zeros all below fifo_in_range rr_in_range sporadic_in_range in_range all_zero scheduled limit_effect return_effect sound_at with_threads without occurs word_of occupancy sound_row sound_rows sound_lists by_moments first_refusal status answer with_slots present_test absent_test sound_state next_due limits replenish replenish_below fire change_of happened field_status_of state_status_of entered_below open_status opening report limit_log replenish_log below_log slot_for inserted
replayed = record {
  ran = ap (λ (p : ℕ × ℕ). p.0) seven-sums;
  budget = ap (λ (p : ℕ × (ℕ × ℕ)). p.1.0) seven-spent;
  capacity = ap (λ (p : ℕ × (ℕ × ℕ)). p.1.1) seven-spent;
  returned = ap (λ (p : ℕ × ℕ). p.1) seven-sums;
  returns = refl;
}

low_sums : sums (history_of 0 alone low) ≡ (13, 3)
unfolding lib.Count.count_leading_zeros all below fifo_in_range rr_in_range sporadic_in_range in_range all_zero scheduled limit_effect return_effect sound_at with_threads without occurs word_of occupancy sound_row sound_rows sound_lists by_moments first_refusal status answer with_slots present_test absent_test sound_state next_due limits replenish replenish_below fire change_of happened field_status_of state_status_of entered_below open_status opening report limit_log replenish_log below_log slot_for inserted
low_sums = refl

low-spent : spent (end executive alone low) ≡ (48, (10, 0))
unfolding lib.Count.count_leading_zeros all below fifo_in_range rr_in_range sporadic_in_range in_range all_zero scheduled limit_effect return_effect sound_at with_threads without occurs word_of occupancy sound_row sound_rows sound_lists by_moments first_refusal status answer with_slots present_test absent_test sound_state next_due limits replenish replenish_below fire change_of happened field_status_of state_status_of entered_below open_status opening report limit_log replenish_log below_log slot_for inserted
low-spent = refl

pub ran-low : RanLow
ran-low = record {
  total = ap (λ (p : ℕ × (ℕ × ℕ)). p.0) low-spent;
  ran = ap (λ (p : ℕ × ℕ). p.0) low_sums;
  capacity = ap (λ (p : ℕ × (ℕ × ℕ)). p.1.1) low-spent;
  returned = ap (λ (p : ℕ × ℕ). p.1) low_sums;
}

twice-entries : entries (end executive slow (take 4 twice)) ≡ (24 ∷ 100 ∷ [], 7 ∷ 3 ∷ [])
unfolding lib.Count.count_leading_zeros all below fifo_in_range rr_in_range sporadic_in_range in_range all_zero scheduled limit_effect return_effect sound_at with_threads without occurs word_of occupancy sound_row sound_rows sound_lists by_moments first_refusal status answer with_slots present_test absent_test sound_state next_due limits replenish replenish_below fire change_of happened field_status_of state_status_of entered_below open_status opening report limit_log replenish_log below_log slot_for inserted cant_carry carried_server carried
twice-entries = refl

twice-sums : sums (history_of 0 slow twice) ≡ (32, 21)
unfolding lib.Count.count_leading_zeros all below fifo_in_range rr_in_range sporadic_in_range in_range all_zero scheduled limit_effect return_effect sound_at with_threads without occurs word_of occupancy sound_row sound_rows sound_lists by_moments first_refusal status answer with_slots present_test absent_test sound_state next_due limits replenish replenish_below fire change_of happened field_status_of state_status_of entered_below open_status opening report limit_log replenish_log below_log slot_for inserted cant_carry carried_server carried
twice-sums = refl

twice-spent : spent (end executive slow twice) ≡ (99, (14, 3))
unfolding lib.Count.count_leading_zeros all below fifo_in_range rr_in_range sporadic_in_range in_range all_zero scheduled limit_effect return_effect sound_at with_threads without occurs word_of occupancy sound_row sound_rows sound_lists by_moments first_refusal status answer with_slots present_test absent_test sound_state next_due limits replenish replenish_below fire change_of happened field_status_of state_status_of entered_below open_status opening report limit_log replenish_log below_log slot_for inserted cant_carry carried_server carried
twice-spent = refl

pub set_twice : SetTwice
unfolding lib.Count.count_leading_zeros all below fifo_in_range rr_in_range sporadic_in_range in_range all_zero scheduled limit_effect return_effect sound_at with_threads without occurs word_of occupancy sound_row sound_rows sound_lists by_moments first_refusal status answer with_slots present_test absent_test sound_state next_due limits replenish replenish_below fire change_of happened field_status_of state_status_of entered_below open_status opening report limit_log replenish_log below_log slot_for inserted cant_carry carried_server carried
set_twice = record {
  dues = ap (λ (p : List ℕ × List ℕ). p.0) twice-entries;
  amounts = ap (λ (p : List ℕ × List ℕ). p.1) twice-entries;
  ran = ap (λ (p : ℕ × ℕ). p.0) twice-sums;
  budget = ap (λ (p : ℕ × (ℕ × ℕ)). p.1.0) twice-spent;
  capacity = ap (λ (p : ℕ × (ℕ × ℕ)). p.1.1) twice-spent;
  returned = ap (λ (p : ℕ × ℕ). p.1) twice-sums;
  returns = refl;
}

-- the bound is reached
pub reached : Reached
unfolding lib.Count.count_leading_zeros all below fifo_in_range rr_in_range sporadic_in_range in_range all_zero scheduled limit_effect return_effect sound_at with_threads without occurs word_of occupancy sound_row sound_rows sound_lists by_moments first_refusal status answer with_slots present_test absent_test sound_state next_due limits replenish replenish_below fire change_of happened field_status_of state_status_of entered_below open_status opening report limit_log replenish_log below_log slot_for inserted
reached = refl

pub most-in : MostIn
unfolding lib.Count.count_leading_zeros all below fifo_in_range rr_in_range sporadic_in_range in_range all_zero scheduled limit_effect return_effect sound_at with_threads without occurs word_of occupancy sound_row sound_rows sound_lists by_moments first_refusal status answer with_slots present_test absent_test sound_state next_due limits replenish replenish_below fire change_of happened field_status_of state_status_of entered_below open_status opening report limit_log replenish_log below_log slot_for inserted
most-in = refl
