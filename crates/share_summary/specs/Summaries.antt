-- 02 E13 3: the largest and the smallest share. Threads are compared by their totals, which are whole numbers, and only the share itself is a
-- float.
use Rattle.std.specs.Prelude.{ℕ, zero, suc, ◌≤◌, ◌<◌, ltb}
use mathlib.Core.{Bool.cond, Bool.not, List.List, List.[], List.◌∷◌}
use Rattle.base.specs.{Refusals.first_refusal, Status.not_sound}
use Rattle.thread.specs.declared.Thread.{Thread}
use Rattle.state.specs.{declared.State.State, Sound.sound_state}
use Rattle.quotient.specs.Quotient.{quotient}
use Rattle.shares.specs.Shares.{elapsed, total_at}
use Rattle.share_summary.specs.declared.{Summary.Summary, Summarized.Summarized}
use Rattle.share_summary.specs.declared.Summarized.TheVariants as summarized

-- 02 E13 3: of the first n threads the one with the largest total and the one with the smallest, the lowest number on a tie
unfoldable pub most_of : List Thread → ℕ → ℕ
most_of ts zero = 0
most_of ts (suc n) = cond (ltb (total_at ts (most_of ts n)) (total_at ts n)) n (most_of ts n)

unfoldable pub least_of : List Thread → ℕ → ℕ
least_of ts zero = 0
least_of ts (suc n) = cond (ltb (total_at ts n) (total_at ts (least_of ts n))) n (least_of ts n)

-- 02 E13 3: the largest and the smallest share of two threads, and the thread of each
abbrev pub summary_of : List Thread → ℕ → ℕ → ℕ → Summary
summary_of ts ticks most least =
    record {
      largest = quotient (total_at ts most) ticks;
      largest_thread = most;
      smallest = quotient (total_at ts least) ticks;
      smallest_thread = least;
    }

abbrev pub summarized_by : ℕ → ℕ → Summary → Summarized
summarized_by zero zero x = summarized.NoTime
summarized_by zero (suc ticks) x = summarized.Of x
summarized_by (suc n) ticks x = summarized.Refused (suc n)

-- 02 E13 3, 4: the summary of the N threads
unfoldable pub summarized_of : State → Summarized
summarized_of s =
    summarized_by (first_refusal ((not (sound_state s), not_sound) ∷ [])) (elapsed s)
    (summary_of s.threads (elapsed s) (most_of s.threads s.header.n) (least_of s.threads s.header.n))

-- 02 E13 3: no thread below n has a larger total than this one, and those before it have a smaller one
abbrev pub FirstLargest : List Thread → ℕ → ℕ → Type 0
FirstLargest ts n k =
    (k < n) × ((i : ℕ) → i < n → total_at ts i ≤ total_at ts k) × ((i : ℕ) → i < k → total_at ts i < total_at ts k)

abbrev pub FirstSmallest : List Thread → ℕ → ℕ → Type 0
FirstSmallest ts n k =
    (k < n) × ((i : ℕ) → i < n → total_at ts k ≤ total_at ts i) × ((i : ℕ) → i < k → total_at ts k < total_at ts i)

-- 02 E13 3: the summary's threads are these
abbrev pub SummaryIsFirst : Type 0
SummaryIsFirst =
    (ts : List Thread) (n : ℕ) → 0 < n → FirstLargest ts n (most_of ts n) × FirstSmallest ts n (least_of ts n)
