-- 02 E13: a thread's share of the elapsed time.
use Rattle.std.specs.Prelude.{ℕ, zero, suc, ◌-◌, ◌≤◌}
use mathlib.Core.{Bool.Bool, Bool.true, Bool.not, List.List, List.[], List.◌∷◌, Path.◌≡◌}
use lib.{ListN.get_or, Dec.leb}
use Rattle.std.specs.Float.Ieee as Ieee
use Rattle.base.specs.{Refusals.first_refusal, Status.wrong_thread, Status.not_sound}
use Rattle.records.specs.Ranges.{last_time}
use Rattle.thread.specs.{declared.Thread.Thread, Thread.no_thread}
use Rattle.state.specs.{declared.State.State, Sound.sound_state}
use Rattle.quotient.specs.Quotient.{quotient}
use Rattle.shares.specs.declared.Share.{Share}
use Rattle.shares.specs.declared.Share.TheVariants as share

-- 02 E13 1: the time that has passed since the start
abbrev pub elapsed : State → ℕ
elapsed s = s.now - s.header.start

-- 01 State 2: the total run time of thread i
abbrev pub total_at : List Thread → ℕ → ℕ
total_at ts i = (get_or ts i no_thread).total

-- 02 E13 4: 9, then 5 for a thread number from N on
abbrev pub share_refusals : State → ℕ → List (Bool × ℕ)
share_refusals s thread = (not (sound_state s), not_sound) ∷ (leb s.header.n thread, wrong_thread) ∷ []

-- by the number of a refusal, 0 for none; 02 E13 2: where no time has passed there is no share
abbrev pub share_by : ℕ → ℕ → Ieee.Float → Share
share_by zero zero x = share.NoTime
share_by zero (suc ticks) x = share.Of x
share_by (suc n) ticks x = share.Refused (suc n)

-- 02 E13 1, 2, 4: the share of a thread asked for by number
unfoldable pub share_of : State → ℕ → Share
share_of s thread =
    share_by (first_refusal (share_refusals s thread)) (elapsed s) (quotient (total_at s.threads thread) (elapsed s))

-- 02 E13 1: in a sound state both numbers of every share are in that range, and no total is larger than the elapsed time
abbrev pub InRange : Type 0
InRange =
    (s : State) (i : ℕ) → sound_state s ≡ true → (total_at s.threads i ≤ elapsed s) × (elapsed s ≤ last_time)
