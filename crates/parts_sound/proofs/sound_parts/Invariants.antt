-- `parts_sound::sound_parts`: what its loops keep.
use Prim.Native.Nat.{ℕ, ◌+◌, ◌≤◌, ◌<◌}
use mathlib.Core.Bool.{true}
use mathlib.Core.Path.{◌≡◌}
use mathlib.Core.List.{List}
use lib.ListN.{length, drop, get_or}
use Rattle.base.specs.Tests.{all, below}
use Rattle.state.specs.declared.State.{State}
use Rattle.state.specs.State.{thread_at, pending_at}
use Rattle.state.specs.Sound.{thread_test, absent_test, totals}
use Rattle.state.specs.Updates.{state_of}
use Rattle.state.proofs.ThreadLaws.{Filled}
use Rattle.state.proofs.AbsentLaws.{no_thread_tests}
use Rattle.parts_sound.proofs.sound_parts.Given as goal

-- the places from N on before k hold no thread, their slots apart
pub record None (s : State) (k : ℕ) : Type 0 where
  pub many : length s.threads ≡ 32
  pub low : s.header.n ≤ k
  pub high : k ≤ 32
  pub each : (j : ℕ) → s.header.n ≤ j → j < k → all (no_thread_tests (thread_at s j) (get_or s.counts j 0)) ≡ true

-- after i of the N threads: their tests hold, their places are filled in and no other, and what is left is what their times leave
pub record Passed (s : State) (left : ℕ) (places : List ℕ) (i : ℕ) : Type 0 where
  pub few : s.header.n ≤ 32
  pub none : (j : ℕ) → s.header.n ≤ j → j < 32 → absent_test (thread_at s j) (pending_at s j) ≡ true
  pub range : i ≤ s.header.n
  pub many : length s.threads ≡ 32
  pub held : below i (thread_test s) ≡ true
  pub array : length places ≡ 32
  pub filled : Filled s.threads s.counts places i
  pub unfilled : (j : ℕ) → i ≤ j → j < 32 → get_or places j 0 ≡ 0
  pub rest : left + (s.header.start + totals s.threads) ≡ s.now + totals (drop i s.threads)

abbrev pub invariant-loop-k : goal.invariant-loop-k
invariant-loop-k l = None (state_of l.header l.time l.idle l.word l.threads l.counts l.dues l.amounts l.lists) l.k

abbrev pub invariant-loop-i : goal.invariant-loop-i
invariant-loop-i l =
    Passed (state_of l.header l.time l.idle l.word l.threads l.counts l.dues l.amounts l.lists) l.left l.places l.i
