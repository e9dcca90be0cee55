-- In a sound state no total is larger than the elapsed time, and both are converted exactly. The cases of a share.
use Prim.Native.Nat.{ℕ, zero, suc, ◌≤◌, ◌<◌}
use mathlib.Core.Bool.{true, false}
use mathlib.Core.List.{List, [], ◌∷◌}
use mathlib.Core.Path.{◌≡◌, refl}
use native.Mathlib.Omega.{arith}
use borrow.Author.Tests.{le-leb, lt-leb}
use Rattle.base.specs.Refusals.{first_refusal}
use Rattle.base.proofs.TestLaws.{tests}
use Rattle.thread.specs.declared.Thread.{Thread}
use Rattle.state.specs.declared.State.{State}
use Rattle.state.specs.Sound.{totals, sound_state}
use Rattle.state.proofs.SoundLaws.{state-out}
use Rattle.quotient.specs.Quotient.{quotient}
use Rattle.shares.specs.Shares.{share_by, share_of, elapsed, total_at, InRange}
use Rattle.shares.specs.declared.Share.TheVariants as share
use lib.Ieee as Ieee

total-in : (ts : List Thread) (i : ℕ) → total_at ts i ≤ totals ts
total-in [] i = omega arith
total-in (t ∷ ts) zero = omega arith
total-in (t ∷ ts) (suc i) = omega (arith, total-in ts i)

-- what a sound state says of its times and its threads
pub record Times (s : State) (i : ℕ) : Type 0 where
  pub order : s.header.start ≤ s.now
  pub last : s.now ≤ 1000000000000000
  pub some : 0 < s.header.n
  pub few : s.header.n ≤ 32
  pub total : total_at s.threads i ≤ elapsed s

pub times : (s : State) (i : ℕ) → sound_state s ≡ true → Times s i
times s i e =
    let h = state-out s e in
    let z = h.sizes in
    record {
      order = omega (tests, z);
      last = omega (tests, z);
      some = omega (tests, z);
      few = omega (tests, z);
      total = omega (arith, h.timed, total-in s.threads i);
    }

pub in-range : InRange
in-range s i e = let t = times s i e in (t.total, omega arith)

-- the cases of a share
share-passed : (n : ℕ) (x : Ieee.Float) → (n ≡ 0 → ⊥) → share_by 0 n x ≡ share.Of x
share-passed zero x d = absurd (d refl)
share-passed (suc n) x d = refl

module _ (s : State) (thread : ℕ) where
  pub share-unsound : sound_state s ≡ false → share_of s thread ≡ share.Refused 9
  unfolding share_of first_refusal
  share-unsound e = rw e

  pub share-wrong : sound_state s ≡ true → s.header.n ≤ thread → share_of s thread ≡ share.Refused 5
  unfolding share_of first_refusal
  share-wrong e h = rw (e, le-leb s.header.n thread h)

  pub share-none : sound_state s ≡ true → thread < s.header.n → elapsed s ≡ 0 → share_of s thread ≡ share.NoTime
  unfolding share_of first_refusal
  share-none e h z = rw (e, lt-leb s.header.n thread h, z)

  pub share-is : sound_state s ≡ true → thread < s.header.n → (elapsed s ≡ 0 → ⊥) → share_of s thread ≡ share.Of (quotient (total_at s.threads thread) (elapsed s))
  unfolding share_of first_refusal
  share-is e h d = rw (e, lt-leb s.header.n thread h) (share-passed (elapsed s) _ d)
