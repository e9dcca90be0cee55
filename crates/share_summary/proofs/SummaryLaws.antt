-- The summary's threads are the first with the largest and the smallest total. The cases of a summary.
use Prim.Native.Nat.{ℕ, zero, suc, ◌≤◌, ◌<◌}
use mathlib.Core.Bool.{Bool, true, false, cond}
use mathlib.Core.List.{List}
use mathlib.Core.Path.{◌≡◌, refl}
use native.Mathlib.Omega.{arith}
use lib.Dec.{ltb}
use borrow.Author.Tests.{ltb-true, ltb-false}
use Rattle.base.specs.Refusals.{first_refusal}
use Rattle.base.proofs.TestLaws.{cond-elim}
use Rattle.thread.specs.declared.Thread.{Thread}
use Rattle.state.specs.declared.State.{State}
use Rattle.state.specs.Sound.{sound_state}
use Rattle.shares.specs.Shares.{elapsed, total_at}
use Rattle.share_summary.specs.Summaries.{summary_of, summarized_by, summarized_of, most_of, least_of, FirstLargest, FirstSmallest, SummaryIsFirst}
use Rattle.share_summary.specs.Private.{leader_at}
use Rattle.share_summary.specs.declared.Summary.{Summary}
use Rattle.share_summary.specs.declared.Summarized.TheVariants as summarized

-- the number below n or n itself
below_or : (P : ℕ → Type 0) (n : ℕ) → ((i : ℕ) → i < n → P i) → P n → (i : ℕ) → i < suc n → P i
below_or P n f p i h = go (ltb i n) refl
  where
    go : (x : Bool) → ltb i n ≡ x → P i
    go true e = f i (ltb-true i n e)
    go false e = let z : i ≡ n = omega (arith, ltb-false i n e) in rw z p

-- one more thread
largest-next : (ts : List Thread) (n k : ℕ) → FirstLargest ts n k → FirstLargest ts (suc n) (cond (ltb (total_at ts k) (total_at ts n)) n k)
largest-next ts n k p =
    cond-elim (FirstLargest ts (suc n)) (ltb (total_at ts k) (total_at ts n)) n k
    (λ e. let l = ltb-true (total_at ts k) (total_at ts n) e in (
      omega arith,
      below_or (λ (i : ℕ). total_at ts i ≤ total_at ts n) n (λ i h. omega (arith, p.1 i h)) (omega arith),
      λ i h. omega (arith, p.1 i h),
    ))
    (λ e. let l = ltb-false (total_at ts k) (total_at ts n) e in (
      omega (arith, p.0),
      below_or (λ (i : ℕ). total_at ts i ≤ total_at ts k) n p.1 l,
      p.2,
    ))

smallest-next : (ts : List Thread) (n k : ℕ) → FirstSmallest ts n k → FirstSmallest ts (suc n) (cond (ltb (total_at ts n) (total_at ts k)) n k)
smallest-next ts n k p =
    cond-elim (FirstSmallest ts (suc n)) (ltb (total_at ts n) (total_at ts k)) n k
    (λ e. let l = ltb-true (total_at ts n) (total_at ts k) e in (
      omega arith,
      below_or (λ (i : ℕ). total_at ts n ≤ total_at ts i) n (λ i h. omega (arith, p.1 i h)) (omega arith),
      λ i h. omega (arith, p.1 i h),
    ))
    (λ e. let l = ltb-false (total_at ts n) (total_at ts k) e in (
      omega (arith, p.0),
      below_or (λ (i : ℕ). total_at ts k ≤ total_at ts i) n p.1 l,
      p.2,
    ))

-- a thread alone
alone : (P : ℕ → Type 0) → P 0 → (i : ℕ) → i < 1 → P i
alone P p i h = let z : i ≡ 0 = omega arith in rw z p

most-first : (ts : List Thread) (n : ℕ) → FirstLargest ts (suc n) (most_of ts (suc n))
unfolding most_of
most-first ts zero = cond-elim (FirstLargest ts 1) (ltb (total_at ts 0) (total_at ts 0)) 0 0 (λ e. one) (λ e. one)
  where
    one : FirstLargest ts 1 0
    one = (omega arith, alone (λ (i : ℕ). total_at ts i ≤ total_at ts 0) (omega arith), λ i h. absurd (omega arith))
most-first ts (suc n) = largest-next ts (suc n) (most_of ts (suc n)) (most-first ts n)

least_first : (ts : List Thread) (n : ℕ) → FirstSmallest ts (suc n) (least_of ts (suc n))
unfolding least_of
least_first ts zero = cond-elim (FirstSmallest ts 1) (ltb (total_at ts 0) (total_at ts 0)) 0 0 (λ e. one) (λ e. one)
  where
    one : FirstSmallest ts 1 0
    one = (omega arith, alone (λ (i : ℕ). total_at ts 0 ≤ total_at ts i) (omega arith), λ i h. absurd (omega arith))
least_first ts (suc n) = smallest-next ts (suc n) (least_of ts (suc n)) (least_first ts n)

pub summary-is-first : SummaryIsFirst
summary-is-first ts zero h = absurd (omega arith)
summary-is-first ts (suc n) h = (most-first ts n, least_first ts n)

-- the leaders after one more thread
pub most-next : (ts : List Thread) (n : ℕ) → cond (ltb (total_at ts (most_of ts n)) (total_at ts n)) (leader_at ts n) (leader_at ts (most_of ts n)) ≡ leader_at ts (most_of ts (suc n))
unfolding most_of
most-next ts n = go (ltb (total_at ts (most_of ts n)) (total_at ts n))
  where
    go : (b : Bool) → cond b (leader_at ts n) (leader_at ts (most_of ts n)) ≡ leader_at ts (cond b n (most_of ts n))
    go true = refl
    go false = refl

pub least-next : (ts : List Thread) (n : ℕ) → cond (ltb (total_at ts n) (total_at ts (least_of ts n))) (leader_at ts n) (leader_at ts (least_of ts n)) ≡ leader_at ts (least_of ts (suc n))
unfolding least_of
least-next ts n = go (ltb (total_at ts n) (total_at ts (least_of ts n)))
  where
    go : (b : Bool) → cond b (leader_at ts n) (leader_at ts (least_of ts n)) ≡ leader_at ts (cond b n (least_of ts n))
    go true = refl
    go false = refl

-- the cases of a summary
summary-passed : (n : ℕ) (x : Summary) → (n ≡ 0 → ⊥) → summarized_by 0 n x ≡ summarized.Of x
summary-passed zero x d = absurd (d refl)
summary-passed (suc n) x d = refl

module _ (s : State) where
  pub summary-unsound : sound_state s ≡ false → summarized_of s ≡ summarized.Refused 9
  unfolding summarized_of first_refusal
  summary-unsound e = rw e

  pub summary-none : sound_state s ≡ true → elapsed s ≡ 0 → summarized_of s ≡ summarized.NoTime
  unfolding summarized_of first_refusal
  summary-none e z = rw (e, z)

  pub summary-is : sound_state s ≡ true → (elapsed s ≡ 0 → ⊥)
      → summarized_of s ≡ summarized.Of (summary_of s.threads (elapsed s) (most_of s.threads s.header.n) (least_of s.threads s.header.n))
  unfolding summarized_of first_refusal
  summary-is e d = rw e (summary-passed (elapsed s) _ d)
