-- The status numbers that fields and state give, case by case.
use Prim.Native.Nat.{ℕ, ◌+◌, ◌≤◌, ◌<◌}
use mathlib.Core.Bool.{Bool, true, false, cond, not, ◌&&◌}
use mathlib.Core.Path.{◌≡◌, refl, sym}
use mathlib.Core.List.{[], ◌∷◌}
use lib.Dec.{leb, eqb}
use native.Mathlib.Omega.{arith}
use Rattle.records.specs.declared.Event.{Event}
use borrow.Author.Tests.{lt-ltb, le-ltb, ltb-false, leb-false, eqb-true, not-false}
use Rattle.base.specs.Refusals.{first_refusal}
use Rattle.base.proofs.RefusalLaws.{passed, given-first, given-second, given-passed, status-at-most}
use Rattle.executive.specs.Private.{time_status, early_status}
use Rattle.events.specs.Answers.{field_status_of, state_status_of}

-- ---- by the time

module _ (now time : ℕ) where
  pub time-late : 1000000000000000 < time → time_status now time ≡ 3
  unfolding time_status first_refusal
  time-late a = simp (lt-ltb 1000000000000000 time a)

  pub time-past : time ≤ 1000000000000000 → time < now → time_status now time ≡ 1
  unfolding time_status first_refusal
  time-past a b = simp (le-ltb 1000000000000000 time a, lt-ltb time now b)

  pub time-far : time ≤ 1000000000000000 → now ≤ time → now + 1000000 < time → time_status now time ≡ 2
  unfolding time_status first_refusal
  time-far a b c = simp (le-ltb 1000000000000000 time a, le-ltb time now b, lt-ltb (now + 1000000) time c)

  pub time-right : time ≤ 1000000000000000 → now ≤ time → time ≤ now + 1000000 → time_status now time ≡ 0
  unfolding time_status first_refusal
  time-right a b c = simp (le-ltb 1000000000000000 time a, le-ltb time now b, le-ltb (now + 1000000) time c)

  pub time-zero : time_status now time ≡ 0 → (now ≤ time) × (time ≤ 1000000000000000) × (time ≤ now + 1000000)
  unfolding time_status
  time-zero e =
      let a = passed _ 2 _ e in
      let b = passed _ 0 _ a.1 in
      (ltb-false time now b.0, ltb-false 1000000000000000 time a.0, ltb-false (now + 1000000) time (passed _ 1 _ b.1).0)

-- ---- none of these is 9

field-small : (n : ℕ) (e : Event) → field_status_of n e ≤ 6
unfolding field_status_of
field-small n e = status-at-most 6 _ (omega arith, (omega arith, (omega arith, tt)))

time-small : (now time : ℕ) → time_status now time ≤ 6
unfolding time_status
time-small now time = status-at-most 6 _ (omega arith, (omega arith, (omega arith, tt)))

pub early-small : (n now : ℕ) (e : Event) → early_status n now e ≤ 6
early-small n now e = status-at-most 6 _ (field-small n e, (time-small now e.time, tt))

pub state-small : (k : ℕ) (idle blocked : Bool) → state_status_of k idle blocked false ≤ 8
unfolding state_status_of first_refusal
state-small k idle blocked = go (cond (eqb k 1) idle (eqb k 2 && idle)) (eqb k 3 && not blocked)
  where
    go : (a b : Bool) → first_refusal ((a, 7) ∷ (b, 8) ∷ (false, 15) ∷ []) ≤ 8
    go true b = omega arith
    go false true = omega arith
    go false false = omega arith

-- ---- 15 comes after 7 and 8

module _ (k : ℕ) (idle blocked refused : Bool) where
  pub allows-first : (state_status_of k idle blocked false ≡ 0 → ⊥) → state_status_of k idle blocked refused ≡ state_status_of k idle blocked false
  unfolding state_status_of first_refusal
  allows-first d = go (cond (eqb k 1) idle (eqb k 2 && idle)) (eqb k 3 && not blocked) d
    where
      go : (a b : Bool) → (first_refusal ((a, 7) ∷ (b, 8) ∷ (false, 15) ∷ []) ≡ 0 → ⊥)
          → first_refusal ((a, 7) ∷ (b, 8) ∷ (refused, 15) ∷ []) ≡ first_refusal ((a, 7) ∷ (b, 8) ∷ (false, 15) ∷ [])
      go true b d = refl
      go false true d = refl
      go false false d = absurd (d refl)

  pub allows-last : state_status_of k idle blocked false ≡ 0 → state_status_of k idle blocked refused ≡ cond refused 15 0
  unfolding state_status_of first_refusal
  allows-last z = go (cond (eqb k 1) idle (eqb k 2 && idle)) (eqb k 3 && not blocked) z
    where
      go : (a b : Bool) → first_refusal ((a, 7) ∷ (b, 8) ∷ (false, 15) ∷ []) ≡ 0 → first_refusal ((a, 7) ∷ (b, 8) ∷ (refused, 15) ∷ []) ≡ cond refused 15 0
      go true b z = absurd (omega (arith, z))
      go false true z = absurd (omega (arith, z))
      go false false z = refl

-- ---- both parts

module _ (n now : ℕ) (e : Event) where
  pub early-fields : (field_status_of n e ≡ 0 → ⊥) → field_status_of n e ≡ early_status n now e
  early-fields d = sym (given-first (field_status_of n e) _ d)

  pub early-time : field_status_of n e ≡ 0 → time_status now e.time ≡ early_status n now e
  early-time z = sym (given-second (field_status_of n e) (time_status now e.time) z)

  pub early-zero : early_status n now e ≡ 0 → (field_status_of n e ≡ 0) × (time_status now e.time ≡ 0)
  early-zero z = let a = given-passed _ _ z in (a.0, (given-passed _ _ a.1).0)

-- the thread of an event whose fields are right is a place of the state
pub thread-small : (n : ℕ) (e : Event) → n ≤ 32 → field_status_of n e ≡ 0 → e.thread < 32
unfolding field_status_of
thread-small n e l z = go (leb e.kind 2) (passed _ 4 _ (passed _ 3 _ z).1).0
  where
    go : (b : Bool) → cond b (not (eqb e.thread 0)) (leb n e.thread) ≡ false → e.thread < 32
    go true f = omega (arith, eqb-true e.thread 0 (not-false (eqb e.thread 0) f))
    go false f = omega (arith, leb-false n e.thread f)
