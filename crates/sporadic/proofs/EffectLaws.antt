-- The rules by cases.
use Prim.Native.Nat.{ℕ, ◌≤◌, ◌<◌}
use mathlib.Core.Bool.{Bool, true, false, not, ◌&&◌}
use mathlib.Core.Path.{◌≡◌, refl, sym}
use lib.Dec.{leb, eqb}
use native.Mathlib.Omega.{arith}
use borrow.Author.Tests.{eqb-true, eqb-false, leb-true, leb-false, lt-ltb}
use Rattle.base.proofs.TestLaws.{cond-elim, false-true}
use Rattle.records.specs.declared.Parameters.{Parameters}
use Rattle.sporadic.specs.declared.Server.{Server}
use Rattle.sporadic.specs.declared.Place.TheVariants.{Low, LowThenUpper, Upper}
use Rattle.sporadic.specs.declared.Effect.{Effect}
use Rattle.sporadic.specs.Rules.{at_upper, replenished, due_of, cleared, activated, unchanged, pending_later, back_at_once, scheduled, sent, at_limit, limit_effect, first_back, return_effect}

module _ (now : ℕ) (p : Parameters) (s : Server) where
  pub schedule-elim : (P : Effect → Type 0) → (s.used ≡ 0 → P (unchanged s)) → (0 < s.used → due_of p s ≤ now → P (back_at_once p s))
      → (0 < s.used → now < due_of p s → P (pending_later p s)) → P (scheduled now p s)
  unfolding scheduled
  schedule-elim P f g h =
      cond-elim P (eqb s.used 0) _ _ (λ e. f (eqb-true s.used 0 e))
      (λ e. let u : 0 < s.used = omega (arith, eqb-false s.used 0 e) in
      cond-elim P (leb (due_of p s) now) _ _ (λ d. g u (leb-true (due_of p s) now d)) (λ d. h u (leb-false (due_of p s) now d)))

  -- where U comes back at once the thread goes on to upper, else it stays at low
  pub at-limit-elim : (P : Effect → Type 0) → (s.used ≡ 0 → P (sent Low s (unchanged s))) → (0 < s.used → due_of p s ≤ now → P (sent LowThenUpper (activated now (back_at_once p s).server) (back_at_once p s)))
      → (0 < s.used → now < due_of p s → P (sent Low (cleared s) (pending_later p s))) → P (at_limit now (scheduled now p s))
  at-limit-elim P f g h = schedule-elim (λ (e : Effect). P (at_limit now e)) f (λ u d. rw (lt-ltb 0 s.used u) (g u d)) h

  module _ (b : Bool) where
    pub limit-elim : (P : Effect → Type 0) → P (unchanged s) → P (at_limit now (scheduled now p s)) → P (limit_effect now b p s)
    unfolding limit_effect
    limit-elim P f g = cond-elim P (not b && eqb s.capacity 0) _ _ (λ e. g) (λ e. f)

    -- a limit takes no entry
    pub limit-keeps : (limit_effect now b p s).first ≡ false
    limit-keeps = limit-elim (λ (e : Effect). e.first ≡ false) refl (at-limit-elim (λ (e : Effect). e.first ≡ false) (λ u. refl) (λ u d. refl) (λ u d. refl))

    pub return-elim : (count amount : ℕ) (P : Effect → Type 0) → (count ≡ 0 → P (unchanged s))
        → (0 < count → (b ≡ false → at_upper p s.capacity count ≡ true) → P (first_back p amount s))
        → (0 < count → b ≡ false → at_upper p s.capacity count ≡ false → P (sent Upper (activated now (replenished amount p s)) (first_back p amount s))) → P (return_effect now b p count amount s)
    unfolding return_effect
    return-elim count amount P f g h =
        cond-elim P (eqb count 0) _ _ (λ e. f (eqb-true count 0 e))
        (λ e. let c : 0 < count = omega (arith, eqb-false count 0 e) in
        cond-elim P (not b && not (at_upper p s.capacity count)) _ _ (λ q. both b (at_upper p s.capacity count) q (h c)) (λ q. g c (other b (at_upper p s.capacity count) q)))
      where
        other : (x y : Bool) → (not x && not y) ≡ false → x ≡ false → y ≡ true
        other true y q k = false-true (sym k)
        other false true q k = refl
        other false false q k = sym q

        both : (x y : Bool) → (not x && not y) ≡ true → {A : Type 0} → (x ≡ false → y ≡ false → A) → A
        both true y q k = false-true q
        both false true q k = false-true q
        both false false q k = k refl refl
