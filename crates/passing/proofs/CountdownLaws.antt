-- The timer meets the laws, so they can be met; and readings can be placed.
use Prim.Native.Nat.{ℕ, zero, suc, ◌+◌, ◌-◌, ◌≤◌, ◌<◌}
use mathlib.Core.Bool.{true, ◌&&◌, and-eq-true_iff}
use mathlib.Core.Path.{◌≡◌, refl, sym}
use mathlib.Core.List.{List, [], ◌∷◌}
use lib.Dec.{ltb, leb}
use native.Mathlib.Omega.{arith}
use borrow.Author.Tests.{ltb-true, leb-true, lt-ltb, le-ltb, le-leb}
use Rattle.passing.specs.Time.{by_moments, moment}
use Rattle.base.specs.Refusals.{first_refusal}
use Rattle.passing.specs.Sequence.{status, answer}
use Rattle.passing.specs.Readings.{Entry, first, second, Placed, SameAnswers}
use Rattle.passing.specs.Reports.{reports, sums}
use Rattle.passing.proofs.TimeLaws.{Laws}
use Rattle.passing.proofs.ReadingsLaws.{MachineLaws, extra-readings}
use Rattle.passing.proofs.ReportLaws.{ReportLaws, reports-add-up}
use Rattle.passing.proofs.Countdown.{Timer, Request, next, charge, clock, timer, fresh, counted, stopped}

abbrev Sound : Timer → Type 0
Sound s = timer.sound s ≡ true

record Tested (s : Timer) : Type 0 where
  some : 0 < s.period
  most : s.left ≤ s.period
  range : s.now ≤ 1000

tested : (s : Timer) → Sound s → Tested s
tested s h =
    let b = (and-eq-true_iff (ltb 0 s.period && leb s.left s.period) (leb s.now 1000)).0 h in
    let a = (and-eq-true_iff (ltb 0 s.period) (leb s.left s.period)).0 b.0 in
    record { some = ltb-true _ _ a.0; most = leb-true _ _ a.1; range = leb-true _ _ b.1 }

sound : (s : Timer) → Tested s → Sound s
sound s t = rw (lt-ltb 0 s.period t.some, le-leb s.left s.period t.most, le-leb s.now 1000 t.range)

-- stopped, with no next moment, or running
cases : {P : Type 0} (s : Timer) → (s.left ≡ 0 → next s ≡ 0 → P) → (0 < s.left → next s ≡ s.now + s.left → P) → P
cases {P} s f g = go s.left refl
  where
    go : (n : ℕ) → s.left ≡ n → P
    go zero e = f e (rw (le-ltb 0 s.left (omega arith)))
    go (suc n) e = g (omega arith) (rw (lt-ltb 0 s.left (omega arith)))

same : (s u : Timer) → s.now ≡ u.now → s.left ≡ u.left → s.period ≡ u.period → s ≡ u
same s u p q r = λ i. record { now = p i; left = q i; period = r i }

passing : Laws clock Sound 1000
passing =
    record {
      later = λ s h p. cases s (λ z e. absurd (omega arith)) (λ z e. omega arith);
      now-charge = λ k s. refl;
      now-fire = λ s. refl;
      charge-add = λ i j s h. same (charge j (charge i s)) (charge (i + j) s) (omega arith) (omega arith) refl;
      next-charge = λ k s h p.
          cases s
          (λ z e. rw (le-ltb 0 (s.left - k) (omega arith)) (sym e))
          (λ z e. rw (lt-ltb 0 (s.left - k) (omega (arith, p (omega arith)))) (omega (arith, p (omega arith))));
      sound-charge = λ k s h p l. let t = tested s h in sound (charge k s) (omega arith);
      sound-moment = λ s h p l. let t = tested s h in sound (moment clock s) (cases s (λ z e. absurd (omega arith)) (λ z e. omega arith));
    }

laws : MachineLaws timer
laws =
    record {
      passing = passing;
      field-charge = λ k s e. refl;
      field-fire = λ s e. refl;
      time-reading = λ t. refl;
      field-reading = λ s t. refl;
      state-reading = λ s t. refl;
      does-reading = λ s t. refl;
    }

-- two readings up to a request's time, none before a refused one, and one at the very time of the last
entries : List (Entry Request)
entries =
    record { times = 5 ∷ 5 ∷ []; event = record { time = 7; kind = 0 } }
    ∷ record { times = []; event = record { time = 6; kind = 0 } }
    ∷ record { times = 20 ∷ []; event = record { time = 20; kind = 1 } }
    ∷ []

placed : Placed timer fresh fresh entries
unfolding by_moments first_refusal status answer entries
placed = ((refl, omega arith), (tt, ((refl, omega arith), tt)))

placed_same : SameAnswers timer fresh entries
placed_same = extra-readings timer laws fresh entries placed

-- its reports meet theirs, and add up
counts : ReportLaws clock counted Sound
counts =
    record {
      none-plus = λ r. omega arith;
      plus_none = λ r. omega arith;
      plus-plus = λ a b c. omega arith;
      charged-add = λ i j s h. omega arith;
    }

placed-sums : sums counted entries (reports timer counted stopped fresh (second timer entries)) ≡ reports timer counted stopped fresh (first entries)
placed-sums = reports-add-up timer counted stopped laws counts (λ s t. refl) fresh entries placed
