-- What happened while time passed (02 E3), over any machine: reports that are added up from step to step.
use Rattle.std.specs.Prelude.{ℕ, suc, cond, ◌≡◌, List, [], ◌∷◌, length, take, drop, eqb}
use Rattle.passing.specs.Time.{Clock, advance}
use Rattle.passing.specs.Sequence.{Machine, status, answer}
use Rattle.passing.specs.Readings.{Entry, first, second, Placed}

-- How reports R are added up, and what the two steps of time report, each by the state that it is done to.
pub record Reports (S R : Type 0) : Type 0 where
  pub none : R
  pub plus : R → R → R
  -- so many ticks go by
  pub charged : ℕ → S → R
  -- what is done at a moment, once the ticks up to it are charged
  pub fired : S → R

-- A state, with what was reported on the way to it.
pub record Reported (S R : Type 0) : Type 0 where
  pub state : S
  pub report : R

module _ {S R : Type 0} (C : Clock S) (P : Reports S R) where
  -- The same clock, which also adds up what its steps report: time is defined once.
  abbrev pub reporting : Clock (Reported S R)
  reporting =
      record {
        now = λ u. C.now u.state;
        next = λ u. C.next u.state;
        charge = λ k u. record { state = C.charge k u.state; report = P.plus u.report (P.charged k u.state) };
        fire = λ u. record { state = C.fire u.state; report = P.plus u.report (P.fired u.state) };
      }

  -- 02 E3 3: what is reported from the time now up to t
  abbrev pub reported_to : S → ℕ → R
  reported_to s t = (advance reporting (record { state = s; report = P.none }) t).report

-- 02 E3 3: `own` is what the effect of an event reports, by the state at its time.
module _ {S E R : Type 0} (M : Machine S E) (P : Reports S R) (own : S → E → R) where
  -- 02 E3 3, 5: the moments before the event and its own effect; a refused event reports nothing
  unfoldable pub report : S → E → R
  report s e =
      let whole = P.plus (reported_to M.clock P s (M.time e)) (own (advance M.clock s (M.time e)) e) in
      cond (eqb (status M s e) 0) whole P.none

  -- what each event of a sequence reports, given the state that the one before it returned
  abbrev pub reports : S → List E → List R
  reports s [] = []
  reports s (e ∷ es) = report s e ∷ reports (answer M s e).state es

module _ {S R : Type 0} (P : Reports S R) where
  -- several reports, added up
  abbrev pub total : List R → R
  total [] = P.none
  total (r ∷ rs) = P.plus r (total rs)

  -- 02 E3 4: of a list with a place for each event of the second sequence, the sum for each event of the first: the extra clock
  -- readings before it, and its own
  abbrev pub sums : {E : Type 0} → List (Entry E) → List R → List R
  sums [] rs = []
  sums (x ∷ xs) rs = total (take (suc (length x.times)) rs) ∷ sums xs (drop (suc (length x.times)) rs)

module _ {S E R : Type 0} (M : Machine S E) (P : Reports S R) (own : S → E → R) where
  -- 02 E3 4: from any state and for any events, what the extra clock readings before an event report and what it reports itself
  -- add up to what that event had alone
  abbrev pub ReportsAddUp : Type 0
  ReportsAddUp =
      (s : S) (xs : List (Entry E)) → Placed M s s xs → sums P xs (reports M P own s (second M xs)) ≡ reports M P own s (first xs)
