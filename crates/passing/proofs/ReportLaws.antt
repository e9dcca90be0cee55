-- Reports add up: as time passes over any clock, and over any machine that meets the laws of demand 3.
use Prim.Native.Nat.{ℕ, zero, suc, ◌+◌, ◌-◌, ◌≤◌}
use mathlib.Core.Bool.{Bool, true, false, cond}
use mathlib.Core.Path.{◌≡◌, refl, sym, ap, ap₂, ◌∙◌}
use mathlib.Core.List.{List, [], ◌∷◌, ◌++◌, map}
use lib.ListN.{length, take, drop, length-map}
use native.Mathlib.Omega.{arith}
use lib.Dec.{eqb}
use borrow.Author.Tests.{ne_eqb}
use Rattle.passing.specs.Time.{Clock, due_by, charge_to, moment, by_moments, advance}
use Rattle.passing.specs.Sequence.{Machine, Answer, status, answer, end}
use Rattle.passing.specs.Readings.{Ordered, readings, second, Allowed}
use Rattle.passing.specs.Reports.{Reports, Reported, reporting, reported_to, report, reports, total, sums, ReportsAddUp}
use Rattle.passing.proofs.TimeLaws.{Laws, advance-rest, advance-due, advance-advance}
use Rattle.passing.proofs.SequenceLaws.{answer-status, Acceptable, acceptable, status-acceptable}
use Rattle.passing.proofs.ReadingsLaws.{MachineLaws, ordered-le, reading-answer, reading-now, reading-advance, reading-acceptable, allowed}

-- a part of a choice is the choice of the parts
part : {A B : Type 0} (f : A → B) (b : Bool) (x y : A) → f (cond b x y) ≡ cond b (f x) (f y)
part f true x y = refl
part f false x y = refl

choice : {A : Type 0} (b : Bool) (x y u v : A) → x ≡ u → y ≡ v → cond b x y ≡ cond b u v
choice true x y u v p q = p
choice false x y u v p q = q

-- ---- time

module _ {S R : Type 0} (C : Clock S) (P : Reports S R) where
  abbrev D : Clock (Reported S R)
  D = reporting C P

  abbrev with : S → R → Reported S R
  with s r = record { state = s; report = r }

  -- What reports have to meet on sound states.
  pub record ReportLaws (Sound : S → Type 0) : Type 0 where
    pub none-plus : (r : R) → P.plus P.none r ≡ r
    pub plus_none : (r : R) → P.plus r P.none ≡ r
    pub plus-plus : (a b c : R) → P.plus (P.plus a b) c ≡ P.plus a (P.plus b c)
    -- ticks in two parts
    pub charged-add : (i j : ℕ) (s : S) → Sound s → P.plus (P.charged i s) (P.charged j (C.charge i s)) ≡ P.charged (i + j) s

  -- reporting changes no state
  moments-state : (k : ℕ) (u : Reported S R) (t : ℕ) → (by_moments D k u t).state ≡ by_moments C k u.state t
  unfolding by_moments
  moments-state zero u t = refl
  moments-state (suc k) u t =
      part (λ (v : Reported S R). v.state) (due_by (C.next u.state) t) _ _
      ∙ choice (due_by (C.next u.state) t) _ _ _ _ (moments-state k (moment D u) t) refl

  pub reporting-state : (u : Reported S R) (t : ℕ) → (advance D u t).state ≡ advance C u.state t
  reporting-state u t = moments-state _ u t

  module _ {Sound : S → Type 0} {top : ℕ} (L : Laws C Sound top) (Q : ReportLaws Sound) where
    -- what was reported before stands in front
    abbrev after : R → Reported S R → Reported S R
    after r u = with u.state (P.plus r u.report)

    charge-after : (r : R) (u : Reported S R) (k : ℕ) → D.charge k (after r u) ≡ after r (D.charge k u)
    charge-after r u k = ap (with (C.charge k u.state)) (Q.plus-plus r u.report (P.charged k u.state))

    moment-after : (r : R) (u : Reported S R) → moment D (after r u) ≡ after r (moment D u)
    moment-after r u =
        let v = charge_to D u (D.next u) in
        ap D.fire (charge-after r u _) ∙ ap (with (C.fire v.state)) (Q.plus-plus r v.report (P.fired v.state))

    moments-after : (k : ℕ) (r : R) (u : Reported S R) (t : ℕ) → by_moments D k (after r u) t ≡ after r (by_moments D k u t)
    unfolding by_moments
    moments-after zero r u t = charge-after r u _
    moments-after (suc k) r u t =
        choice (due_by (C.next u.state) t) _ _ _ _
        (ap (λ (v : Reported S R). by_moments D k v t) (moment-after r u) ∙ moments-after k r (moment D u) t)
        (charge-after r u _)
        ∙ sym (part (after r) (due_by (C.next u.state) t) _ _)

    -- the clock that reports meets the seven laws
    pub reporting-laws : Laws D (λ u. Sound u.state) top
    reporting-laws =
        record {
          later = λ u h p. L.later u.state h p;
          now-charge = λ k u. L.now-charge k u.state;
          now-fire = λ u. L.now-fire u.state;
          charge-add = λ i j u h.
              ap₂ with (L.charge-add i j u.state h)
              (Q.plus-plus u.report _ _ ∙ ap (P.plus u.report) (Q.charged-add i j u.state h));
          next-charge = λ k u h p. L.next-charge k u.state h p;
          sound-charge = λ k u h p l. L.sound-charge k u.state h p l;
          sound-moment = λ u h p l. L.sound-moment u.state h p l;
        }

    -- from a state with a report, what is reported from there on is added to it
    from : (s : S) (r : R) (t : ℕ) → (advance D (with s r) t).report ≡ P.plus r (reported_to C P s t)
    from s r t =
        ap (λ (x : R). (advance D (with s x) t).report) (sym (Q.plus_none r))
        ∙ ap (λ (v : Reported S R). v.report) (moments-after (t - C.now s) r (with s P.none) t)

    -- where no moment is due, the ticks report
    pub reported-rest : (s : S) (t : ℕ) → due_by (C.next s) t ≡ false → reported_to C P s t ≡ P.charged (t - C.now s) s
    reported-rest s t e = ap (λ (v : Reported S R). v.report) (advance-rest D (with s P.none) t e) ∙ Q.none-plus _

    -- where one is, the ticks up to it and what is done at it, then what is reported from there on
    pub reported-due : (s : S) (t : ℕ) → Sound s → t ≤ top → due_by (C.next s) t ≡ true
        → reported_to C P s t ≡ P.plus (P.plus (P.charged (C.next s - C.now s) s) (P.fired (charge_to C s (C.next s)))) (reported_to C P (moment C s) t)
    reported-due s t h l e =
        ap (λ (v : Reported S R). v.report) (advance-due D reporting-laws (with s P.none) t h l e)
        ∙ ap (λ (r : R). (advance D (with (moment C s) (P.plus r (P.fired (charge_to C s (C.next s))))) t).report) (Q.none-plus _)
        ∙ from (moment C s) _ t

    -- what is reported up to b and from there up to c is what is reported up to c
    pub reported-add : (s : S) (b c : ℕ) → Sound s → C.now s ≤ b → b ≤ c → c ≤ top
        → P.plus (reported_to C P s b) (reported_to C P (advance C s b) c) ≡ reported_to C P s c
    reported-add s b c h n m l =
        let v = advance D (with s P.none) b in
        sym (from (advance C s b) (reported_to C P s b) c)
        ∙ ap (λ (x : S). (advance D (with x (reported_to C P s b)) c).report) (sym (reporting-state (with s P.none) b))
        ∙ ap (λ (w : Reported S R). w.report) (advance-advance D reporting-laws (with s P.none) b c h n m l)

-- ---- events

module _ {S E R : Type 0} (M : Machine S E) (P : Reports S R) (own : S → E → R) where
  abbrev C : Clock S
  C = M.clock

  abbrev told : S → E → R
  told s e = report M P own s e

  abbrev all_told : S → List E → List R
  all_told s es = reports M P own s es

  -- a refused event reports nothing
  pub report-refused : (s : S) (e : E) → (status M s e ≡ 0 → ⊥) → report M P own s e ≡ P.none
  unfolding report
  report-refused s e n = rw (ne_eqb (status M s e) 0 n)

  pub report-accepted : (s : S) (e : E) → status M s e ≡ 0
      → report M P own s e ≡ P.plus (reported_to C P s (M.time e)) (own (advance C s (M.time e)) e)
  unfolding report
  report-accepted s e z = rw z

  -- an extra clock reading has no effect to report
  module _ (L : MachineLaws M) (Q : ReportLaws C P (λ s. M.sound s ≡ true)) (quiet : (s : S) (t : ℕ) → own s (M.reading t) ≡ P.none) where
    -- one extra clock reading at t, and the event
    module _ (s : S) (e : E) (a : Acceptable M s e) (t : ℕ) (lo : C.now s ≤ t) (hi : t ≤ M.time e) where
      reading-report : told s (M.reading t) ≡ reported_to C P s t
      reading-report =
          report-accepted s (M.reading t) (sym (answer-status M s (M.reading t)) ∙ ap (λ (b : Answer S). b.status) (reading-answer M L s e a t lo hi))
          ∙ rw (L.time-reading, quiet, Q.plus_none)

      reading-adds : P.plus (told s (M.reading t)) (told (advance C s t) e) ≡ told s e
      reading-adds =
          ap₂ P.plus reading-report (report-accepted (advance C s t) e (status-acceptable M (advance C s t) e (reading-acceptable M L s e a t lo hi)))
          ∙ sym (Q.plus-plus _ _ _)
          ∙ ap₂ P.plus (reported-add C P L.passing Q s t (M.time e) a.sound lo hi a.in_range)
          (ap (λ (u : S). own u e) (reading-advance M L s e a t lo hi))
          ∙ sym (report-accepted s e (status-acceptable M s e a))

    -- any number of them
    total-adds : (s : S) (ts : List ℕ) (e : E) → Acceptable M s e → Ordered (C.now s) ts (M.time e)
        → total P (all_told s (map M.reading ts ++ e ∷ [])) ≡ told s e
    total-adds s [] e a o = Q.plus_none _
    total-adds s (t ∷ ts) e a o =
        let hi = ordered-le t ts (M.time e) o.1 in
        let r = reading-answer M L s e a t o.0 hi in
        let n = reading-now M L s e a t o.0 hi in
        ap (λ (b : Answer S). P.plus (told s (M.reading t)) (total P (all_told b.state (map M.reading ts ++ e ∷ [])))) r
        ∙ ap (P.plus (told s (M.reading t))) (total-adds (advance C s t) ts e (reading-acceptable M L s e a t o.0 hi) (rw n o.1))
        ∙ reading-adds s e a t o.0 hi

    entry-adds : (s : S) (ts : List ℕ) (e : E) → Allowed M s s ts e → total P (all_told s (map M.reading ts ++ e ∷ [])) ≡ told s e
    entry-adds s [] e h = Q.plus_none _
    entry-adds s (t ∷ ts) e h = total-adds s (t ∷ ts) e (acceptable M s e (sym (answer-status M s e) ∙ h.0)) h.1

    -- one sequence after another
    reports-append : (s : S) (p q : List E) → all_told s (p ++ q) ≡ all_told s p ++ all_told (end M s p) q
    reports-append s [] q = refl
    reports-append s (e ∷ p) q = ap (λ (l : List R). told s e ∷ l) (reports-append (answer M s e).state p q)

    reports-length : (s : S) (es : List E) → length (all_told s es) ≡ length es
    reports-length s [] = refl
    reports-length s (e ∷ es) = ap suc (reports-length (answer M s e).state es)

    -- an entry's places, then the others
    split : (p : List R) (r : R) (q : List R) (n : ℕ) → length p ≡ n → (take (suc n) (p ++ r ∷ q) ≡ p ++ r ∷ []) × (drop (suc n) (p ++ r ∷ q) ≡ q)
    split [] r q zero e = (refl, refl)
    split [] r q (suc n) e = absurd (omega arith)
    split (x ∷ p) r q zero e = absurd (omega arith)
    split (x ∷ p) r q (suc n) e = let i = split p r q n (omega arith) in (ap (λ (l : List R). x ∷ l) i.0, i.1)

    -- 02 E3 4: over the whole sequence
    pub reports-add-up : ReportsAddUp M P own
    reports-add-up s [] h = refl
    reports-add-up s (x ∷ xs) h =
        let e = x.event in
        let cs = readings M x in
        let u = allowed M L s x.times e h.0 in
        let n = reports-length s cs ∙ length-map x.times M.reading in
        let parts = split (all_told s cs) (told (end M s cs) e) (all_told (answer M (end M s cs) e).state (second M xs)) (length x.times) n in
        rw (reports-append s cs (e ∷ second M xs), parts.0, parts.1)
        (ap₂ (λ (r : R) (l : List R). r ∷ l)
        (ap (total P) (sym (reports-append s cs (e ∷ []))) ∙ entry-adds s x.times e h.0)
        (ap (λ (a : Answer S). sums P xs (all_told a.state (second M xs))) u.same ∙ reports-add-up (answer M s e).state xs (rw u.same at h.1)))

-- ---- what is read off reports is itself a report

module _ {S R T : Type 0} (P : Reports S R) (Q : Reports S T) (read : R → T) (none : read P.none ≡ Q.none)
    (plus : (a b : R) → read (P.plus a b) ≡ Q.plus (read a) (read b)) where
  pub total-read : (rs : List R) → read (total P rs) ≡ total Q (map read rs)
  total-read [] = none
  total-read (r ∷ rs) = plus r (total P rs) ∙ ap (Q.plus (read r)) (total-read rs)

  module _ (C : Clock S) (charged : (k : ℕ) (s : S) → read (P.charged k s) ≡ Q.charged k s) (fired : (s : S) → read (P.fired s) ≡ Q.fired s) where
    abbrev reads : Reported S R → Reported S T
    reads u = record { state = u.state; report = read u.report }

    charge-read : (k : ℕ) (u : Reported S R) → (reporting C Q).charge k (reads u) ≡ reads ((reporting C P).charge k u)
    charge-read k u =
        λ x. record { state = C.charge k u.state; report = (ap (Q.plus (read u.report)) (sym (charged k u.state)) ∙ sym (plus u.report (P.charged k u.state))) x }

    fire-read : (u : Reported S R) → (reporting C Q).fire (reads u) ≡ reads ((reporting C P).fire u)
    fire-read u =
        λ x. record { state = C.fire u.state; report = (ap (Q.plus (read u.report)) (sym (fired u.state)) ∙ sym (plus u.report (P.fired u.state))) x }

    moments-read : (k : ℕ) (u : Reported S R) (t : ℕ) → by_moments (reporting C Q) k (reads u) t ≡ reads (by_moments (reporting C P) k u t)
    unfolding by_moments
    moments-read zero u t = charge-read _ u
    moments-read (suc k) u t =
        choice (due_by (C.next u.state) t) _ _ _ _
        (ap (λ (v : Reported S T). by_moments (reporting C Q) k v t) (ap (reporting C Q).fire (charge-read _ u) ∙ fire-read (charge_to (reporting C P) u (C.next u.state)))
        ∙ moments-read k (moment (reporting C P) u) t)
        (charge-read _ u)
        ∙ sym (part reads (due_by (C.next u.state) t) _ _)

    pub reported-read : (s : S) (t : ℕ) → read (reported_to C P s t) ≡ reported_to C Q s t
    reported-read s t =
        ap (λ (v : Reported S T). v.report) (sym (moments-read (t - C.now s) (record { state = s; report = P.none }) t))
        ∙ ap (λ (r : T). (advance (reporting C Q) (record { state = s; report = r }) t).report) none

module _ {S E R T : Type 0} (M : Machine S E) (P : Reports S R) (Q : Reports S T) (read : R → T) (none : read P.none ≡ Q.none)
    (plus : (a b : R) → read (P.plus a b) ≡ Q.plus (read a) (read b)) (charged : (k : ℕ) (s : S) → read (P.charged k s) ≡ Q.charged k s)
    (fired : (s : S) → read (P.fired s) ≡ Q.fired s) (own : S → E → R) where
  abbrev own_read : S → E → T
  own_read s e = read (own s e)

  report-read : (s : S) (e : E) → read (report M P own s e) ≡ report M Q own_read s e
  unfolding report
  report-read s e =
      part read (eqb (status M s e) 0) _ _
      ∙ choice (eqb (status M s e) 0) _ _ _ _
      (plus (reported_to M.clock P s (M.time e)) (own (advance M.clock s (M.time e)) e)
      ∙ ap (λ (r : T). Q.plus r (own_read (advance M.clock s (M.time e)) e)) (reported-read P Q read none plus M.clock charged fired s (M.time e)))
      none

  reports-read : (s : S) (es : List E) → map read (reports M P own s es) ≡ reports M Q own_read s es
  reports-read s [] = refl
  reports-read s (e ∷ es) = ap₂ (λ (r : T) (rs : List T). r ∷ rs) (report-read s e) (reports-read (answer M s e).state es)

  -- over a whole sequence
  pub all_read : (s : S) (es : List E) → total Q (reports M Q own_read s es) ≡ read (total P (reports M P own s es))
  all_read s es = ap (total Q) (sym (reports-read s es)) ∙ sym (total-read P Q read none plus (reports M P own s es))
