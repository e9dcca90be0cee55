-- The search for the next due: what it finds, for any contents, and what is found again without a search where an entry came.
use Prim.Native.Nat.{ℕ, zero, suc, ◌-◌, ◌*◌, ◌≤◌, ◌<◌}
use mathlib.Core.Bool.{Bool, true, false, cond}
use mathlib.Core.Path.{◌≡◌, refl, sym, ap, ◌∙◌, subst⁻¹}
use mathlib.Core.List.{List}
use lib.ListN.{get_or}
use lib.Dec.{ltb, eqb}
use native.Mathlib.Omega.{arith}
use native.Mathlib.Decide.{ℕ_discrete}
use borrow.Author.Tests.{eq-eqb, ne_eqb, eqb-true, eqb-false, ltb-true, ltb-false}
use Rattle.due_search.specs.declared.Due.{Due}
use Rattle.due_search.specs.Search.{sooner, next_due, LeastFirstDue, SearchFindsLeast, SameFirst, OthersDontMatter}
use Rattle.due_search.specs.Kept.{EntryCame}

pub found : (counts dues : List ℕ) (n : ℕ) → n ≤ 32 → LeastFirstDue counts dues n (next_due counts dues n)
unfolding next_due
found counts dues zero l =
    record {
      none = λ e. (refl, λ i h. absurd (omega arith));
      some = λ d. absurd (d refl);
      least = λ d i h c. absurd (omega arith);
      lowest = λ d i h c. absurd (d refl);
    }
found counts dues (suc n) l = go (ℕ_discrete (get_or counts n 0) 0) (found counts dues n (omega arith))
  where
    go : Dec (get_or counts n 0 ≡ 0) → LeastFirstDue counts dues n (next_due counts dues n) → LeastFirstDue counts dues (suc n) (next_due counts dues (suc n))
    go (yes z) f =
        rw (eq-eqb (get_or counts n 0) 0 z)
        (record {
          none = λ e. ((f.none e).0, λ i h. below i h (ℕ_discrete i n) (f.none e).1);
          some = λ d. let r = f.some d in (omega (arith, r.0), r.1, r.2);
          least = λ d i h c. f.least d i (not_last i h c (ℕ_discrete i n)) c;
          lowest = f.lowest;
        })
      where
        below : (i : ℕ) → i < suc n → Dec (i ≡ n) → ((i : ℕ) → i < n → get_or counts i 0 ≡ 0) → get_or counts i 0 ≡ 0
        below i h (yes e) g = ap (λ (k : ℕ). get_or counts k 0) e ∙ z
        below i h (no e) g = g i (omega (arith, e))

        not_last : (i : ℕ) → i < suc n → 0 < get_or counts i 0 → Dec (i ≡ n) → i < n
        not_last i h c (yes e) = absurd (omega (arith, ap (λ (k : ℕ). get_or counts k 0) e))
        not_last i h c (no e) = omega (arith, e)
    go (no z) f = rw (ne_eqb (get_or counts n 0) 0 z) (by (ℕ_discrete (next_due counts dues n).thread 32))
      where
        -- thread n is the one, where every thread below it that has an entry is due later
        mine : ((i : ℕ) → i < n → 0 < get_or counts i 0 → get_or dues (n * 8) 0 < get_or dues (i * 8) 0)
            → LeastFirstDue counts dues (suc n) (record { due = get_or dues (n * 8) 0; thread = n })
        mine g =
            record {
              none = λ e. absurd (omega arith);
              some = λ d. (omega arith, omega (arith, z), refl);
              least = λ d i h c. last i h c (ℕ_discrete i n);
              lowest = λ d i h c. g i h c;
            }
          where
            last : (i : ℕ) → i < suc n → 0 < get_or counts i 0 → Dec (i ≡ n) → get_or dues (n * 8) 0 ≤ get_or dues (i * 8) 0
            last i h c (yes e) = omega (arith, ap (λ (k : ℕ). get_or dues (k * 8) 0) e)
            last i h c (no e) = omega (arith, g i (omega (arith, e)) c)

        by : Dec ((next_due counts dues n).thread ≡ 32) → LeastFirstDue counts dues (suc n) (sooner n (get_or dues (n * 8) 0) (next_due counts dues n))
        by (yes e) =
            rw (eq-eqb (next_due counts dues n).thread 32 e) (mine (λ i h c. absurd (omega (arith, (f.none e).1 i h))))
        by (no e) = rw (ne_eqb (next_due counts dues n).thread 32 e) (than (ltb (get_or dues (n * 8) 0) (next_due counts dues n).due) refl)
          where
            than : (b : Bool) → ltb (get_or dues (n * 8) 0) (next_due counts dues n).due ≡ b
                → LeastFirstDue counts dues (suc n) (cond (ltb (get_or dues (n * 8) 0) (next_due counts dues n).due) (record { due = get_or dues (n * 8) 0; thread = n }) (next_due counts dues n))
            than true q = rw q (mine (λ i h c. omega (arith, ltb-true (get_or dues (n * 8) 0) (next_due counts dues n).due q, f.least e i h c)))
            than false q =
                rw q
                (record {
                  none = λ d. absurd (e d);
                  some = λ d. let r = f.some d in (omega (arith, r.0), r.1, r.2);
                  least = λ d i h c. last i h c (ℕ_discrete i n);
                  lowest = f.lowest;
                })
              where
                last : (i : ℕ) → i < suc n → 0 < get_or counts i 0 → Dec (i ≡ n) → (next_due counts dues n).due ≤ get_or dues (i * 8) 0
                last i h c (yes k) = omega (arith, ap (λ (k : ℕ). get_or dues (k * 8) 0) k, ltb-false (get_or dues (n * 8) 0) (next_due counts dues n).due q)
                last i h c (no k) = f.least e i (omega (arith, k)) c

-- only one due and thread is found
found-once : (counts dues : List ℕ) (n : ℕ) (x y : Due) → LeastFirstDue counts dues n x → LeastFirstDue counts dues n y → x ≡ y
found-once counts dues n x y f g = go (ℕ_discrete x.thread 32) (ℕ_discrete y.thread 32)
  where
    same : x.due ≡ y.due → x.thread ≡ y.thread → x ≡ y
    same p q = λ k. record { due = p k; thread = q k }

    -- of two threads with that due, neither is lower
    not_lower : (x y : Due) → LeastFirstDue counts dues n x → LeastFirstDue counts dues n y → (x.thread ≡ 32 → ⊥) → (y.thread ≡ 32 → ⊥) → x.due ≡ y.due → y.thread ≤ x.thread
    not_lower x y f g a b e = go (ltb x.thread y.thread) refl
      where
        go : (b : Bool) → ltb x.thread y.thread ≡ b → y.thread ≤ x.thread
        go true q = let r = f.some a in absurd (omega (arith, r.2, g.lowest b x.thread (ltb-true x.thread y.thread q) r.1))
        go false q = ltb-false x.thread y.thread q

    go : Dec (x.thread ≡ 32) → Dec (y.thread ≡ 32) → x ≡ y
    go (yes a) (yes b) = same (omega (arith, (f.none a).0, (g.none b).0)) (omega arith)
    go (yes a) (no b) = let r = g.some b in absurd (omega (arith, r.1, (f.none a).1 y.thread r.0))
    go (no a) (yes b) = let r = f.some a in absurd (omega (arith, r.1, (g.none b).1 x.thread r.0))
    go (no a) (no b) =
        let r = f.some a in
        let u = g.some b in
        let e : x.due ≡ y.due = omega (arith, r.2, u.2, f.least a y.thread u.0 u.1, g.least b x.thread r.0 r.1) in
        same e (omega (arith, not_lower x y f g a b e, not_lower y x g f b a (sym e)))

pub finds-least : SearchFindsLeast
finds-least counts dues n l = (found counts dues n l, λ x f. found-once counts dues n x (next_due counts dues n) f (found counts dues n l))

-- the thread that is named, or the number after the last thread's
pub named_small : (counts dues : List ℕ) (n : ℕ) → n ≤ 32 → (next_due counts dues n).thread ≤ 32
named_small counts dues n l = go (ℕ_discrete (next_due counts dues n).thread 32)
  where
    go : Dec ((next_due counts dues n).thread ≡ 32) → (next_due counts dues n).thread ≤ 32
    go (yes e) = omega arith
    go (no e) = omega (arith, ((found counts dues n l).some e).0)

-- ---- other counts and dues

pub others-dont-matter : OthersDontMatter
unfolding next_due
others-dont-matter counts dues counts' dues' zero h = refl
others-dont-matter counts dues counts' dues' (suc n) h =
    go (ℕ_discrete (get_or counts n 0) 0) (h n (omega arith)) (others-dont-matter counts dues counts' dues' n (λ i l. h i (omega arith)))
  where
    go : Dec (get_or counts n 0 ≡ 0) → SameFirst counts dues counts' dues' n → next_due counts dues n ≡ next_due counts' dues' n
        → next_due counts dues (suc n) ≡ next_due counts' dues' (suc n)
    go (yes z) s r = rw (← s.pending, eq-eqb (get_or counts n 0) 0 z) r
    go (no z) s r = rw (← s.pending, ne_eqb (get_or counts n 0) 0 z, ← s.first (omega (arith, z)), r)

module _ (counts counts' dues dues' : List ℕ) (n : ℕ) (x : Due) (f : LeastFirstDue counts dues n x) where
  -- the same threads have entries, and their first dues are the same
  kept : ((i : ℕ) → get_or counts i 0 ≡ 0 → get_or counts' i 0 ≡ 0)
      → ((i : ℕ) → 0 < get_or counts i 0 → (0 < get_or counts' i 0) × (get_or dues' (i * 8) 0 ≡ get_or dues (i * 8) 0)) → LeastFirstDue counts' dues' n x
  kept z p =
      record {
        none = λ d. ((f.none d).0, λ i h. z i ((f.none d).1 i h));
        some = λ d. let r = f.some d in let w = p x.thread r.1 in (r.0, w.0, omega (arith, r.2, w.1));
        least = λ d i h c. let b = back i c (ℕ_discrete (get_or counts i 0) 0) in omega (arith, (p i b).1, f.least d i h b);
        lowest = λ d i h c. let b = back i c (ℕ_discrete (get_or counts i 0) 0) in omega (arith, (p i b).1, f.lowest d i h b);
      }
    where
      back : (i : ℕ) → 0 < get_or counts' i 0 → Dec (get_or counts i 0 ≡ 0) → 0 < get_or counts i 0
      back i c (yes e) = absurd (omega (arith, z i e))
      back i c (no e) = omega (arith, e)

  -- thread k has an entry, the first due at d, no later than the first was
  module _ (k d : ℕ) (l : k < n) (m : n ≤ 32) (was : 0 < get_or counts k 0 → d ≤ get_or dues (k * 8) 0) (c : 0 < get_or counts' k 0) (e : get_or dues' (k * 8) 0 ≡ d)
      (others : (i : ℕ) → (i ≡ k → ⊥) → (get_or counts' i 0 ≡ get_or counts i 0) × (get_or dues' (i * 8) 0 ≡ get_or dues (i * 8) 0)) where
    -- it is the one
    mine : ((i : ℕ) → i < n → 0 < get_or counts i 0 → d ≤ get_or dues (i * 8) 0) → ((i : ℕ) → i < k → 0 < get_or counts i 0 → d < get_or dues (i * 8) 0)
        → LeastFirstDue counts' dues' n (record { due = d; thread = k })
    mine g h =
        record {
          none = λ q. absurd (omega arith);
          some = λ q. (l, c, sym e);
          least = λ q i j p. least i j p (ℕ_discrete i k);
          lowest = λ q i j p. let o = others i (λ r. omega arith) in omega (arith, o.1, h i j (omega (arith, o.0)));
        }
      where
        least : (i : ℕ) → i < n → 0 < get_or counts' i 0 → Dec (i ≡ k) → d ≤ get_or dues' (i * 8) 0
        least i j p (yes q) = omega (arith, e, ap (λ (a : ℕ). get_or dues' (a * 8) 0) q)
        least i j p (no q) = let o = others i q in omega (arith, o.1, g i j (omega (arith, o.0)))

    -- another is
    theirs : (x.thread ≡ 32 → ⊥) → x.due ≤ d → (k < x.thread → x.due < d) → LeastFirstDue counts' dues' n x
    theirs a u w =
        record {
          none = λ q. absurd (a q);
          some = λ q. some (f.some q) (ℕ_discrete x.thread k);
          least = λ q i j p. least i j p (ℕ_discrete i k);
          lowest = λ q i j p. lowest i j p (ℕ_discrete i k);
        }
      where
        some : (x.thread < n) × (0 < get_or counts x.thread 0) × (x.due ≡ get_or dues (x.thread * 8) 0) → Dec (x.thread ≡ k)
            → (x.thread < n) × (0 < get_or counts' x.thread 0) × (x.due ≡ get_or dues' (x.thread * 8) 0)
        some r (yes p) =
            let a = was (omega (arith, r.1, ap (λ (b : ℕ). get_or counts b 0) p)) in (
              r.0,
              omega (arith, ap (λ (b : ℕ). get_or counts' b 0) p),
              omega (arith, r.2, a, e, ap (λ (b : ℕ). get_or dues (b * 8) 0) p, ap (λ (b : ℕ). get_or dues' (b * 8) 0) p),
            )
        some r (no p) = let o = others x.thread p in (r.0, omega (arith, r.1, o.0), omega (arith, r.2, o.1))

        least : (i : ℕ) → i < n → 0 < get_or counts' i 0 → Dec (i ≡ k) → x.due ≤ get_or dues' (i * 8) 0
        least i j p (yes q) = omega (arith, e, ap (λ (a : ℕ). get_or dues' (a * 8) 0) q)
        least i j p (no q) = let o = others i q in omega (arith, o.1, f.least a i j (omega (arith, o.0)))

        lowest : (i : ℕ) → i < x.thread → 0 < get_or counts' i 0 → Dec (i ≡ k) → x.due < get_or dues' (i * 8) 0
        lowest i j p (yes q) = omega (arith, e, ap (λ (a : ℕ). get_or dues' (a * 8) 0) q, w (omega arith))
        lowest i j p (no q) = let o = others i q in omega (arith, o.1, f.lowest a i j (omega (arith, o.0)))

    -- so the sooner of the two, and at equal dues the lower
    inserted : LeastFirstDue counts' dues' n (cond (eqb d x.due) (cond (ltb k x.thread) (record { due = d; thread = k }) x) (sooner k d x))
    inserted = go (ℕ_discrete x.thread 32) (eqb d x.due) refl (ltb k x.thread) refl (ltb d x.due) refl
      where
        alone : x.thread ≡ 32 → LeastFirstDue counts' dues' n (record { due = d; thread = k })
        alone a = mine (λ i j p. absurd (omega (arith, (f.none a).1 i j))) (λ i j p. absurd (omega (arith, (f.none a).1 i (omega arith))))

        first : (x.thread ≡ 32 → ⊥) → d ≤ x.due → (x.thread ≤ k → d < x.due) → LeastFirstDue counts' dues' n (record { due = d; thread = k })
        first a u w = mine (λ i j p. omega (arith, f.least a i j p)) (λ i j p. lower i j p (ltb i x.thread) refl)
          where
            lower : (i : ℕ) → i < k → 0 < get_or counts i 0 → (b : Bool) → ltb i x.thread ≡ b → d < get_or dues (i * 8) 0
            lower i j p true q = omega (arith, f.lowest a i (ltb-true i x.thread q) p)
            lower i j p false q = omega (arith, w (omega (arith, ltb-false i x.thread q)), f.least a i (omega arith) p)

        go : Dec (x.thread ≡ 32) → (a : Bool) → eqb d x.due ≡ a → (b : Bool) → ltb k x.thread ≡ b → (o : Bool) → ltb d x.due ≡ o
            → LeastFirstDue counts' dues' n (cond a (cond b (record { due = d; thread = k }) x) (cond (eqb x.thread 32) (record { due = d; thread = k }) (cond o (record { due = d; thread = k }) x)))
        go (yes q) true qa true qb o qo = alone q
        go (yes q) true qa false qb o qo = absurd (omega (arith, ltb-false k x.thread qb))
        go (yes q) false qa b qb o qo = rw (eq-eqb x.thread 32 q) (alone q)
        go (no q) true qa true qb o qo =
            let u = eqb-true d x.due qa in
            let v = ltb-true k x.thread qb in
            first q (omega arith) (λ w. absurd (omega arith))
        go (no q) true qa false qb o qo =
            let u = eqb-true d x.due qa in
            let v = ltb-false k x.thread qb in
            theirs q (omega arith) (λ w. absurd (omega arith))
        go (no q) false qa b qb true qo = let u = ltb-true d x.due qo in rw (ne_eqb x.thread 32 q) (first q (omega arith) (λ w. u))
        go (no q) false qa b qb false qo =
            let u = ltb-false d x.due qo in
            let v = eqb-false d x.due qa in
            rw (ne_eqb x.thread 32 q) (theirs q u (λ w. omega (arith, v)))

-- ---- an entry came

-- what `after_limit` answers
abbrev pub after_entry : Due → ℕ → ℕ → ℕ → Due
after_entry x k count d =
    cond (eqb count 0) x (cond (eqb d x.due) (cond (ltb k x.thread) (record { due = d; thread = k }) x) (sooner k d x))

pub entry-came : (x : Due) (k count d : ℕ) (counts dues : List ℕ) (n : ℕ) → EntryCame x k count d counts dues n → after_entry x k count d ≡ next_due counts dues n
entry-came x k count d counts dues n h =
    found-once counts dues n (after_entry x k count d) (next_due counts dues n) (go (ℕ_discrete count 0)) (found counts dues n h.small)
  where
    f : LeastFirstDue h.counts_before h.dues_before n x
    f = subst⁻¹ (LeastFirstDue h.counts_before h.dues_before n) h.first (found h.counts_before h.dues_before n h.small)

    -- none was there and none is
    same : count ≡ 0 → LeastFirstDue counts dues n x
    same z = kept h.counts_before counts h.dues_before dues n x f (λ i c. zero i c (ℕ_discrete i k)) (λ i c. some i c (ℕ_discrete i k))
      where
        zero : (i : ℕ) → get_or h.counts_before i 0 ≡ 0 → Dec (i ≡ k) → get_or counts i 0 ≡ 0
        zero i c (yes p) = ap (λ (a : ℕ). get_or counts a 0) p ∙ h.counted ∙ z
        zero i c (no p) = (h.others i p).0 ∙ c

        some : (i : ℕ) → 0 < get_or h.counts_before i 0 → Dec (i ≡ k) → (0 < get_or counts i 0) × (get_or dues (i * 8) 0 ≡ get_or h.dues_before (i * 8) 0)
        some i c (yes p) = let y = h.kept (omega (arith, ap (λ (a : ℕ). get_or h.counts_before a 0) p)) in absurd (omega (arith, y.0))
        some i c (no p) = let o = h.others i p in (omega (arith, o.0), o.1)

    go : Dec (count ≡ 0) → LeastFirstDue counts dues n (after_entry x k count d)
    go (yes a) = rw (eq-eqb count 0 a) (same a)
    go (no a) =
        rw (ne_eqb count 0 a)
        (inserted h.counts_before counts h.dues_before dues n x f k d (h.present (omega (arith, a))) h.small (λ b. (h.kept b).1) (omega (arith, a, h.counted)) h.due h.others)
