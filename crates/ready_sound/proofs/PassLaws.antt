-- The pass from the highest list down: the lists that the word names are struck off, and all between them is 0.
use mathlib.Core.Path.{◌≡◌, refl, sym, ap, ◌∙◌}
use mathlib.Core.Bool.{Bool, true, false}
use mathlib.Core.List.{List, [], ◌∷◌, ◌++◌}
use Prim.Native.Nat.{ℕ, zero, suc, ◌+◌, ◌-◌, ◌*◌, ◌^◌, ◌≤◌, ◌<◌}
use native.Mathlib.Omega.{arith}
use native.Mathlib.Nat.{pow-le-pow_right, pow-suc}
use native.Mathlib.Decide.{ℕ_discrete}
use lib.Count.{count_leading_zeros, leading_top}
use lib.ListN.{length, take, drop, get_or, length-take, length-drop, get_or-append, get_or-eq_default}
use lib.Seq.{get_or-drop, take-add}
use lib.Dec.{ltb, leb, eqb}
use borrow.Author.Tests.{ne_eqb, leb-true, le-leb}
use Rattle.base.specs.Tests.{all, zeros}
use Rattle.base.proofs.TestLaws.{tests, All, all_true, true-all, false-true, never_true, same_test}
use Rattle.base.proofs.ZeroLaws.{Clear, part_at, part-clear, clear-part, zeros-at, at-zeros}
use Rattle.ready.specs.Lists.{start, row_at, size, members, unused, occurs}
use Rattle.ready.specs.Word.{word_of, size_at, occupancy, highest_of}
use Rattle.ready.specs.Sound.{small, sound_lists}
use Rattle.ready_sound.specs.Private.{strikes, struck, RowStruck}
use Rattle.ready.proofs.RowLaws.{within, size-read, row-length}
use Rattle.ready.proofs.WordLaws.{word_lt, word-step, word-skip}
use Rattle.ready.proofs.Soundness.{mark, mark-same, mark-other, mark-is, RowSound, row_same, sound-true, true-sound}
use Rattle.ready_sound.proofs.StrikeLaws.{struck-length, strikes-count, count-strikes, small-none, none-small, After, after}

-- ---- runs of zeros

-- of a part, what stands behind its first number and s more
module _ (a n : ℕ) (l : List ℕ) (s : ℕ) where
  tail_at : (j : ℕ) → 1 + (s + j) < n → get_or (drop s (drop 1 (take n (drop a l)))) j 0 ≡ get_or l (a + (1 + (s + j))) 0
  tail_at j h = get_or-drop s (drop 1 (take n (drop a l))) j 0 ∙ get_or-drop 1 (take n (drop a l)) (s + j) 0 ∙ part_at a n l (1 + (s + j)) h

  tail-clear : All (zeros (drop s (drop 1 (take n (drop a l))))) → Clear (a + 1 + s) (a + n) l
  tail-clear h j lo hi =
      let k = j - (a + 1 + s) in
      let e : a + (1 + (s + k)) ≡ j = omega arith in
      ap (λ (k : ℕ). get_or l k 0) (sym e) ∙ sym (tail_at k (omega arith)) ∙ zeros-at (drop s (drop 1 (take n (drop a l)))) h k

  clear-tail : Clear (a + 1 + s) (a + n) l → All (zeros (drop s (drop 1 (take n (drop a l)))))
  clear-tail h =
      at-zeros (drop s (drop 1 (take n (drop a l))))
      (λ j m.
      let q : 1 + (s + j) < n =
      omega (arith, length-drop s (drop 1 (take n (drop a l))), length-drop 1 (take n (drop a l)), length-take n (drop a l)) in
      tail_at j q ∙ h (a + (1 + (s + j))) (omega arith) (omega arith))

-- ---- the lists that are left

-- the lists 1 to k are sound for the places that are left, none of which is above k, and w is their word
pub record Upto (k w : ℕ) (l left : List ℕ) : Type 0 where
  pub places : (i : ℕ) → i < 32 → get_or left i 0 ≤ k
  pub each : (p : ℕ) → 1 ≤ p → p ≤ k → RowSound (λ i. get_or left i 0) p (row_at p l)
  pub agrees : w ≡ word_of k (size_at l)

pub upto_all : (word : ℕ) (l left : List ℕ) → sound_lists (λ i. get_or left i 0) word l ≡ true → Upto 32 word l left
unfolding occupancy
upto_all word l left e =
    let h = sound-true (λ i. get_or left i 0) word l e in
    record { places = h.rows.places; each = h.rows.each; agrees = h.agrees }

pub all-upto : (word : ℕ) (l left : List ℕ) → length l ≡ 1056 → Upto 32 word l left → sound_lists (λ i. get_or left i 0) word l ≡ true
unfolding occupancy
all-upto word l left n h =
    true-sound (λ i. get_or left i 0) word l (record { array = n; rows = record { places = h.places; each = h.each }; agrees = h.agrees })

-- ---- a list that the word does not name

none-occurs : (s i : ℕ) (xs : List ℕ) → s ≡ 0 → occurs i (take s xs) ≡ 0
unfolding occurs
none-occurs zero i xs e = refl
none-occurs (suc s) i xs e = absurd (omega arith)

none-known : (s : ℕ) (xs : List ℕ) → s ≡ 0 → All (small (take s xs))
none-known zero xs e = tt
none-known (suc s) xs e = absurd (omega arith)

module _ (k w : ℕ) (l left : List ℕ) where
  abbrev row : List ℕ
  row = row_at (suc k) l

  abbrev at : ℕ
  at = start (suc k)

  head : get_or l at 0 ≡ size row
  head = size-read (suc k) at l refl

  module _ (h : Upto (suc k) w l left) (lt : w < 2 ^ k) where
    empty : size row ≡ 0
    empty = go (ℕ_discrete (size row) 0)
      where
        go : Dec (size row ≡ 0) → size row ≡ 0
        go (yes e) = e
        go (no d) = absurd (omega (arith, h.agrees, word-step k (size_at l) d))

    skipped : RowSound (λ i. get_or left i 0) (suc k) row
    skipped = h.each (suc k) (omega arith) (omega arith)

    skip-to : Upto k w l left
    skip-to =
        record {
          places = λ i m. place i m (ℕ_discrete (get_or left i 0) (suc k));
          each = λ p lo hi. h.each p lo (omega arith);
          agrees = h.agrees ∙ word-skip k (size_at l) empty;
        }
      where
        place : (i : ℕ) → i < 32 → Dec (get_or left i 0 ≡ suc k) → get_or left i 0 ≤ k
        place i m (yes e) =
            absurd (omega (arith, skipped.once i m, none-occurs (size row) i (drop 1 row) empty, mark-same (get_or left i 0) (suc k) e))
        place i m (no d) = omega (arith, h.places i m, d)

    skip-clear : Clear at (at + 33) l
    skip-clear j lo hi = go (ℕ_discrete j at)
      where
        go : Dec (j ≡ at) → get_or l j 0 ≡ 0
        go (yes e) = ap (λ (x : ℕ). get_or l x 0) e ∙ head ∙ empty
        go (no d) = tail-clear at 33 l (size row) skipped.rest j (omega (arith, d, empty)) hi

  skip-back : Upto k w l left → Clear at (at + 33) l → Upto (suc k) w l left
  skip-back h c =
      record {
        places = λ i m. omega (arith, h.places i m);
        each = λ p lo hi. each p lo hi (ℕ_discrete p (suc k));
        agrees = h.agrees ∙ sym (word-skip k (size_at l) z);
      }
    where
      z : size row ≡ 0
      z = sym head ∙ c at (omega arith) (omega arith)

      each : (p : ℕ) → 1 ≤ p → p ≤ suc k → Dec (p ≡ suc k) → RowSound (λ i. get_or left i 0) p (row_at p l)
      each p lo hi (yes e) =
          rw e
          (record {
            short = omega (arith, z);
            rest = clear-tail at 33 l (size row) (λ j a b. c j (omega arith) b);
            known = none-known (size row) (drop 1 row) z;
            once = λ i m. none-occurs (size row) i (drop 1 row) z ∙ sym (mark-other (get_or left i 0) (suc k) (λ y. omega (arith, h.places i m)));
          })
      each p lo hi (no d) = h.each p lo (omega (arith, d))

-- all lists above p that the word does not name
pub gap-to : (d p w : ℕ) (l left : List ℕ) → w < 2 ^ p → Upto (d + p) w l left → Upto p w l left × Clear (p * 33) ((d + p) * 33) l
gap-to zero p w l left lt h =
    let z : 0 + p ≡ p = omega arith in
    (rw z at h, λ j a b. absurd (omega arith))
gap-to (suc d) p w l left lt h =
    let z : suc d + p ≡ suc (d + p) = omega arith in
    let g : Upto (suc (d + p)) w l left = rw z at h in
    let u : w < 2 ^ (d + p) = omega (arith, pow-le-pow_right {n = 2} (omega arith) {i = p} {j = d + p} (omega arith)) in
    let r = gap-to d p w l left lt (skip-to (d + p) w l left g u) in
    (r.0, λ j a b. go j a b r.1 (skip-clear (d + p) w l left g u) (ltb j ((d + p) * 33)) refl)
  where
    go : (j : ℕ) → p * 33 ≤ j → j < (suc d + p) * 33 → Clear (p * 33) ((d + p) * 33) l → Clear (start (suc (d + p))) (start (suc (d + p)) + 33) l
        → (t : Bool) → ltb j ((d + p) * 33) ≡ t → get_or l j 0 ≡ 0
    go j a b f c true e = f j a (omega tests)
    go j a b f c false e = c j (omega tests) (omega arith)

pub gap_back : (d p w : ℕ) (l left : List ℕ) → Upto p w l left → Clear (p * 33) ((d + p) * 33) l → Upto (d + p) w l left
gap_back zero p w l left h c = let z : 0 + p ≡ p = omega arith in rw z h
gap_back (suc d) p w l left h c =
    let z : suc d + p ≡ suc (d + p) = omega arith in
    rw z
    (skip-back (d + p) w l left (gap_back d p w l left h (λ j a b. c j a (omega arith)))
    (λ j a b. c j (omega arith) (omega arith)))

-- ---- the highest list that the word names

-- the tests of a part
abbrev pub part_tests : ℕ → List ℕ → List ℕ → List Bool
part_tests p part left = leb 1 (size part) ∷ leb (size part) 32 ∷ all (zeros (unused part)) ∷ strikes p (members part) left ∷ []

module _ (k w : ℕ) (l left : List ℕ) (hi : k < 32) (n : length left ≡ 32) (low : 2 ^ k ≤ w) where
  abbrev list : List ℕ
  list = row_at (suc k) l

  abbrev next : List ℕ
  next = struck (members list) left

  -- for the lists below, the places that are left are as good
  below : (i p : ℕ) → 1 ≤ p → p ≤ k → occurs i (members list) ≤ mark (get_or left i 0) (suc k) → eqb (get_or next i 0) p ≡ eqb (get_or left i 0) p
  below i p lo q h = go (after (suc k) (members list) left i h) (ℕ_discrete (occurs i (members list)) 0)
    where
      go : After (suc k) (members list) left i → Dec (occurs i (members list) ≡ 0) → eqb (get_or next i 0) p ≡ eqb (get_or left i 0) p
      go a (yes e) = ap (λ (x : ℕ). eqb x p) (a.kept e)
      go a (no d) =
          let g = a.gone d in
          rw (g.0, g.1, ne_eqb 0 p (λ z. omega arith), ne_eqb (suc k) p (λ z. omega arith))

  module _ (h : Upto (suc k) w l left) where
    sound : RowSound (λ i. get_or left i 0) (suc k) list
    sound = h.each (suc k) (omega arith) (omega arith)

    some : size list ≡ 0 → ⊥
    some e = omega (arith, h.agrees, word-skip k (size_at l) e, word_lt k (size_at l))

    counted : (i : ℕ) → occurs i (members list) ≤ mark (get_or left i 0) (suc k)
    counted i = go (ltb i 32) refl
      where
        go : (b : Bool) → ltb i 32 ≡ b → occurs i (members list) ≤ mark (get_or left i 0) (suc k)
        go true e = omega (arith, sound.once i (omega tests))
        go false e = omega (arith, small-none (members list) sound.known i (omega tests))

    -- a sound list passes, and those below are sound for what is left
    pub list-tests : All (part_tests (suc k) list left)
    list-tests =
        (omega (tests, some), (le-leb _ _ sound.short, (true-all _ sound.rest, (count-strikes (suc k) (members list) left counted, tt))))

    pub list-next : Upto k (w - 2 ^ k) l next
    list-next =
        record {
          places = λ i m. place i m (after (suc k) (members list) left i (counted i)) (ℕ_discrete (occurs i (members list)) 0);
          each = λ p lo q.
              row_same (λ i. get_or left i 0) (λ i. get_or next i 0) p (row_at p l) (λ i m. below i p lo q (counted i)) (h.each p lo (omega arith));
          agrees = omega (arith, h.agrees, word-step k (size_at l) some);
        }
      where
        place : (i : ℕ) → i < 32 → After (suc k) (members list) left i → Dec (occurs i (members list) ≡ 0) → get_or next i 0 ≤ k
        place i m a (yes e) =
            let d : get_or left i 0 ≡ suc k → ⊥ = λ z. omega (arith, sound.once i m, mark-same (get_or left i 0) (suc k) z) in
            omega (arith, a.kept e, h.places i m, d)
        place i m a (no d) = omega (arith, (a.gone d).0)

  -- and back: a list that passes is sound where those below are
  pub list_back : All (part_tests (suc k) list left) → Upto k (w - 2 ^ k) l next → Upto (suc k) w l left
  list_back t h =
      record {
        places = λ i m. place i m (after (suc k) (members list) left i (count i)) (ℕ_discrete (occurs i (members list)) 0);
        each = λ p lo q. each p lo q (ℕ_discrete p (suc k));
        agrees = omega (arith, h.agrees, word-step k (size_at l) (λ e. omega (tests, t.0)));
      }
    where
      count : (i : ℕ) → occurs i (members list) ≤ mark (get_or left i 0) (suc k)
      count = strikes-count (suc k) (members list) left (omega arith) t.1.1.1.0

      place : (i : ℕ) → i < 32 → After (suc k) (members list) left i → Dec (occurs i (members list) ≡ 0) → get_or left i 0 ≤ suc k
      place i m a (yes e) = omega (arith, a.kept e, h.places i m)
      place i m a (no d) = omega (arith, (a.gone d).1)

      inside : (i : ℕ) → 0 < occurs i (members list) → i < 32
      inside i g = go (ltb i 32) refl
        where
          go : (b : Bool) → ltb i 32 ≡ b → i < 32
          go true e = omega tests
          go false e =
              let z : get_or left i 0 ≡ 0 = get_or-eq_default left 0 {n = i} (omega tests) in
              absurd (omega (arith, count i, mark-is (get_or left i 0) (suc k) (omega (arith, count i))))

      once : (i : ℕ) → i < 32 → After (suc k) (members list) left i → Dec (get_or left i 0 ≡ suc k)
          → occurs i (members list) ≡ mark (get_or left i 0) (suc k)
      once i m a (yes e) =
          let d : occurs i (members list) ≡ 0 → ⊥ = λ z. omega (arith, a.kept z, h.places i m) in
          omega (arith, d, count i, mark-same (get_or left i 0) (suc k) e)
      once i m a (no d) = omega (arith, count i, mark-other (get_or left i 0) (suc k) d)

      each : (p : ℕ) → 1 ≤ p → p ≤ suc k → Dec (p ≡ suc k) → RowSound (λ i. get_or left i 0) p (row_at p l)
      each p lo q (yes e) =
          rw e
          (record {
            short = leb-true _ _ t.1.0;
            rest = all_true _ t.1.1.0;
            known = none-small (members list) inside;
            once = λ i m. once i m (after (suc k) (members list) left i (count i)) (ℕ_discrete (get_or left i 0) (suc k));
          })
      each p lo q (no d) =
          let v : p ≤ k = omega (arith, d) in
          row_same (λ i. get_or next i 0) (λ i. get_or left i 0) p (row_at p l) (λ i m. sym (below i p lo v (count i))) (h.each p lo v)

-- ---- a list and the zeros behind it, up to the list that was struck off before

-- tests of a part that has the same list at its head
same_tests : (p : ℕ) (part list left : List ℕ) → size part ≡ size list → take (size list) (drop 1 part) ≡ members list
    → All (zeros (drop (size list) (drop 1 part))) → All (part_tests p list left) → All (part_tests p part left)
same_tests p part list left e f z t =
    (rw e t.0, (rw e t.1.0, (true-all _ (rw e z), (rw (e, f) t.1.1.1.0, tt))))

list-tests-of : (p : ℕ) (part list left : List ℕ) → size part ≡ size list → take (size list) (drop 1 part) ≡ members list
    → All (zeros (unused list)) → All (part_tests p part left) → All (part_tests p list left)
list-tests-of p part list left e f z t =
    (rw e at t.0, (rw e at t.1.0, (true-all _ z, (rw (e, f) at t.1.1.1.0, tt))))

module _ (j d w n : ℕ) (l left : List ℕ) (len : length l ≡ 1056) (m : length left ≡ 32) (hi : d + suc j ≤ 32) (low : 2 ^ j ≤ w) (up : w < 2 ^ suc j)
    (e : start (suc j) + n ≡ (d + suc j) * 33) where
  abbrev part : List ℕ
  part = take n (drop (start (suc j)) l)

  abbrev first : List ℕ
  first = row_at (suc j) l

  abbrev behind : List ℕ
  behind = take (d * 33) (drop 33 (drop (start (suc j)) l))

  split : part ≡ first ++ behind
  split =
      let q : n ≡ 33 + d * 33 = omega arith in
      ap (λ (k : ℕ). take k (drop (start (suc j)) l)) q ∙ take-add 33 (d * 33) (drop (start (suc j)) l)

  long : length first ≡ 33
  long = row-length (suc j) l (omega arith) (omega arith) len

  sizes : size part ≡ size first
  sizes = ap size split ∙ get_or-append first behind 0 0 (omega (arith, long))

  membs : size first ≤ 32 → take (size first) (drop 1 part) ≡ members first
  membs h =
      ap (λ (t : List ℕ). take (size first) (drop 1 t)) split ∙ within first behind 1 (size first) (omega (arith, long))

  struck-same : size first ≤ 32 → struck (members part) left ≡ struck (members first) left
  struck-same h = ap (λ (s : ℕ). struck (take s (drop 1 part)) left) sizes ∙ ap (λ (t : List ℕ). struck t left) (membs h)

  pub part-to : Upto (d + suc j) w l left → All (part_tests (suc j) part left) × Upto j (w - 2 ^ j) l (struck (members part) left)
  part-to h =
      let g = gap-to d (suc j) w l left up h in
      let t = list-tests j w l left (omega arith) m low g.0 in
      let s : size first ≤ 32 = leb-true _ _ t.1.0 in
      let c = tail-clear (start (suc j)) 33 l (size first) (all_true _ t.1.1.0) in (
        same_tests (suc j) part first left sizes (membs s)
            (clear-tail (start (suc j)) n l (size first) (λ k a b. go k a b c g.1 (ltb k (start (suc j) + 33)) refl)) t,
        rw (struck-same s) (list-next j w l left (omega arith) m low g.0),
      )
    where
      go : (k : ℕ) → start (suc j) + 1 + size first ≤ k → k < start (suc j) + n → Clear (start (suc j) + 1 + size first) (start (suc j) + 33) l
          → Clear (suc j * 33) ((d + suc j) * 33) l → (t : Bool) → ltb k (start (suc j) + 33) ≡ t → get_or l k 0 ≡ 0
      go k a b c g true q = c k a (omega tests)
      go k a b c g false q = g k (omega tests) (omega arith)

  pub part-back : All (part_tests (suc j) part left) → Upto j (w - 2 ^ j) l (struck (members part) left) → Upto (d + suc j) w l left
  part-back t h =
      let s : size first ≤ 32 = omega (tests, t.1.0, sizes) in
      let c : Clear (start (suc j) + 1 + size first) (start (suc j) + n) l =
      tail-clear (start (suc j)) n l (size first) (rw sizes at (all_true _ t.1.1.0)) in
      let z = clear-tail (start (suc j)) 33 l (size first) (λ k a b. c k a (omega arith)) in
      gap_back d (suc j) w l left
      (list_back j w l left (omega arith) m low (list-tests-of (suc j) part first left sizes (membs s) z t) (rw (struck-same s) at h))
      (λ k a b. c k (omega arith) (omega arith))

-- ---- the whole pass

-- the lists from `end` on were struck off: those before it are sound for what is left exactly where all are
pub record Passing (word : ℕ) (l left₀ left : List ℕ) (rest end : ℕ) : Type 0 where
  pub lists : ℕ
  pub range : lists ≤ 32
  pub ends : end ≡ lists * 33
  pub fits : rest < 2 ^ lists
  pub array : length left ≡ 32
  pub to : Upto 32 word l left₀ → Upto lists rest l left
  pub back : Upto lists rest l left → Upto 32 word l left₀

pub pass-start : (word : ℕ) (l left : List ℕ) (end : ℕ) → word < 2 ^ 32 → length left ≡ 32 → end ≡ 1056 → Passing word l left left word end
pass-start word l left end u n e = record { lists = 32; range = omega arith; ends = omega arith; fits = u; array = n; to = λ h. h; back = λ h. h }

-- the list that is next: the highest that the word names
pub record Next (rest end : ℕ) : Type 0 where
  pub list : ℕ
  pub gap : ℕ
  pub range : gap + suc list ≤ 32
  pub ends : end ≡ (gap + suc list) * 33
  pub highest : highest_of rest ≡ suc list
  pub low : 2 ^ list ≤ rest
  pub up : rest < 2 ^ suc list

pub pass-next : (word : ℕ) (l left₀ left : List ℕ) (rest end : ℕ) → Passing word l left₀ left rest end → 0 < rest → Next rest end
pass-next word l left₀ left rest end h pos =
    go (leading_top 32 rest pos (omega (arith, h.fits, pow-le-pow_right {n = 2} (omega arith) {i = h.lists} {j = 32} h.range)))
  where
    go : (j : ℕ) × (count_leading_zeros 32 rest + suc j ≡ 32) × (2 ^ j ≤ rest) × (rest < 2 ^ suc j) → Next rest end
    go (j, e, lo, hi) =
        let q : j < h.lists = under (ltb j h.lists) refl in
        record {
          list = j;
          gap = h.lists - suc j;
          range = omega (arith, h.range);
          ends = h.ends ∙ ap (λ (k : ℕ). k * 33) (omega arith);
          highest = omega (arith, e);
          low = lo;
          up = hi;
        }
      where
        under : (b : Bool) → ltb j h.lists ≡ b → j < h.lists
        under true z = omega tests
        under false z =
            absurd (omega (arith, h.fits, pow-le-pow_right {n = 2} (omega arith) {i = h.lists} {j = j} (omega tests)))

module _ (word : ℕ) (l left₀ left : List ℕ) (rest end p at : ℕ) {part left' : List ℕ} {r : Bool} (len : length l ≡ 1056)
    (h : Passing word l left₀ left rest end) (x : Next rest end) (e : p ≡ highest_of rest) (f : at ≡ start p)
    (g : part ≡ take (end - at) (drop at l)) (s : RowStruck p part left left' r) where
  at-list : p ≡ suc x.list
  at-list = e ∙ x.highest

  number : h.lists ≡ x.gap + suc x.list
  number = omega (arith, h.ends, x.ends)

  its : part ≡ take (end - at) (drop (start (suc x.list)) l)
  its = g ∙ ap (λ (k : ℕ). take (end - at) (drop k l)) (f ∙ ap start at-list)

  len-part : start (suc x.list) + (end - at) ≡ (x.gap + suc x.list) * 33
  len-part = omega (arith, f, at-list, x.ends)

  test : r ≡ all (part_tests (suc x.list) (take (end - at) (drop (start (suc x.list)) l)) left)
  test = rw (← its, ← at-list) s.test

  -- where it fails the whole does
  pub pass-fails : r ≡ false → false ≡ sound_lists (λ i. get_or left₀ i 0) word l
  pass-fails z =
      sym
      (never_true _
      (λ y.
      let u : Upto (x.gap + suc x.list) rest l left = rw number at (h.to (upto_all word l left₀ y)) in
      false-true (sym z ∙ test ∙ true-all _ (part-to x.list x.gap rest (end - at) l left len h.array x.range x.low x.up len-part u).0)))

  -- where it passes the next list is reached
  pub pass-passes : r ≡ true → Passing word l left₀ left' (rest - 2 ^ (p - 1)) at
  pass-passes z =
      let n : left' ≡ struck (members (take (end - at) (drop (start (suc x.list)) l))) left = s.rest z ∙ ap (λ (t : List ℕ). struck (members t) left) its in
      let k : p - 1 ≡ x.list = omega (arith, at-list) in
      rw (n, k)
      (record {
        lists = x.list;
        range = omega (arith, x.range);
        ends = omega (arith, f, at-list);
        fits = omega (arith, x.low, x.up, pow-suc 2 x.list);
        array = struck-length (members (take (end - at) (drop (start (suc x.list)) l))) left ∙ h.array;
        to = λ u. (part-to x.list x.gap rest (end - at) l left len h.array x.range x.low x.up len-part (rw number at (h.to u))).1;
        back = λ u.
            h.back
            (rw number (part-back x.list x.gap rest (end - at) l left len h.array x.range x.low x.up len-part (all_true _ (sym test ∙ z)) u));
      })

-- ---- no list is left that the word names

none-to : (l left : List ℕ) → length left ≡ 32 → Upto 0 0 l left → All (zeros left)
none-to l left n h = at-zeros left (λ i m. omega (arith, h.places i (omega arith)))

none-back : (l left : List ℕ) → All (zeros left) → Upto 0 0 l left
unfolding word_of
none-back l left z = record { places = λ i m. omega (arith, zeros-at left z i); each = λ p lo hi. absurd (omega arith); agrees = refl }

module _ (word : ℕ) (l left₀ left : List ℕ) (rest end : ℕ) (len : length l ≡ 1056) (h : Passing word l left₀ left rest end) (e : rest ≡ 0) where
  lists-zero : h.lists + 0 ≡ h.lists
  lists-zero = omega arith

  last-to : sound_lists (λ i. get_or left₀ i 0) word l ≡ true → Upto 0 0 l left × Clear 0 end l
  last-to y =
      let u : Upto (h.lists + 0) 0 l left = rw (e, ← lists-zero) at (h.to (upto_all word l left₀ y)) in
      let g = gap-to h.lists 0 0 l left (omega arith) u in
      (g.0, λ j a b. g.1 j (omega arith) (omega (arith, h.ends)))

  pub last-fails : all (zeros (take end (drop 0 l))) ≡ false → false ≡ sound_lists (λ i. get_or left₀ i 0) word l
  last-fails z =
      sym (never_true _ (λ y. false-true (sym z ∙ true-all _ (clear-part 0 end l (λ j a b. (last-to y).1 j a (omega arith))))))

  pub last-decides : all (zeros (take end (drop 0 l))) ≡ true → all (zeros left) ≡ sound_lists (λ i. get_or left₀ i 0) word l
  last-decides z =
      same_test _ _ (λ y. all-upto word l left₀ len (h.back (from (all_true _ y)))) (λ y. true-all _ (none-to l left h.array (last-to y).0))
    where
      from : All (zeros left) → Upto h.lists rest l left
      from y =
          let c = part-clear 0 end l (all_true _ z) in
          rw (e, ← lists-zero) (gap_back h.lists 0 0 l left (none-back l left y) (λ j a b. c j (omega arith) (omega (arith, h.ends))))
