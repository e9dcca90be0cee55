-- Soundness as propositions, and that each is the test of its name: true exactly when it holds.
use mathlib.Core.Path.{◌≡◌}
use mathlib.Core.Bool.{true, cond}
use mathlib.Core.List.{List}
use Prim.Native.Nat.{ℕ, zero, suc, ◌≤◌, ◌<◌}
use native.Mathlib.Omega.{arith}
use native.Mathlib.Decide.{ℕ_discrete}
use lib.ListN.{length}
use lib.Dec.{leb, eqb}
use borrow.Author.Tests.{eq-eqb, ne_eqb, eqb-true, leb-true, le-leb}
use Rattle.base.specs.Tests.{zeros}
use Rattle.base.proofs.TestLaws.{All, all_true, true-all, below_at, at-below}
use Rattle.ready.specs.Lists.{row_at, size, members, unused, occurs}
use Rattle.ready.specs.Word.{occupancy}
use Rattle.ready.specs.Sound.{small, sound_row, sound_rows, sound_lists}

-- 1 for a thread whose place is p
abbrev pub mark : ℕ → ℕ → ℕ
mark q p = cond (eqb q p) 1 0

pub mark-same : (q p : ℕ) → q ≡ p → mark q p ≡ 1
mark-same q p e = rw (eq-eqb q p e)

pub mark-other : (q p : ℕ) → (q ≡ p → ⊥) → mark q p ≡ 0
mark-other q p d = rw (ne_eqb q p d)

pub mark-is : (q p : ℕ) → 0 < mark q p → q ≡ p
mark-is q p h = go (ℕ_discrete q p)
  where
    go : Dec (q ≡ p) → q ≡ p
    go (yes e) = e
    go (no d) = absurd (omega (arith, mark-other q p d))

-- the row of list p
pub record RowSound (place : ℕ → ℕ) (p : ℕ) (row : List ℕ) : Type 0 where
  pub short : size row ≤ 32
  pub rest : All (zeros (unused row))
  pub known : All (small (members row))
  pub once : (i : ℕ) → i < 32 → occurs i (members row) ≡ mark (place i) p

-- every list
pub record RowsSound (place : ℕ → ℕ) (l : List ℕ) : Type 0 where
  pub places : (i : ℕ) → i < 32 → place i ≤ 32
  pub each : (p : ℕ) → 1 ≤ p → p ≤ 32 → RowSound place p (row_at p l)

-- the lists and the word
pub record ListsSound (place : ℕ → ℕ) (word : ℕ) (l : List ℕ) : Type 0 where
  pub array : length l ≡ 1056
  pub rows : RowsSound place l
  pub agrees : word ≡ occupancy l

-- the row for places that agree on p
pub row_same : (place place' : ℕ → ℕ) (p : ℕ) (row : List ℕ) → ((i : ℕ) → i < 32 → eqb (place' i) p ≡ eqb (place i) p)
    → RowSound place p row → RowSound place' p row
row_same place place' p row e h = record { short = h.short; rest = h.rest; known = h.known; once = λ i l. rw (e i l) (h.once i l) }

pub row-true : (place : ℕ → ℕ) (p : ℕ) (row : List ℕ) → sound_row place p row ≡ true → RowSound place p row
unfolding sound_row
row-true place p row e =
    let h = all_true _ e in
    record {
      short = leb-true _ _ h.0;
      rest = all_true _ h.1.0;
      known = all_true _ h.1.1.0;
      once = λ i l. eqb-true _ _ (below_at 32 (λ i. eqb (occurs i (members row)) (cond (eqb (place i) p) 1 0)) h.1.1.1.0 i l);
    }

pub true-row : (place : ℕ → ℕ) (p : ℕ) (row : List ℕ) → RowSound place p row → sound_row place p row ≡ true
unfolding sound_row
true-row place p row h =
    true-all _ (
      le-leb _ _ h.short,
      (
        true-all _ h.rest,
        (
          true-all _ h.known,
          (at-below 32 (λ i. eqb (occurs i (members row)) (cond (eqb (place i) p) 1 0)) (λ i l. eq-eqb _ _ (h.once i l)), tt),
        ),
      ),
    )

pub rows_true : (place : ℕ → ℕ) (l : List ℕ) → sound_rows place l ≡ true → RowsSound place l
unfolding sound_rows
rows_true place l e =
    let h = all_true _ e in
    record {
      places = λ i m. leb-true _ _ (below_at 32 (λ i. leb (place i) 32) h.0 i m);
      each = each (below_at 32 (λ k. sound_row place (suc k) (row_at (suc k) l)) h.1.0);
    }
  where
    each : ((k : ℕ) → k < 32 → sound_row place (suc k) (row_at (suc k) l) ≡ true) → (p : ℕ) → 1 ≤ p → p ≤ 32
        → RowSound place p (row_at p l)
    each f zero lo hi = absurd (omega arith)
    each f (suc k) lo hi = row-true place (suc k) (row_at (suc k) l) (f k (omega arith))

pub true-rows : (place : ℕ → ℕ) (l : List ℕ) → RowsSound place l → sound_rows place l ≡ true
unfolding sound_rows
true-rows place l h =
    true-all _ (
      at-below 32 (λ i. leb (place i) 32) (λ i m. le-leb _ _ (h.places i m)),
      (at-below 32 (λ k. sound_row place (suc k) (row_at (suc k) l)) (λ k m. true-row place (suc k) (row_at (suc k) l) (h.each (suc k) (omega arith) (omega arith))), tt),
    )

pub sound-true : (place : ℕ → ℕ) (word : ℕ) (l : List ℕ) → sound_lists place word l ≡ true → ListsSound place word l
unfolding sound_lists
sound-true place word l e =
    let h = all_true _ e in
    record { array = eqb-true _ _ h.0; rows = rows_true place l h.1.0; agrees = eqb-true _ _ h.1.1.0 }

pub true-sound : (place : ℕ → ℕ) (word : ℕ) (l : List ℕ) → ListsSound place word l → sound_lists place word l ≡ true
unfolding sound_lists
true-sound place word l h = true-all _ (eq-eqb _ _ h.array, (true-rows place l h.rows, (eq-eqb _ _ h.agrees, tt)))
