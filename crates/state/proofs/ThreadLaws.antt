-- The sum of the threads' run times, and their places, taken one thread at a time.
use Prim.Native.Nat.{ℕ, ◌+◌, ◌≤◌, ◌<◌}
use mathlib.Core.Bool.{Bool, true, false}
use mathlib.Core.Path.{◌≡◌, refl, sym, ap, ◌∙◌}
use mathlib.Core.List.{List}
use lib.ListN.{length, drop, get_or, set, drop_of_length-le, get_or-eq_default}
use lib.Seq.{drop-cons, get_or-set_same, get_or-set_other}
use lib.Dec.{ltb}
use native.Mathlib.Numerals.{add-one}
use native.Mathlib.Omega.{arith}
use borrow.Author.Tests.{ltb-true, ltb-false}
use borrow.Author.Count.{below_more}
use Rattle.thread.specs.declared.Thread.{Thread}
use Rattle.thread.specs.Thread.{no_thread, place_of}
use Rattle.state.specs.Sound.{totals}

-- the run times from thread i on
module _ (ts : List Thread) (i : ℕ) where
  pub totals-next : i < length ts → totals (drop i ts) ≡ (get_or ts i no_thread).total + totals (drop (i + 1) ts)
  totals-next h = ap totals (drop-cons ts i no_thread h) ∙ ap (λ (k : ℕ). (get_or ts i no_thread).total + totals (drop k ts)) (sym (add-one i))

  pub totals-none : length ts ≤ i → totals (drop i ts) ≡ 0
  totals-none h = ap totals (drop_of_length-le ts {i = i} h)

-- the places of the first i threads are filled in
module _ (ts : List Thread) (counts : List ℕ) where
  abbrev pub place_at : ℕ → ℕ
  place_at k = place_of (get_or ts k no_thread) (get_or counts k 0)

  abbrev pub Filled : List ℕ → ℕ → Type 0
  Filled places i = (k : ℕ) → k < i → get_or places k 0 ≡ place_at k

  pub fill-next : (places : List ℕ) (i x : ℕ) → i < length places → Filled places i → x ≡ place_at i → Filled (set places i x) (i + 1)
  fill-next places i x h f e =
      below_more (λ (k : ℕ). get_or (set places i x) k 0 ≡ place_at k) i
      (λ k l. get_or-set_other places i k x 0 (λ q. omega arith) ∙ f k l)
      (get_or-set_same places i x 0 h ∙ e)

  -- past the last thread there is no thread, and its place is 0
  pub fill_end : (places : List ℕ) → length places ≡ 32 → length ts ≡ 32 → Filled places 32 → (k : ℕ) → get_or places k 0 ≡ place_at k
  fill_end places n m f k = go (ltb k 32) refl
    where
      go : (b : Bool) → ltb k 32 ≡ b → get_or places k 0 ≡ place_at k
      go true e = f k (omega (arith, ltb-true k 32 e))
      go false e =
          let l : 32 ≤ k = ltb-false k 32 e in
          get_or-eq_default places 0 {n = k} (omega arith)
          ∙ sym (ap (λ (t : Thread). place_of t (get_or counts k 0)) (get_or-eq_default ts no_thread {n = k} (omega arith)))
