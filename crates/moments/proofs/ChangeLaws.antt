-- A state with another thread and account at one place.
use Prim.Native.Nat.{ℕ, zero, suc, ◌+◌, ◌*◌, ◌<◌}
use mathlib.Core.Bool.{Bool, true, false, cond}
use mathlib.Core.Path.{◌≡◌, refl, sym, ap, ap₂, ◌∙◌, subst⁻¹}
use mathlib.Core.List.{List, [], ◌∷◌}
use lib.ListN.{length, get_or, set, length-set}
use lib.Seq.{set-get_or, get_or-set_same, get_or-set_other}
use lib.Dec.{ltb, eqb}
use native.Mathlib.Omega.{arith}
use native.Mathlib.Decide.{ℕ_discrete}
use borrow.Author.Tests.{eq-eqb, ne_eqb}
use Rattle.base.proofs.TestLaws.{tests, All, cond-true, cond-false}
use Rattle.base.proofs.PartLaws.{replaced-length, replaced-at, replaced-before, replaced-after}
use Rattle.account.specs.declared.Account.{Account}
use Rattle.ready.specs.Word.{occupancy}
use Rattle.ready.proofs.Soundness.{ListsSound}
use Rattle.ready.proofs.SoundLaws.{with_place, sound-same}
use Rattle.thread.specs.declared.Thread.{Thread}
use Rattle.state.specs.declared.State.{State}
use Rattle.rows.specs.Rows.{slots_at, with_slots}
use Rattle.state.specs.State.{thread_at, pending_at, place}
use Rattle.thread.specs.Thread.{no_thread, place_of, with_server}
use Rattle.state.specs.Sound.{totals}
use Rattle.rows.proofs.RowLaws.{row_same}
use Rattle.state.proofs.SoundLaws.{ThreadSound, SoundFrom, size_tests}
use Rattle.state.specs.Updates.{with_thread, with_lists, with_account, state_of}

-- ---- rows

module _ (i : ℕ) (row xs : List ℕ) (l : i < 32) (n : length xs ≡ 256) (m : length row ≡ 8) where
  pub row-length : length (with_slots i row xs) ≡ 256
  unfolding with_slots
  row-length = replaced-length (i * 8) 8 row xs m (omega arith) ∙ n

  pub row_at : slots_at i (with_slots i row xs) ≡ row
  unfolding with_slots
  row_at = replaced-at (i * 8) 8 row xs m (omega arith)

  pub row_other : (j : ℕ) → (j ≡ i → ⊥) → slots_at j (with_slots i row xs) ≡ slots_at j xs
  unfolding with_slots
  row_other j d = go (ltb j i) refl
    where
      go : (b : Bool) → ltb j i ≡ b → slots_at j (with_slots i row xs) ≡ slots_at j xs
      go true e = replaced-before (i * 8) 8 row xs m (omega arith) (j * 8) 8 (omega (tests, e))
      go false e = replaced-after (i * 8) 8 row xs m (omega arith) (j * 8) 8 (omega (tests, e, d))

-- ---- another thread and account at place i

module _ (s : State) (i : ℕ) (l : i < 32) (t : Thread) (a : Account) (z : All (size_tests s)) (d : length a.pending.dues ≡ 8) (x : length a.pending.amounts ≡ 8) where
  pub thread-new : thread_at (with_account i t a s) i ≡ with_server a.server t
  thread-new = get_or-set_same s.threads i (with_server a.server t) no_thread (omega (tests, z))

  pub thread-other : (j : ℕ) → (j ≡ i → ⊥) → thread_at (with_account i t a s) j ≡ thread_at s j
  thread-other j e = get_or-set_other s.threads i j (with_server a.server t) no_thread e

  pub count-new : get_or (with_account i t a s).counts i 0 ≡ a.pending.count
  count-new = get_or-set_same s.counts i a.pending.count 0 (omega (tests, z))

  pub count-other : (j : ℕ) → (j ≡ i → ⊥) → get_or (with_account i t a s).counts j 0 ≡ get_or s.counts j 0
  count-other j e = get_or-set_other s.counts i j a.pending.count 0 e

  pub pending-new : pending_at (with_account i t a s) i ≡ a.pending
  pending-new =
      λ k. record {
        count = count-new k;
        dues = row_at i a.pending.dues s.dues l (omega (tests, z)) d k;
        amounts = row_at i a.pending.amounts s.amounts l (omega (tests, z)) x k;
      }

  pub pending-other : (j : ℕ) → (j ≡ i → ⊥) → pending_at (with_account i t a s) j ≡ pending_at s j
  pending-other j e =
      λ k. record {
        count = count-other j e k;
        dues = row_other i a.pending.dues s.dues l (omega (tests, z)) d j e k;
        amounts = row_other i a.pending.amounts s.amounts l (omega (tests, z)) x j e k;
      }

  -- the placement: i's new place, and every other thread's old one
  pub place-new : (j : ℕ) → place (with_account i t a s) j ≡ with_place (place s) i (place_of (with_server a.server t) a.pending.count) j
  place-new j = go (ℕ_discrete j i)
    where
      go : Dec (j ≡ i) → place (with_account i t a s) j ≡ with_place (place s) i (place_of (with_server a.server t) a.pending.count) j
      go (yes e) =
          ap (place (with_account i t a s)) e ∙ ap₂ place_of thread-new count-new ∙ sym (cond-true (eqb j i) _ _ (eq-eqb j i e))
      go (no e) = ap₂ place_of (thread-other j e) (count-other j e) ∙ sym (cond-false (eqb j i) _ _ (ne_eqb j i e))

-- lower bounds of dues, with x for thread i
abbrev pub with_bound : (ℕ → ℕ) → ℕ → ℕ → ℕ → ℕ
with_bound lo i x j = cond (eqb j i) x (lo j)

-- the sum of run times, with another thread at place i
pub totals-set : (ts : List Thread) (i : ℕ) (t : Thread) → i < length ts → totals (set ts i t) + (get_or ts i no_thread).total ≡ totals ts + t.total
totals-set [] i t l = absurd (omega arith)
totals-set (x ∷ xs) zero t l = omega arith
totals-set (x ∷ xs) (suc i) t l = omega (arith, totals-set xs i t (omega arith))

-- a sound thread at place i, sound ones elsewhere, and lists that are sound for its new place, make a sound state
module _ (lo : ℕ → ℕ) (s : State) (z : All (size_tests s)) (i : ℕ) (l : i < 32) (t : Thread) (a : Account) (x : ℕ)
    (d : length a.pending.dues ≡ 8) (m : length a.pending.amounts ≡ 8)
    (ok : ThreadSound s.header.start s.now x (ltb i s.header.n) (with_server a.server t) a.pending)
    (others : (j : ℕ) → j < 32 → (j ≡ i → ⊥) → ThreadSound s.header.start s.now (lo j) (ltb j s.header.n) (thread_at s j) (pending_at s j))
    (timed : s.header.start + totals (set s.threads i (with_server a.server t)) + s.idle ≡ s.now) where
  each-new : (j : ℕ) → j < 32
      → ThreadSound s.header.start s.now (with_bound lo i x j) (ltb j s.header.n) (thread_at (with_account i t a s) j) (pending_at (with_account i t a s) j)
  each-new j n = go (ℕ_discrete j i)
    where
      go : Dec (j ≡ i)
          → ThreadSound s.header.start s.now (with_bound lo i x j) (ltb j s.header.n) (thread_at (with_account i t a s) j) (pending_at (with_account i t a s) j)
      go (yes e) =
          subst⁻¹ (λ (k : ℕ). ThreadSound s.header.start s.now (with_bound lo i x k) (ltb k s.header.n) (thread_at (with_account i t a s) k) (pending_at (with_account i t a s) k)) e
          (rw (eq-eqb i i refl, thread-new s i l t a z d m, pending-new s i l t a z d m) ok)
      go (no e) = rw (ne_eqb j i e, thread-other s i l t a z d m j e, pending-other s i l t a z d m j e) (others j n e)

  pub changed-at : (l' : List ℕ) → ListsSound (with_place (place s) i (place_of (with_server a.server t) a.pending.count)) (occupancy l') l'
      → SoundFrom (with_bound lo i x) (with_lists l' (with_account i t a s))
  changed-at l' q =
      record {
        sizes = rw (
          length-set s.threads i (with_server a.server t),
          length-set s.counts i a.pending.count,
          row-length i a.pending.dues s.dues l (omega (tests, z)) d,
          row-length i a.pending.amounts s.amounts l (omega (tests, z)) m,
        ) (omega (tests, z));
        each = each-new;
        lists = sound-same (with_place (place s) i (place_of (with_server a.server t) a.pending.count)) (place (with_account i t a s)) (occupancy l') l'
            (λ j n. place-new s i l t a z d m j) q;
        timed = timed;
      }

-- the same from a sound state, where the run time stays
pub changed : (lo : ℕ → ℕ) (s : State) → SoundFrom lo s → (i : ℕ) → i < 32 → (t : Thread) (a : Account) (x : ℕ)
    → length a.pending.dues ≡ 8 → length a.pending.amounts ≡ 8
    → ThreadSound s.header.start s.now x (ltb i s.header.n) (with_server a.server t) a.pending
    → t.total ≡ (thread_at s i).total
    → (l' : List ℕ) → ListsSound (with_place (place s) i (place_of (with_server a.server t) a.pending.count)) (occupancy l') l'
    → SoundFrom (with_bound lo i x) (with_lists l' (with_account i t a s))
changed lo s h i l t a x d m ok same l' q =
    changed-at lo s h.sizes i l t a x d m ok (λ j n e. h.each j n)
    (omega (arith, h.timed, totals-set s.threads i (with_server a.server t) (omega (tests, h.sizes)), same)) l' q

-- another thread alone is another thread with the account that was there
pub thread-account : (i : ℕ) (t : Thread) (s : State) → with_thread i t s ≡ with_account i t (record { server = t.server; pending = pending_at s i }) s
thread-account i t s =
    λ k. state_of s.header s.now s.idle s.word (set s.threads i t) (sym (set-get_or s.counts i 0) k) (sym (row_same i s.dues) k) (sym (row_same i s.amounts) k) s.lists
