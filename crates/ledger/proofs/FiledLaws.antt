-- An entry that is filed in due order stands where the account's slots put it (02 E7 3).
use Prim.Native.Nat.{ℕ, zero, suc, ◌+◌, ◌-◌, ◌≤◌, ◌<◌}
use mathlib.Core.Path.{◌≡◌, refl, sym, ap, ap₂, ◌∙◌}
use mathlib.Core.List.{List, [], ◌∷◌, ◌++◌, map}
use lib.ListN.{length, take, drop, get_or, length-map}
use lib.Seq.{take_at, drop_at, get_or-take, length-take-le}
use native.Mathlib.Omega.{arith}
use Rattle.base.proofs.TestLaws.{tests, All, cond-elim}
use Rattle.entries.specs.Entries.{slot_for, inserted}
use Rattle.entries.proofs.InsertLaws.{SlotFor, slot-for, parts, inserted-part}
use Rattle.account.specs.Sound.{due_tests}
use Rattle.ledger.specs.Ledger.{Entry, precedes, filed, ticks_of}

abbrev pub due_list : List Entry → List ℕ
due_list xs = map (λ (x : Entry). x.due) xs

abbrev pub amount_list : List Entry → List ℕ
amount_list xs = map (λ (x : Entry). ticks_of x.runs) xs

-- ---- the slot of a due among those that don't fall

-- each of them is at lo or later
least : (lo hi : ℕ) (ds : List ℕ) (j : ℕ) → All (due_tests lo hi ds) → j < length ds → lo ≤ get_or ds j 0
least lo hi [] j h l = absurd (omega arith)
least lo hi (d ∷ ds) zero h l = omega (tests, h.0)
least lo hi (d ∷ ds) (suc j) h l = omega (tests, h.0, least d hi ds j h.1.1 (omega arith))

-- of the first n alone
slot-among : (d n k : ℕ) (ds : List ℕ) → SlotFor d n ds k → SlotFor d n (take n ds) k
slot-among d n k ds s =
    record {
      within = s.within;
      before = λ l. rw (get_or-take n ds (k - 1) 0 (omega (arith, s.within))) (s.before l);
      after = λ l. rw (get_or-take n ds k 0 l) (s.after l);
    }

-- without the first
module _ (c d n k : ℕ) (ds : List ℕ) (s : SlotFor d (suc n) (c ∷ ds) (suc k)) where
  slot-rest : SlotFor d n ds k
  slot-rest = record { within = omega (arith, s.within); before = λ l. at k l (s.before (omega arith)); after = λ l. s.after (omega arith) }
    where
      at : (k : ℕ) → 0 < k → get_or (c ∷ ds) (suc k - 1) 0 ≤ d → get_or ds (k - 1) 0 ≤ d
      at zero l h = absurd (omega arith)
      at (suc k) l h = let e : suc (suc k) - 1 ≡ suc k = omega arith in let f : suc k - 1 ≡ k = omega arith in rw f (rw e at h)

  slot-first : (lo hi : ℕ) → length ds ≡ n → All (due_tests lo hi (c ∷ ds)) → c ≤ d
  slot-first lo hi m h = at k s.within (s.before (omega arith))
    where
      at : (k : ℕ) → suc k ≤ suc n → get_or (c ∷ ds) (suc k - 1) 0 ≤ d → c ≤ d
      at zero l g = g
      at (suc k) l g = let e : suc (suc k) - 1 ≡ suc k = omega arith in omega (arith, rw e at g, least c hi ds k h.1.1 (omega arith))

-- ---- the entry is filed there

filed-at : (x : Entry) (xs : List Entry) (lo hi k : ℕ) → All (due_tests lo hi (due_list xs)) → SlotFor x.due (length xs) (due_list xs) k
    → filed x xs ≡ take k xs ++ x ∷ drop k xs
filed-at x [] lo hi zero h s = refl
filed-at x [] lo hi (suc k) h s = refl
filed-at x (y ∷ ys) lo hi zero h s =
    cond-elim (λ (l : List Entry). l ≡ x ∷ y ∷ ys) (precedes y x) (y ∷ filed x ys) (x ∷ y ∷ ys) (λ e. absurd (omega (tests, e, s.after (omega arith)))) (λ e. refl)
filed-at x (y ∷ ys) lo hi (suc k) h s =
    cond-elim (λ (l : List Entry). l ≡ y ∷ (take k ys ++ x ∷ drop k ys)) (precedes y x) (y ∷ filed x ys) (x ∷ y ∷ ys)
    (λ e. ap (λ (l : List Entry). y ∷ l) (filed-at x ys y.due hi k h.1.1 (slot-rest y.due x.due (length ys) k (due_list ys) s)))
    (λ e. absurd (omega (tests, e, slot-first y.due x.due (length ys) k (due_list ys) s lo hi (length-map ys (λ (x : Entry). x.due)) h)))

map_at : (f : Entry → ℕ) (k : ℕ) (xs : List Entry) (x : Entry) → map f (take k xs ++ x ∷ drop k xs) ≡ take k (map f xs) ++ f x ∷ drop k (map f xs)
map_at f zero xs x = refl
map_at f (suc k) [] x = refl
map_at f (suc k) (y ∷ ys) x = ap (λ (l : List ℕ). f y ∷ l) (map_at f k ys x)

-- of the first n numbers, those before slot k and those from it on
module _ (k n x : ℕ) (xs : List ℕ) (h : k ≤ n) (l : n < length xs) where
  shorter : length (take k xs) ≡ k
  shorter = length-take-le k xs (omega arith)

  pub front : take k (take n xs) ≡ take k xs
  front = ap (take k) (parts k n x xs h l) ∙ take_at (take k xs) (take (n - k) (drop k xs)) k shorter

  pub back : drop k (take n xs) ≡ take (n - k) (drop k xs)
  back = ap (drop k) (parts k n x xs h l) ∙ drop_at (take k xs) (take (n - k) (drop k xs)) k shorter

-- as the slots have it: of the dues ds of the n entries, and of the numbers ns of them that f gives
module _ (x : Entry) (xs : List Entry) (lo hi n : ℕ) (ds : List ℕ) (l : n < length ds) (t : due_list xs ≡ take n ds) (h : All (due_tests lo hi (take n ds))) where
  many : length xs ≡ n
  many = sym (length-map xs (λ (x : Entry). x.due)) ∙ ap length t ∙ length-take-le n ds (omega arith)

  pub filed-slots : (f : Entry → ℕ) (y : ℕ) (ns : List ℕ) → n < length ns → map f xs ≡ take n ns → f x ≡ y → map f (filed x xs) ≡ take (n + 1) (inserted (slot_for x.due n ds) n y ns)
  filed-slots f y ns m e q =
      let k = slot_for x.due n ds in
      let s = slot-for x.due n ds in
      ap (map f) (filed-at x xs lo hi k (rw t h) (rw (many, t) (slot-among x.due n k ds s)))
      ∙ map_at f k xs x
      ∙ ap₂ (λ (l : List ℕ) (z : ℕ). take k l ++ z ∷ drop k l) e q
      ∙ ap₂ (λ (a b : List ℕ). a ++ y ∷ b) (front k n y ns s.within m) (back k n y ns s.within m)
      ∙ sym (inserted-part k n y ns s.within m)
