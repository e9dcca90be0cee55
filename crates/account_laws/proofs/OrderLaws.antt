-- One more entry among the others: the sum, and the order of the dues.
use Prim.Native.Nat.{ℕ, suc, ◌+◌, ◌-◌, ◌≤◌, ◌<◌}
use mathlib.Core.Path.{◌≡◌}
use mathlib.Core.List.{List, [], ◌∷◌, ◌++◌}
use lib.ListN.{length, take, drop, get_or, length-drop}
use lib.Seq.{get_or-take, get_or-drop, length-take-le}
use native.Mathlib.Omega.{arith}
use Rattle.base.proofs.TestLaws.{tests, All}
use Rattle.entries.specs.Entries.{slot_for, inserted}
use Rattle.entries.proofs.InsertLaws.{SlotFor, slot-for, parts, inserted-part}
use Rattle.account.specs.Sound.{sum, positive, due_tests}

-- ---- amounts: one more among them

pub sum-among : (x : ℕ) (xs ys : List ℕ) → sum (xs ++ x ∷ ys) ≡ sum (xs ++ ys) + x
sum-among x [] ys = omega arith
sum-among x (y ∷ xs) ys = omega (arith, sum-among x xs ys)

pub positive-among : (x : ℕ) (xs ys : List ℕ) → 0 < x → All (positive (xs ++ ys)) → All (positive (xs ++ x ∷ ys))
positive-among x [] ys l h = (omega tests, h)
positive-among x (y ∷ xs) ys l h = (h.0, positive-among x xs ys l h.1)

-- ---- dues: one more among them, in order

-- the last of them is at the lower bound or later
last-from : (lo hi : ℕ) (xs ys : List ℕ) → All (due_tests lo hi (xs ++ ys)) → 0 < length xs → lo ≤ get_or xs (length xs - 1) 0
last-from lo hi [] ys h l = absurd (omega arith)
last-from lo hi (d ∷ []) ys h l = omega (tests, h.0)
last-from lo hi (d ∷ e ∷ xs) ys h l =
    let m : suc (suc (length xs)) - 1 ≡ suc (length xs) = omega arith in
    let k : suc (length xs) - 1 ≡ length xs = omega arith in
    rw m (omega (tests, h.0, rw k at (last-from d hi (e ∷ xs) ys h.1.1 (omega arith))))

pub times-among : (lo hi x : ℕ) (xs ys : List ℕ) → All (due_tests lo hi (xs ++ ys)) → lo ≤ x → x ≤ hi
    → (0 < length xs → get_or xs (length xs - 1) 0 ≤ x) → (0 < length ys → x ≤ get_or ys 0 0) → All (due_tests lo hi (xs ++ x ∷ ys))
times-among lo hi x [] [] h a b f g = omega tests
times-among lo hi x [] (y ∷ ys) h a b f g = (omega tests, (omega tests, (omega (tests, g (omega arith)), h.1)))
times-among lo hi x (d ∷ []) ys h a b f g =
    (h.0, (h.1.0, times-among d hi x [] ys h.1.1 (f (omega arith)) b (λ q. absurd (omega arith)) g))
times-among lo hi x (d ∷ e ∷ xs) ys h a b f g =
    let m : suc (suc (length xs)) - 1 ≡ suc (length xs) = omega arith in
    let k : suc (length xs) - 1 ≡ length xs = omega arith in
    let t : get_or (e ∷ xs) (length xs) 0 ≤ x = rw m at (f (omega arith)) in
    let u : d ≤ get_or (e ∷ xs) (length xs) 0 = rw k at (last-from d hi (e ∷ xs) ys h.1.1 (omega arith)) in
    (h.0, (h.1.0, times-among d hi x (e ∷ xs) ys h.1.1 (omega (arith, t, u)) b (λ q. rw k t) g))

-- a due at its slot among the first n
pub times-inserted : (lo hi x n : ℕ) (ds : List ℕ) → n < length ds → All (due_tests lo hi (take n ds)) → lo ≤ x → x ≤ hi
    → All (due_tests lo hi (take (n + 1) (inserted (slot_for x n ds) n x ds)))
times-inserted lo hi x n ds l h a b = go (slot_for x n ds) (slot-for x n ds)
  where
    go : (k : ℕ) → SlotFor x n ds k → All (due_tests lo hi (take (n + 1) (inserted k n x ds)))
    go k p =
        let lp : length (take k ds) ≡ k = length-take-le k ds (omega (arith, p.within)) in
        let lq : length (take (n - k) (drop k ds)) ≡ n - k = length-take-le (n - k) (drop k ds) (omega (arith, length-drop k ds)) in
        let z : k + 0 ≡ k = omega arith in
        rw (inserted-part k n x ds p.within l)
        (times-among lo hi x (take k ds) (take (n - k) (drop k ds)) (rw (parts k n x ds p.within l) at h) a b
        (λ q. rw lp (rw (get_or-take k ds (k - 1) 0 (omega arith)) (p.before (omega arith))))
        (λ q. rw (get_or-take (n - k) (drop k ds) 0 0 (omega arith)) (rw (get_or-drop k ds 0 0, z) (omega (arith, p.after (omega arith))))))
