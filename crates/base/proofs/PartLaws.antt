-- A list in which the n elements from place a on are replaced by others.
use Prim.Native.Nat.{ℕ, ◌+◌, ◌-◌, ◌≤◌}
use mathlib.Core.Path.{◌≡◌, sym, ap, ◌∙◌}
use mathlib.Core.List.{List, ◌++◌}
use lib.ListN.{length, take, drop, length-append, length-drop, take-append-drop}
use lib.Seq.{length-take-le, take-append-le, drop-append-le, take_at, drop_at, drop-drop}
use native.Mathlib.Omega.{arith}

abbrev pub replaced : ℕ → ℕ → List ℕ → List ℕ → List ℕ
replaced a n r xs = take a xs ++ (r ++ drop (a + n) xs)

-- the same elements again
pub replaced-same : (a n : ℕ) (xs : List ℕ) → replaced a n (take n (drop a xs)) xs ≡ xs
replaced-same a n xs =
    ap (λ (t : List ℕ). take a xs ++ (take n (drop a xs) ++ t)) (sym (drop-drop n a xs))
    ∙ ap (λ (t : List ℕ). take a xs ++ t) (take-append-drop n (drop a xs))
    ∙ take-append-drop a xs

-- a part that ends before a list does
part_left : (b k : ℕ) (xs ys : List ℕ) → b + k ≤ length xs → take k (drop b (xs ++ ys)) ≡ take k (drop b xs)
part_left b k xs ys h =
    ap (take k) (drop-append-le b xs ys (omega arith)) ∙ take-append-le k (drop b xs) ys (omega (arith, length-drop b xs))

-- a part that starts at or after place n
past : (n b : ℕ) (xs ys : List ℕ) → length xs ≡ n → n ≤ b → drop b (xs ++ ys) ≡ drop (b - n) ys
past n b xs ys e h =
    let q : n + (b - n) ≡ b = omega arith in
    ap (λ (m : ℕ). drop m (xs ++ ys)) (sym q)
    ∙ sym (drop-drop (b - n) n (xs ++ ys))
    ∙ ap (drop (b - n)) (drop_at xs ys n e)

module _ (a n : ℕ) (r xs : List ℕ) (m : length r ≡ n) (h : a + n ≤ length xs) where
  front : length (take a xs) ≡ a
  front = length-take-le a xs (omega arith)

  pub replaced-length : length (replaced a n r xs) ≡ length xs
  replaced-length = simp (length-append, length-drop, front) (omega arith)

  pub replaced-at : take n (drop a (replaced a n r xs)) ≡ r
  replaced-at =
      ap (take n) (drop_at (take a xs) (r ++ drop (a + n) xs) a front) ∙ take_at r (drop (a + n) xs) n m

  -- parts that do not meet it
  pub replaced-before : (b k : ℕ) → b + k ≤ a → take k (drop b (replaced a n r xs)) ≡ take k (drop b xs)
  replaced-before b k l =
      let f : b + k ≤ length (take a xs) = omega (arith, front) in
      part_left b k (take a xs) (r ++ drop (a + n) xs) f
      ∙ sym (part_left b k (take a xs) (drop a xs) f)
      ∙ ap (λ (t : List ℕ). take k (drop b t)) (take-append-drop a xs)

  pub replaced-after : (b k : ℕ) → a + n ≤ b → take k (drop b (replaced a n r xs)) ≡ take k (drop b xs)
  replaced-after b k l =
      let q : a + n + (b - a - n) ≡ b = omega arith in
      ap (take k)
      (past a b (take a xs) (r ++ drop (a + n) xs) front (omega arith)
      ∙ past n (b - a) r (drop (a + n) xs) m (omega arith)
      ∙ drop-drop (b - a - n) (a + n) xs
      ∙ ap (λ (j : ℕ). drop j xs) q)
