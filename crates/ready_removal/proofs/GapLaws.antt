-- The closing of a gap in a list, place by place.
use mathlib.Core.Path.{◌≡◌, sym, ap, ◌∙◌}
use mathlib.Core.List.{List, ◌∷◌, ◌++◌, append_assoc, append-nil}
use Prim.Native.Nat.{ℕ, suc, ◌+◌, ◌-◌, ◌≤◌, ◌<◌}
use native.Mathlib.Nat.{add-zero}
use native.Mathlib.Numerals.{add-one}
use native.Mathlib.Omega.{arith}
use lib.ListN.{length, set, take, drop, get_or, length-append, length-take, length-drop, take-append-drop}
use lib.Seq.{drop-cons, take-suc, set_at, get_or-append-add, get_or-drop}
use Rattle.ready.specs.Private.{closed}

get_d_past : (f r : List ℕ) (k n : ℕ) → length f ≡ k → get_or (f ++ r) (k + n) 0 ≡ get_or r n 0
get_d_past f r k n e = rw (← e) (get_or-append-add f r n 0)

module _ (l : List ℕ) (at : ℕ) where
  -- the list where the gap has moved up to the place j
  abbrev pub upto : ℕ → List ℕ
  upto j = (take at l ++ take j (drop (at + 1) l)) ++ drop (at + j) l

  front : (j : ℕ) → at + j < length l → length (take at l ++ take j (drop (at + 1) l)) ≡ at + j
  front j h = simp (length-append, length-take, length-drop) (omega arith)

  -- what is read at the next place is still what stood there
  pub next-read : (j : ℕ) → at + j + 1 < length l → get_or (upto j) (at + j + 1) 0 ≡ get_or l (at + j + 1) 0
  next-read j h =
      get_d_past (take at l ++ take j (drop (at + 1) l)) (drop (at + j) l) (at + j) 1 (front j (omega arith)) ∙ get_or-drop (at + j) l 1 0

  stored : (j x : ℕ) → at + j < length l → set (upto j) (at + j) x ≡ (take at l ++ take j (drop (at + 1) l)) ++ (x ∷ drop (at + j + 1) l)
  stored j x h =
      rw (drop-cons l (at + j) 0 h, add-one (at + j))
      (set_at (take at l ++ take j (drop (at + 1) l)) (get_or l (at + j) 0) (drop (suc (at + j)) l) x (at + j) (front j h))

  pub next-step : (j : ℕ) → at + j + 1 < length l → set (upto j) (at + j) (get_or l (at + j + 1) 0) ≡ upto (j + 1)
  next-step j h =
      let r : j < length (drop (at + 1) l) = simp length-drop (omega arith) in
      let k : at + 1 + j ≡ at + j + 1 = omega arith in
      let g : get_or (drop (at + 1) l) j 0 ≡ get_or l (at + j + 1) 0 = get_or-drop (at + 1) l j 0 ∙ ap (λ (k : ℕ). get_or l k 0) k in
      let e : at + (j + 1) ≡ at + j + 1 = omega arith in
      stored j (get_or l (at + j + 1) 0) (omega arith)
      ∙ rw (e, add-one j, take-suc (drop (at + 1) l) j 0 r, g) (simp append_assoc)

  pub at_first : l ≡ upto 0
  at_first = rw (add-zero at, append-nil (take at l)) (sym (take-append-drop at l))

  pub at_last : (n j : ℕ) → j + 1 ≡ n → at + n ≤ length l → set (upto j) (at + j) 0 ≡ closed l at n
  unfolding closed
  at_last n j e h =
      let f : n - 1 ≡ j = omega arith in
      let g : at + n ≡ at + j + 1 = omega arith in
      stored j 0 (omega arith) ∙ rw (f, g) (simp append_assoc)
