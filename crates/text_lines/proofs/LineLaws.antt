-- Laws of lines: what one byte more at the front of a text changes.
use Prim.Native.Nat.{ℕ, suc, min, ◌+◌, ◌≤◌, ◌<◌}
use mathlib.Core.Bool.{Bool, true, false, cond, not}
use mathlib.Core.List.{List, [], ◌∷◌, ◌++◌}
use mathlib.Core.Path.{◌≡◌, refl, sym, ap, ◌∙◌}
use native.Mathlib.Omega.{arith}
use lib.Dec.{eqb, ltb}
use lib.ListN.{length, take, drop, get_or, drop_of_length-le}
use lib.Seq.{drop-cons}
use native.Mathlib.Numerals.{add-one}
use borrow.Author.Tests.{eq-eqb, ne_eqb, eqb-true, eqb-false, ltb-true, ltb-false}
use Rattle.std.specs.Prelude.{Some, None}
use Rattle.std.specs.List.{position, position_or_len}
use Rattle.base.proofs.TestLaws.{cond-elim, false-true}
use Rattle.text_lines.specs.Lines.{before, lines_of, line_length, equal, starts_with, difference_from, first_difference, NoDifference}
use Rattle.text.specs.Fields.{newline}

pub equal-refl : (s : List ℕ) → equal s s ≡ true
unfolding equal
equal-refl [] = refl
equal-refl (a ∷ s) = rw (eq-eqb a a refl) (equal-refl s)

pub equal-eq : (s t : List ℕ) → equal s t ≡ true → s ≡ t
unfolding equal
equal-eq [] [] h = refl
equal-eq [] (b ∷ t) h = false-true h
equal-eq (a ∷ s) [] h = false-true h
equal-eq (a ∷ s) (b ∷ t) h = go (eqb a b) refl h (equal-eq s t)
  where
    go : (x : Bool) → eqb a b ≡ x → cond x (equal s t) false ≡ true → (equal s t ≡ true → s ≡ t) → a ∷ s ≡ b ∷ t
    go true e k f = let p = eqb-true a b e in let q = f k in cc
    go false e k f = false-true k

-- no line is empty
abbrev Filled : List (List ℕ) → Type 0
Filled [] = Unit {0}
Filled ([] ∷ ls) = ⊥
Filled ((b ∷ l) ∷ ls) = Unit {0}

filled-before : (b : ℕ) (ls : List (List ℕ)) → Filled (before b ls)
filled-before b [] = tt
filled-before b (l ∷ ls) = tt

filled : (s : List ℕ) → Filled (lines_of s)
unfolding lines_of
filled [] = tt
filled (b ∷ s) = cond-elim Filled (eqb b newline) ((b ∷ []) ∷ lines_of s) (before b (lines_of s)) (λ e. tt) (λ e. filled-before b (lines_of s))

-- the same byte in front of both: a newline ends a line, and any other changes nothing
byte-before : (k x : ℕ) (ls ms : List (List ℕ)) → Filled ls → Filled ms → difference_from k (before x ls) (before x ms) ≡ difference_from k ls ms
unfolding difference_from equal
byte-before k x [] [] p q = rw (eq-eqb x x refl)
byte-before k x [] ([] ∷ ms) p q = absurd q
byte-before k x [] ((b ∷ l) ∷ ms) p q = rw (eq-eqb x x refl)
byte-before k x ([] ∷ ls) ms p q = absurd p
byte-before k x ((b ∷ l) ∷ ls) [] p q = rw (eq-eqb x x refl)
byte-before k x ((b ∷ l) ∷ ls) ([] ∷ ms) p q = absurd q
byte-before k x ((b ∷ l) ∷ ls) ((d ∷ m) ∷ ms) p q = rw (eq-eqb x x refl)

pub newline-both : (k : ℕ) (s t : List ℕ) → difference_from k (lines_of (newline ∷ s)) (lines_of (newline ∷ t)) ≡ difference_from (suc k) (lines_of s) (lines_of t)
unfolding lines_of difference_from equal
newline-both k s t = refl

pub byte-both : (k x : ℕ) (s t : List ℕ) → (x ≡ newline → ⊥) → difference_from k (lines_of (x ∷ s)) (lines_of (x ∷ t)) ≡ difference_from k (lines_of s) (lines_of t)
unfolding lines_of
byte-both k x s t h = rw (ne_eqb x newline h) (byte-before k x (lines_of s) (lines_of t) (filled s) (filled t))

-- two different bytes in front
apart : (k a b : ℕ) (l m : List ℕ) (ls ms : List (List ℕ)) → (a ≡ b → ⊥) → difference_from k ((a ∷ l) ∷ ls) ((b ∷ m) ∷ ms) ≡ k
unfolding difference_from equal
apart k a b l m ls ms h = rw (ne_eqb a b h)

-- the first byte of the first line is that of the text
abbrev Front : ℕ → List (List ℕ) → Type 0
Front b [] = ⊥
Front b ([] ∷ ls) = ⊥
Front b ((a ∷ l) ∷ ls) = a ≡ b

front-before : (b : ℕ) (ls : List (List ℕ)) → Front b (before b ls)
front-before b [] = refl
front-before b (l ∷ ls) = refl

front : (b : ℕ) (s : List ℕ) → Front b (lines_of (b ∷ s))
unfolding lines_of
front b s = cond-elim (Front b) (eqb b newline) ((b ∷ []) ∷ lines_of s) (before b (lines_of s)) (λ e. refl) (λ e. front-before b (lines_of s))

front-apart : (k a b : ℕ) (ls ms : List (List ℕ)) → Front a ls → Front b ms → (a ≡ b → ⊥) → difference_from k ls ms ≡ k
front-apart k a b [] ms p q h = absurd p
front-apart k a b ([] ∷ ls) ms p q h = absurd p
front-apart k a b ((x ∷ l) ∷ ls) [] p q h = absurd q
front-apart k a b ((x ∷ l) ∷ ls) ([] ∷ ms) p q h = absurd q
front-apart k a b ((x ∷ l) ∷ ls) ((y ∷ m) ∷ ms) p q h = apart k x y l m ls ms (λ e. h (sym p ∙ e ∙ q))

pub byte-apart : (k a b : ℕ) (s t : List ℕ) → (a ≡ b → ⊥) → difference_from k (lines_of (a ∷ s)) (lines_of (b ∷ t)) ≡ k
byte-apart k a b s t h = front-apart k a b (lines_of (a ∷ s)) (lines_of (b ∷ t)) (front a s) (front b t) h

-- one text goes on where the other ends
surplus : (k b : ℕ) (ls : List (List ℕ)) → Front b ls → difference_from k [] ls ≡ k
unfolding difference_from
surplus k b [] p = absurd p
surplus k b (l ∷ ls) p = refl

missing : (k b : ℕ) (ls : List (List ℕ)) → Front b ls → difference_from k ls [] ≡ k
unfolding difference_from
missing k b [] p = absurd p
missing k b (l ∷ ls) p = refl

pub end-first : (k b : ℕ) (t : List ℕ) → difference_from k (lines_of []) (lines_of (b ∷ t)) ≡ k
unfolding lines_of
end-first k b t = surplus k b (lines_of (b ∷ t)) (front b t)

pub end-second : (k a : ℕ) (s : List ℕ) → difference_from k (lines_of (a ∷ s)) (lines_of []) ≡ k
unfolding lines_of
end-second k a s = missing k a (lines_of (a ∷ s)) (front a s)

pub end-both : (k : ℕ) → difference_from k (lines_of []) (lines_of []) ≡ 0
unfolding lines_of difference_from
end-both k = refl

-- the same byte in front of both
pub next_both : (k x : ℕ) (s t : List ℕ) → difference_from k (lines_of (x ∷ s)) (lines_of (x ∷ t)) ≡ difference_from (cond (eqb x newline) (suc k) k) (lines_of s) (lines_of t)
next_both k x s t = go (eqb x newline) refl
  where
    go : (e : Bool) → eqb x newline ≡ e → difference_from k (lines_of (x ∷ s)) (lines_of (x ∷ t)) ≡ difference_from (cond e (suc k) k) (lines_of s) (lines_of t)
    go true e = rw (eqb-true x newline e) (newline-both k s t)
    go false e = byte-both k x s t (eqb-false x newline e)

no-difference-from : (k : ℕ) (s : List ℕ) → difference_from k (lines_of s) (lines_of s) ≡ 0
no-difference-from k [] = end-both k
no-difference-from k (x ∷ s) = next_both k x s s ∙ no-difference-from (cond (eqb x newline) (suc k) k) s

above : (x k : ℕ) → 0 < k → 0 < cond (eqb x newline) (suc k) k
above x k h = cond-elim (λ (n : ℕ). 0 < n) (eqb x newline) (suc k) k (λ e. omega arith) (λ e. h)

difference-none : (k : ℕ) (s t : List ℕ) → 0 < k → difference_from k (lines_of s) (lines_of t) ≡ 0 → s ≡ t
difference-none k [] [] p h = refl
difference-none k [] (b ∷ t) p h = absurd (omega (arith, end-first k b t))
difference-none k (a ∷ s) [] p h = absurd (omega (arith, end-second k a s))
difference-none k (a ∷ s) (b ∷ t) p h = go (eqb a b) refl (λ g. difference-none (cond (eqb b newline) (suc k) k) s t (above b k p) g)
  where
    go : (e : Bool) → eqb a b ≡ e → (difference_from (cond (eqb b newline) (suc k) k) (lines_of s) (lines_of t) ≡ 0 → s ≡ t) → a ∷ s ≡ b ∷ t
    go true e f = let q = eqb-true a b e in let r = f (sym (next_both k b s t) ∙ rw q at h) in cc
    go false e f = absurd (omega (arith, byte-apart k a b s t (eqb-false a b e)))

pub no_difference : NoDifference
unfolding first_difference
no_difference a b = (difference-none 1 a b (omega arith), λ e. rw e (no-difference-from 1 b))

-- the byte at a place: how the difference goes on from it
abbrev pub differs : ℕ → List ℕ → List ℕ → ℕ → ℕ
differs k a b i = difference_from k (lines_of (drop i a)) (lines_of (drop i b))

module _ (k : ℕ) (a b : List ℕ) (i : ℕ) where
  pub goes_on : i < length a → i < length b → get_or a i 0 ≡ get_or b i 0 → differs k a b i ≡ differs (cond (eqb (get_or a i 0) newline) (suc k) k) a b (i + 1)
  goes_on h g e = rw (drop-cons a i 0 h, drop-cons b i 0 g, add-one, ← e) (next_both k (get_or a i 0) (drop (suc i) a) (drop (suc i) b))

  pub stops_at : i < length a → i < length b → (get_or a i 0 ≡ get_or b i 0 → ⊥) → differs k a b i ≡ k
  stops_at h g e = rw (drop-cons a i 0 h, drop-cons b i 0 g) (byte-apart k (get_or a i 0) (get_or b i 0) (drop (suc i) a) (drop (suc i) b) e)

  is-missing : i < length a → length b ≤ i → differs k a b i ≡ k
  is-missing h g = rw (drop-cons a i 0 h, drop_of_length-le b g) (end-second k (get_or a i 0) (drop (suc i) a))

  is-surplus : length a ≤ i → i < length b → differs k a b i ≡ k
  is-surplus g h = rw (drop_of_length-le a g, drop-cons b i 0 h) (end-first k (get_or b i 0) (drop (suc i) b))

  -- the shorter text ends
  pub is-longer : i ≡ min (length a) (length b) → (length a ≡ length b → ⊥) → differs k a b i ≡ k
  is-longer e n = go (ltb i (length a)) refl
    where
      go : (x : Bool) → ltb i (length a) ≡ x → differs k a b i ≡ k
      go true h = let l = ltb-true _ _ h in is-missing (omega arith) (omega arith)
      go false h = let l = ltb-false _ _ h in is-surplus (omega arith) (omega arith)

  pub is_same : length a ≤ i → length b ≤ i → differs k a b i ≡ 0
  is_same g h = rw (drop_of_length-le a g, drop_of_length-le b h) (end-both k)

-- the first newline ends the line, and without one the text does
abbrev pub is_newline : ℕ → Bool
is_newline b = eqb b newline

line-position : (s : List ℕ) → line_length s ≡ min (position_or_len is_newline s + 1) (length s)
unfolding line_length
line-position [] = omega arith
line-position (b ∷ s) = go (eqb b newline) (line-position s)
  where
    go : (x : Bool) → line_length s ≡ min (position_or_len is_newline s + 1) (length s)
        → cond x 1 (suc (line_length s)) ≡ min (cond (not x) (1 + position_or_len is_newline s) 0 + 1) (suc (length s))
    go true e = omega arith
    go false e = omega arith

module _ (s : List ℕ) where
  pub line-at : (i : ℕ) → position is_newline s ≡ Some i → line_length s ≡ i + 1
  line-at i = go (ltb (position_or_len is_newline s) (length s)) refl
    where
      go : (x : Bool) → ltb (position_or_len is_newline s) (length s) ≡ x → cond x (Some (position_or_len is_newline s)) None ≡ Some i → line_length s ≡ i + 1
      go true e h = let q : position_or_len is_newline s ≡ i = cc in omega (arith, ltb-true _ _ e, line-position s)
      go false e h = cc

  pub line-rest : position is_newline s ≡ None → line_length s ≡ length s
  line-rest = go (ltb (position_or_len is_newline s) (length s)) refl
    where
      go : (x : Bool) → ltb (position_or_len is_newline s) (length s) ≡ x → cond x (Some (position_or_len is_newline s)) None ≡ None → line_length s ≡ length s
      go true e h = cc
      go false e h = omega (arith, ltb-false _ _ e, line-position s)

-- a word at the start, told by a test that is true exactly there
pub starts-as : (w s : List ℕ) (b : Bool) → (b ≡ true → take (length w) s ≡ w) → (take (length w) s ≡ w → b ≡ true) → b ≡ starts_with w s
unfolding starts_with
starts-as w s true f g = sym (rw (f refl) (equal-refl w))
starts-as w s false f g = go (equal (take (length w) s) w) refl
  where
    go : (b : Bool) → equal (take (length w) s) w ≡ b → false ≡ b
    go true e = false-true (g (equal-eq (take (length w) s) w e))
    go false e = refl

-- the first line of a text and the lines after it
pub line-some : (s : List ℕ) → 0 < length s → 0 < line_length s
unfolding line_length
line-some [] h = absurd (omega arith)
line-some (b ∷ s) h = cond-elim (λ (n : ℕ). 0 < n) (eqb b newline) 1 (suc (line_length s)) (λ e. omega arith) (λ e. omega arith)

pub line-within : (s : List ℕ) → line_length s ≤ length s
unfolding line_length
line-within [] = omega arith
line-within (b ∷ s) =
    cond-elim (λ (n : ℕ). n ≤ suc (length s)) (eqb b newline) 1 (suc (line_length s)) (λ e. omega arith) (λ e. omega (arith, line-within s))

lines_after : (b : ℕ) (s : List ℕ) → (0 < length s → lines_of s ≡ take (line_length s) s ∷ lines_of (drop (line_length s) s))
    → before b (lines_of s) ≡ (b ∷ take (line_length s) s) ∷ lines_of (drop (line_length s) s)
unfolding lines_of line_length
lines_after b [] h = refl
lines_after b (a ∷ s) h = ap (before b) (h (omega arith))

pub lines-first : (s : List ℕ) → 0 < length s → lines_of s ≡ take (line_length s) s ∷ lines_of (drop (line_length s) s)
unfolding lines_of line_length
lines-first [] h = absurd (omega arith)
lines-first (b ∷ s) h = go (eqb b newline) refl (lines_after b s (lines-first s))
  where
    go : (x : Bool) → eqb b newline ≡ x → before b (lines_of s) ≡ (b ∷ take (line_length s) s) ∷ lines_of (drop (line_length s) s)
        → lines_of (b ∷ s) ≡ take (line_length (b ∷ s)) (b ∷ s) ∷ lines_of (drop (line_length (b ∷ s)) (b ∷ s))
    go true e f = rw e
    go false e f = rw e f

-- lines one after another are the text
unfoldable pub joined_lines : List (List ℕ) → List ℕ
joined_lines [] = []
joined_lines (l ∷ ls) = l ++ joined_lines ls

pub lines-joined : (s : List ℕ) → joined_lines (lines_of s) ≡ s
unfolding joined_lines lines_of
lines-joined [] = refl
lines-joined (b ∷ s) = go (eqb b newline) (lines-joined s)
  where
    again : (ls : List (List ℕ)) → joined_lines (before b ls) ≡ b ∷ joined_lines ls
    again [] = refl
    again (l ∷ ls) = refl

    go : (x : Bool) → joined_lines (lines_of s) ≡ s → joined_lines (cond x ((b ∷ []) ∷ lines_of s) (before b (lines_of s))) ≡ b ∷ s
    go true e = ap (λ (t : List ℕ). b ∷ t) e
    go false e = again (lines_of s) ∙ ap (λ (t : List ℕ). b ∷ t) e

-- a line that ends in its only newline is the first line of a text that starts with it
abbrev pub Ended : List ℕ → Type 0
Ended [] = ⊥
Ended (b ∷ []) = b ≡ newline
Ended (b ∷ c ∷ s) = (b ≡ newline → ⊥) × Ended (c ∷ s)

pub line-ended : (l s : List ℕ) → Ended l → lines_of (l ++ s) ≡ l ∷ lines_of s
unfolding lines_of
line-ended [] s p = absurd p
line-ended (b ∷ []) s p = rw (eq-eqb b newline p)
line-ended (b ∷ c ∷ l) s p = rw (ne_eqb b newline p.0) (ap (before b) (line-ended (c ∷ l) s p.1))

-- no byte of a part of a line is a newline
abbrev pub Inside : List ℕ → Type 0
Inside [] = Unit {0}
Inside (b ∷ s) = (b ≡ newline → ⊥) × Inside s

pub inside-ended : (u l : List ℕ) → Inside u → Ended l → Ended (u ++ l)
inside-ended [] l p q = q
inside-ended (b ∷ []) [] p q = absurd q
inside-ended (b ∷ []) (c ∷ l) p q = (p.0, q)
inside-ended (b ∷ c ∷ u) l p q = (p.0, inside-ended (c ∷ u) l p.1 q)

pub inside-append : (u v : List ℕ) → Inside u → Inside v → Inside (u ++ v)
inside-append [] v p q = q
inside-append (b ∷ u) v p q = (p.0, inside-append u v p.1 q)
