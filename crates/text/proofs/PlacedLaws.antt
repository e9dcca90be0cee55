-- Bytes put one after another.
use Prim.Native.Nat.{ℕ, ◌+◌, ◌≤◌, ◌<◌}
use mathlib.Core.Path.{◌≡◌, refl, ap, sym, ◌∙◌}
use mathlib.Core.List.{List, [], ◌∷◌, ◌++◌, append_assoc}
use native.Mathlib.Omega.{arith}
use native.Mathlib.Numerals.{add-one}
use lib.ListN.{length, take, drop, get_or, set, length-append, length-drop, take-append-drop}
use lib.Seq.{set_split, take_at, take-suc, drop-append-add, drop-drop, length-take-le}
use Rattle.text.specs.Placed.{placed, Put}

-- a buffer keeps its length
pub length-placed : (o : List ℕ) (at : ℕ) (v : List ℕ) → at + length v ≤ length o → length (placed o at v) ≡ length o
unfolding placed
length-placed o at v h = simp (length-append, length-drop) (omega (arith, length-take-le at o (omega arith)))

-- nothing put
pub nothing : (o : List ℕ) (at : ℕ) → Put o at [] o at
unfolding placed
nothing o at =
    let z : at + 0 ≡ at = omega arith in
    record { next = sym z; holds = rw z (sym (take-append-drop at o)) }

-- one byte put
pub byte : (o : List ℕ) (at b : ℕ) → at < length o → Put o at (b ∷ []) (set o at b) (at + 1)
unfolding placed
byte o at b h = record { next = refl; holds = rw add-one (set_split o at b h) }

-- one text after another is both
pub then : {o v o₁ w o₂ : List ℕ} {at r₁ r₂ : ℕ} → at + length v ≤ length o → Put o at v o₁ r₁ → Put o₁ r₁ w o₂ r₂ → Put o at (v ++ w) o₂ r₂
unfolding placed
then {o} {v} {o₁} {w} {o₂} {at} {r₁} {r₂} h a b =
    let l : length (take at o ++ v) ≡ r₁ = simp length-append (omega (arith, length-take-le at o (omega arith), a.next)) in
    let z : at + length v ≡ r₁ = sym a.next in
    let e : o₁ ≡ (take at o ++ v) ++ drop r₁ o = a.holds ∙ rw z (sym (append_assoc (take at o) v (drop r₁ o))) in
    let t : take r₁ o₁ ≡ take at o ++ v = rw e (take_at (take at o ++ v) (drop r₁ o) r₁ l) in
    let d : drop (r₁ + length w) o₁ ≡ drop (r₁ + length w) o =
    rw e
    (ap (λ (x : ℕ). drop (x + length w) ((take at o ++ v) ++ drop r₁ o)) (sym l)
    ∙ drop-append-add (take at o ++ v) (drop r₁ o) (length w)
    ∙ drop-drop (length w) r₁ o) in
    let s : r₁ + length w ≡ at + length (v ++ w) = simp length-append (omega (arith, a.next)) in
    record {
      next = b.next ∙ s;
      holds = b.holds ∙ rw (t, d, s) (simp append_assoc);
    }

pub after : {o v o₁ w o₂ : List ℕ} {at r₁ r₂ : ℕ} → r₁ ≤ length o → Put o at v o₁ r₁ → Put o₁ r₁ w o₂ r₂ → Put o at (v ++ w) o₂ r₂
after h a b = then (omega (arith, a.next)) a b

-- one byte more of a word
pub word_next : {o o₁ o₂ : List ℕ} {at here r : ℕ} (w : List ℕ) (i : ℕ) → at + length w ≤ length o → i < length w
    → Put o at (take i w) o₁ here → Put o₁ here (get_or w i 0 ∷ []) o₂ r → Put o at (take (i + 1) w) o₂ r
word_next w i h l a b =
    rw (add-one, take-suc w i 0 l) (then (omega (arith, length-take-le i w (omega arith))) a b)

-- the offset after i bytes of a word
pub word-offset : {o o₁ : List ℕ} {at here : ℕ} (w : List ℕ) (i : ℕ) → i ≤ length w → Put o at (take i w) o₁ here → here ≡ at + i
word-offset w i h a = omega (arith, a.next, length-take-le i w h)

-- the length that is left by a function that puts bytes
pub length-put : {o v o' : List ℕ} {at r : ℕ} → at + length v ≤ length o → Put o at v o' r → length o' ≡ length o
length-put {o} {v} {o'} {at} h a = ap length a.holds ∙ length-placed o at v h

-- two texts: room for both is room for the first, and then for the second after it
module _ (o : List ℕ) (at : ℕ) (v w : List ℕ) (h : at + length (v ++ w) ≤ length o) where
  pub room-first : at + length v ≤ length o
  room-first = omega (arith, length-append v w)

  pub room-second : {o₁ : List ℕ} {r : ℕ} → Put o at v o₁ r → r + length w ≤ length o₁
  room-second a = omega (arith, length-append v w, a.next, length-put room-first a)

  pub both : {o₁ o₂ : List ℕ} {r₁ r₂ : ℕ} → Put o at v o₁ r₁ → Put o₁ r₁ w o₂ r₂ → Put o at (v ++ w) o₂ r₂
  both p q = then room-first p q

-- four texts
module _ (o : List ℕ) (at : ℕ) (a b c d : List ℕ) (h : at + length (a ++ b ++ c ++ d) ≤ length o) where
  three : at + length (a ++ b ++ c) ≤ length o
  three = room-first o at (a ++ b ++ c) d h

  two : at + length (a ++ b) ≤ length o
  two = room-first o at (a ++ b) c three

  pub room-a : at + length a ≤ length o
  room-a = room-first o at a b two

  module _ {o₁ : List ℕ} {r₁ : ℕ} (p : Put o at a o₁ r₁) where
    pub room-b : r₁ + length b ≤ length o₁
    room-b = room-second o at a b two p

    module _ {o₂ : List ℕ} {r₂ : ℕ} (q : Put o₁ r₁ b o₂ r₂) where
      put_two : Put o at (a ++ b) o₂ r₂
      put_two = both o at a b two p q

      pub room-c : r₂ + length c ≤ length o₂
      room-c = room-second o at (a ++ b) c three put_two

      module _ {o₃ : List ℕ} {r₃ : ℕ} (s : Put o₂ r₂ c o₃ r₃) where
        put_three : Put o at (a ++ b ++ c) o₃ r₃
        put_three = both o at (a ++ b) c three put_two s

        pub room-d : r₃ + length d ≤ length o₃
        room-d = room-second o at (a ++ b ++ c) d h put_three

        pub all-four : {o₄ : List ℕ} {r₄ : ℕ} → Put o₃ r₃ d o₄ r₄ → Put o at (a ++ b ++ c ++ d) o₄ r₄
        all-four t = both o at (a ++ b ++ c) d h put_three t
