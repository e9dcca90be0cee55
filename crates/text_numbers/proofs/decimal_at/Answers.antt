-- `text_numbers::decimal_at` meets its contract: the bytes passed are the digits of a number that is right so far.
use Prim.Native.Nat.{ℕ, ◌+◌, ◌*◌, ◌-◌, ◌≤◌, ◌<◌}
use mathlib.Core.Bool.{Bool, true, false}
use mathlib.Core.List.{List}
use Rattle.std.specs.Prelude.{Some, None}
use mathlib.Core.Path.{◌≡◌, refl, sym, ap, ◌∙◌, subst}
use native.Mathlib.Omega.{arith}
use lib.ListN.{length, get_or, drop, length-drop}
use lib.Seq.{get_or-drop}
use borrow.Author.Tests.{leb-true, leb-false}
use lib.Dec.{leb}
use Rattle.text_numbers.specs.Numbers.{decimal_at, digit}
use Rattle.text_numbers.proofs.NumberLaws.{digit-range, found, not_found, Scanned, scan-none, scan-next, scan-no-digit, scan-other-end, scan-zero-leads, scan-too-large, scan-found, scan-over}
use Rattle.text_numbers.proofs.decimal_at.Goals as goal
use Rattle.text_numbers.proofs.decimal_at.Goals.{then-place-i+else-value-eq0, else-place-i}

-- the byte at i is the one at i - place from the place on
byte-from : (s : List ℕ) (place i : ℕ) → place ≤ i → get_or (drop place s) (i - place) 0 ≡ get_or s i 0
byte-from s place i h = let z : place + (i - place) ≡ i = omega arith in get_or-drop place s (i - place) 0 ∙ ap (λ (k : ℕ). get_or s k 0) z

within : (s : List ℕ) (place i : ℕ) → place ≤ i → i < length s → i - place < length (drop place s)
within s place i h g = rw (length-drop place s) (omega arith)

above : (i place : ℕ) → place ≤ i → (i ≡ place → ⊥) → 0 < i - place
above i place l n = go (leb i place) refl
  where
    go : (b : Bool) → leb i place ≡ b → 0 < i - place
    go true e = let g = leb-true i place e in absurd (n (omega arith))
    go false e = omega (arith, leb-false i place e)

pub loop-i-init : goal.loop-i-init
loop-i-init c = let p = c.args.place in let z : p - p ≡ 0 = omega arith in (omega arith, rw z (scan-none _ _))

module _ (s : List ℕ) (place most end value i : ℕ) (l : place ≤ i) (p : Scanned most (drop place s) (i - place) value) (h : i < length s) where
  none_here : digit (get_or s i 0) ≡ false → i ≡ place → None ≡ decimal_at most end s place
  none_here d z = not_found most end s place (scan-no-digit most end _ _ value p (within s place i l h) (rw (byte-from s place i l) d) (omega arith))

  other-here : digit (get_or s i 0) ≡ false → (get_or s i 0 ≡ end → ⊥) → None ≡ decimal_at most end s place
  other-here d n =
      not_found most end s place
      (scan-other-end most end _ _ value p (within s place i l h) (rw (byte-from s place i l) d) (λ e. n (sym (byte-from s place i l) ∙ e)))

  value-here : digit (get_or s i 0) ≡ false → (i ≡ place → ⊥) → get_or s i 0 ≡ end → Some (value, i + 1) ≡ decimal_at most end s place
  value-here d n e =
      let f = scan-found most end _ _ value p (within s place i l h) (rw (byte-from s place i l) d) (above i place l n) (byte-from s place i l ∙ e) in
      found most end s place value (i + 1) f.0 f.1.0 (omega (arith, f.1.1))

  zero-here : digit (get_or s i 0) ≡ true → place < i → value ≡ 0 → None ≡ decimal_at most end s place
  zero-here d g z = not_found most end s place (scan-zero-leads most end _ _ value p (within s place i l h) (rw (byte-from s place i l) d) (omega arith) z)

  large-here : digit (get_or s i 0) ≡ true → most < value * 10 + (get_or s i 0 - 48) → None ≡ decimal_at most end s place
  large-here d m =
      not_found most end s place
      (scan-too-large most end _ _ value p (within s place i l h) (rw (byte-from s place i l) d) (rw (byte-from s place i l) m))

  next_here : digit (get_or s i 0) ≡ true → (place < i → value ≡ 0 → ⊥) → value * 10 + (get_or s i 0 - 48) ≤ most
      → Scanned most (drop place s) (i + 1 - place) (value * 10 + (get_or s i 0 - 48))
  next_here d n m =
      let z : i + 1 - place ≡ i - place + 1 = omega arith in
      rw z
      (rw (byte-from s place i l) at
      (scan-next most end _ _ value p (within s place i l h) (rw (byte-from s place i l) d) (λ g. n (omega arith)) (rw (byte-from s place i l) m)))

pub returns-then-i-place : goal.returns-then-i-place
returns-then-i-place c =
    let a = c.args in
    let w = c.loop-i in
    let h = c.loop-i-test.true in
    let d = c.is_digit in
    none_here a.text.now a.place a.most a.end w.value w.i w.invariant.0 w.invariant.1 h (sym d.ensures ∙ c.if-not-is_digit.true) c.if-i-place.true

pub returns-then-b-end : goal.returns-then-b-end
returns-then-b-end c =
    let a = c.args in
    let w = c.loop-i in
    let h = c.loop-i-test.true in
    let d = c.is_digit in
    other-here a.text.now a.place a.most a.end w.value w.i w.invariant.0 w.invariant.1 h (sym d.ensures ∙ c.if-not-is_digit.true) c.if-b-end.true

pub returns-then-not-is_digit : goal.returns-then-not-is_digit
returns-then-not-is_digit c =
    let a = c.args in
    let w = c.loop-i in
    let h = c.loop-i-test.true in
    let d = c.is_digit in
    value-here a.text.now a.place a.most a.end w.value w.i w.invariant.0 w.invariant.1 h (sym d.ensures ∙ c.if-not-is_digit.true) c.if-i-place.false c.if-b-end.false

pub returns-then-value-eq0 : goal.returns-then-value-eq0
returns-then-value-eq0 c =
    let a = c.args in
    let w = c.loop-i in
    let h = c.loop-i-test.true in
    let d = c.is_digit in
    zero-here a.text.now a.place a.most a.end w.value w.i w.invariant.0 w.invariant.1 h (sym d.ensures ∙ c.if-not-is_digit.false) c.if-place-i.true c.if-value-eq0.true

pub overflow_sub-b : goal.overflow_sub-b
overflow_sub-b c =
    let a = c.args in
    let w = c.loop-i in
    let h = c.loop-i-test.true in
    let d = c.is_digit in
    let r = digit-range (get_or a.text.now w.i 0) (sym d.ensures ∙ c.if-not-is_digit.false) in
    omega arith

pub returns-then-most-d : goal.returns-then-most-d
returns-then-most-d c =
    let a = c.args in
    let w = c.loop-i in
    let h = c.loop-i-test.true in
    let d = c.is_digit in
    let r = digit-range (get_or a.text.now w.i 0) (sym d.ensures ∙ c.if-not-is_digit.false) in
    large-here a.text.now a.place a.most a.end w.value w.i w.invariant.0 w.invariant.1 h (sym d.ensures ∙ c.if-not-is_digit.false) (omega (arith, c.from-d.ensures, c.if-most-d.true))

pub returns-then-most-d-2 : goal.returns-then-most-d-2
returns-then-most-d-2 c =
    let a = c.args in
    let w = c.loop-i in
    let h = c.loop-i-test.true in
    let d = c.is_digit in
    let r = digit-range (get_or a.text.now w.i 0) (sym d.ensures ∙ c.if-not-is_digit.false) in
    large-here a.text.now a.place a.most a.end w.value w.i w.invariant.0 w.invariant.1 h (sym d.ensures ∙ c.if-not-is_digit.false) (omega (arith, c.from-d.ensures, c.if-most-d-2.true))

pub overflow_mul-value : goal.overflow_mul-value
overflow_mul-value c =
    let a = c.args in
    let w = c.loop-i in
    let h = c.loop-i-test.true in
    let d = c.is_digit in
    let r = digit-range (get_or a.text.now w.i 0) (sym d.ensures ∙ c.if-not-is_digit.false) in
    omega (arith, c.from-d.ensures, c.if-most-d-2.false, c.ranges.most.fits)

pub overflow_add-value : goal.overflow_add-value
overflow_add-value c =
    let a = c.args in
    let w = c.loop-i in
    let h = c.loop-i-test.true in
    let d = c.is_digit in
    let r = digit-range (get_or a.text.now w.i 0) (sym d.ensures ∙ c.if-not-is_digit.false) in
    omega (arith, c.from-d.ensures, c.if-most-d-2.false, c.if-most-d.false, c.ranges.most.fits)

pub loop-i-preserved : goal.loop-i-preserved
loop-i-preserved c =
    let a = c.args in
    let w = c.loop-i in
    let h = c.loop-i-test.true in
    let d = c.is_digit in
    let r = digit-range (get_or a.text.now w.i 0) (sym d.ensures ∙ c.if-not-is_digit.false) in (
      omega arith,
      subst (λ (v : ℕ). Scanned a.most (drop a.place a.text.now) (w.i + 1 - a.place) (w.value * 10 + v)) (sym c.from-d.ensures)
          (next_here a.text.now a.place a.most a.end w.value w.i w.invariant.0 w.invariant.1 h (sym d.ensures ∙ c.if-not-is_digit.false)
          (λ g z. elim c.if-place-i.branch [ then-place-i+else-value-eq0 q ↦ q.if-value-eq0.false z | else-place-i q ↦ let l = q.if-place-i.false in omega arith ])
          (omega (arith, c.from-d.ensures, c.if-most-d-2.false, c.if-most-d.false))),
    )

pub returns : goal.returns
returns c =
    let a = c.args in
    let w = c.loop-i in
    not_found a.most a.end a.text.now a.place
    (scan-over a.most a.end _ _ w.value w.invariant.1 (rw (length-drop a.place a.text.now) (omega arith)) c.requires)
