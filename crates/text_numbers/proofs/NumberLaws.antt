-- Laws of the numbers in a line: how their digits are found one by one, and that a text is read exactly where it is the text of its numbers.
use Prim.Native.Nat.{ℕ, zero, suc, ◌+◌, ◌*◌, ◌-◌, ◌/◌, ◌%◌, ◌≤◌, ◌<◌}
use mathlib.Core.Bool.{Bool, true, false, cond}
use mathlib.Core.List.{List, [], ◌∷◌, ◌++◌, append_assoc, append-nil}
use Rattle.std.specs.Prelude.{Option, Some, None}
use mathlib.Core.Path.{◌≡◌, refl, sym, ap, ap₂, ◌∙◌, subst}
use native.Mathlib.Omega.{arith}
use native.Mathlib.Numerals.{add-one}
use lib.Dec.{leb, eqb}
use lib.ListN.{length, take, drop, get_or, length-append, length-drop, drop_of_length-le, take-append-drop, get_or-append, get_or-eq_default, replicate, set, length-set}
use lib.Seq.{drop-cons, take-suc, take-add, take_at, drop_at, get_or_at, length-take-le, split_at, append_snoc, get_or-take, drop-drop, take-suc-set, drop-set-lt}
use borrow.Author.Tests.{le-leb, lt-leb, leb-true, leb-false, eq-eqb, ne_eqb, eqb-true, eqb-false}
use Rattle.base.specs.Tests.{all}
use Rattle.base.proofs.TestLaws.{all_true, true-all, all-false, cond-elim, all_one}
use Rattle.text.specs.Decimal.{decimal, read_from}
use Rattle.text.proofs.DecimalLaws.{small, large, read_more, reads-back, no-leading-zero, every}
use Rattle.text_numbers.specs.Numbers.{digit, digit_count, leading_value, starts_with_number, decimal_at, end_byte, numbers_found, end_of, numbers_text, are_numbers, numbers_of, Within, Below, TextIsRead, OnlyTextIsRead}

pub digit-range : (b : ℕ) → digit b ≡ true → (48 ≤ b) × (b ≤ 57)
digit-range b e = let t = all_true (leb 48 b ∷ leb b 57 ∷ []) e in (leb-true 48 b t.0, leb-true b 57 t.1.0)

pub range-digit : (b : ℕ) → 48 ≤ b → b ≤ 57 → digit b ≡ true
range-digit b h g = true-all (leb 48 b ∷ leb b 57 ∷ []) (le-leb 48 b h, (le-leb b 57 g, tt))

-- the digits, one by one
module _ (s : List ℕ) (j : ℕ) where
  pub digit-next : j < length s → digit (get_or s j 0) ≡ true → digit_count s ≡ j + digit_count (drop j s) → digit_count s ≡ j + 1 + digit_count (drop (j + 1) s)
  unfolding digit_count
  digit-next h d e = e ∙ rw (drop-cons s j 0 h, d, add-one) (omega arith)

  pub digit-last : j < length s → digit (get_or s j 0) ≡ false → digit_count s ≡ j + digit_count (drop j s) → digit_count s ≡ j
  unfolding digit_count
  digit-last h d e = e ∙ rw (drop-cons s j 0 h, d) (omega arith)

  pub digits-over : length s ≤ j → digit_count s ≡ j + digit_count (drop j s) → digit_count s ≡ j
  unfolding digit_count
  digits-over h e = e ∙ rw (drop_of_length-le s h) (omega arith)

  pub value-next : j < length s → read_from 0 (take (j + 1) s) ≡ read_from 0 (take j s) * 10 + (get_or s j 0 - 48)
  value-next h = rw (add-one, take-suc s j 0 h) (read_more 0 (take j s) (get_or s j 0))

-- more digits, no smaller number
read-grows : (a : ℕ) (ds : List ℕ) → a ≤ read_from a ds
unfolding read_from
read-grows a [] = omega arith
read-grows a (d ∷ ds) = omega (arith, read-grows (a * 10 + (d - 48)) ds)

read-append : (a : ℕ) (xs ys : List ℕ) → read_from a (xs ++ ys) ≡ read_from (read_from a xs) ys
unfolding read_from
read-append a [] ys = refl
read-append a (x ∷ xs) ys = read-append (a * 10 + (x - 48)) xs ys

pub value-prefix : (s : List ℕ) (j k : ℕ) → j ≤ k → read_from 0 (take j s) ≤ read_from 0 (take k s)
value-prefix s j k h =
    let z : k ≡ j + (k - j) = omega arith in
    let e : read_from 0 (take k s) ≡ read_from (read_from 0 (take j s)) (take (k - j) (drop j s)) =
    ap (λ (n : ℕ). read_from 0 (take n s)) z ∙ ap (read_from 0) (take-add j (k - j) s) ∙ read-append 0 (take j s) (take (k - j) (drop j s)) in
    omega (arith, read-grows (read_from 0 (take j s)) (take (k - j) (drop j s)))

pub first-digit : (s : List ℕ) → 0 < length s → read_from 0 (take 1 s) ≡ get_or s 0 0 - 48
unfolding read_from
first-digit [] h = absurd (omega arith)
first-digit (b ∷ s) h = omega arith

-- what makes a number wrong, and when it is right
module _ (most end : ℕ) (s : List ℕ) where
  abbrev tests : List Bool
  tests =
      leb 1 (digit_count s)
      ∷ leb (digit_count s) (cond (eqb (get_or s 0 0) 48) 1 (digit_count s))
      ∷ leb (leading_value s) most
      ∷ eqb (get_or s (digit_count s) 0) end
      ∷ []

  pub no_digit : digit_count s ≡ 0 → starts_with_number most end s ≡ false
  unfolding starts_with_number
  no_digit e = all-false tests 0 (lt-leb 1 (digit_count s) (omega arith))

  pub zero-leads : get_or s 0 0 ≡ 48 → 1 < digit_count s → starts_with_number most end s ≡ false
  unfolding starts_with_number
  zero-leads e h = all-false tests 1 (rw (eq-eqb (get_or s 0 0) 48 e) (lt-leb (digit_count s) 1 h))

  pub too_large : most < leading_value s → starts_with_number most end s ≡ false
  unfolding starts_with_number
  too_large h = all-false tests 2 (lt-leb (leading_value s) most h)

  pub other-end : (get_or s (digit_count s) 0 ≡ end → ⊥) → starts_with_number most end s ≡ false
  unfolding starts_with_number
  other-end h = all-false tests 3 (ne_eqb (get_or s (digit_count s) 0) end h)

  alone : (1 < digit_count s → get_or s 0 0 ≡ 48 → ⊥) → digit_count s ≤ cond (eqb (get_or s 0 0) 48) 1 (digit_count s)
  alone h = cond-elim (λ (n : ℕ). digit_count s ≤ n) (eqb (get_or s 0 0) 48) 1 (digit_count s)
      (λ e. go (leb (digit_count s) 1) refl (eqb-true (get_or s 0 0) 48 e)) (λ e. omega arith)
    where
      go : (b : Bool) → leb (digit_count s) 1 ≡ b → get_or s 0 0 ≡ 48 → digit_count s ≤ 1
      go true e z = leb-true (digit_count s) 1 e
      go false e z = absurd (h (leb-false (digit_count s) 1 e) z)

  pub number_is : 1 ≤ digit_count s → (1 < digit_count s → get_or s 0 0 ≡ 48 → ⊥) → leading_value s ≤ most → get_or s (digit_count s) 0 ≡ end → starts_with_number most end s ≡ true
  unfolding starts_with_number
  number_is a b c d =
      true-all tests
      (le-leb 1 (digit_count s) a, (le-leb (digit_count s) _ (alone b), (le-leb (leading_value s) most c, (eq-eqb (get_or s (digit_count s) 0) end d, tt))))

  pub record Right : Type 0 where
    pub some : 1 ≤ digit_count s
    pub zero-alone : get_or s 0 0 ≡ 48 → digit_count s ≤ 1
    pub small : leading_value s ≤ most
    pub ended : get_or s (digit_count s) 0 ≡ end

  pub right : starts_with_number most end s ≡ true → Right
  unfolding starts_with_number
  right e =
      let t = all_true tests e in
      record {
        some = leb-true 1 (digit_count s) t.0;
        zero-alone = λ z. rw (eq-eqb (get_or s 0 0) 48 z) at (leb-true (digit_count s) _ t.1.0);
        small = leb-true (leading_value s) most t.1.1.0;
        ended = eqb-true (get_or s (digit_count s) 0) end t.1.1.1.0;
      }

-- the answer at a place
pub found : (most end : ℕ) (s : List ℕ) (at v next : ℕ) → starts_with_number most end (drop at s) ≡ true → v ≡ leading_value (drop at s) → next ≡ at + digit_count (drop at s) + 1
    → Some (v, next) ≡ decimal_at most end s at
unfolding decimal_at
found most end s at v next e p q = rw (e, p, q)

pub not_found : (most end : ℕ) (s : List ℕ) (at : ℕ) → starts_with_number most end (drop at s) ≡ false → None ≡ decimal_at most end s at
unfolding decimal_at
not_found most end s at e = rw e

-- a text that starts with a digit
first-is-digit : (s : List ℕ) → 0 < digit_count s → digit (get_or s 0 0) ≡ true
unfolding digit_count
first-is-digit [] q = absurd (omega arith)
first-is-digit (b ∷ t) q = go (digit b) refl q
  where
    go : (x : Bool) → digit b ≡ x → 0 < cond x (suc (digit_count t)) 0 → digit b ≡ true
    go true e r = e
    go false e r = absurd (omega arith)

-- the first j bytes of a text are digits of a number that is right so far
pub record Scanned (most : ℕ) (s : List ℕ) (j value : ℕ) : Type 0 where
  pub digits : digit_count s ≡ j + digit_count (drop j s)
  pub is : value ≡ read_from 0 (take j s)
  pub small : value ≤ most
  pub leads : 1 < j → get_or s 0 0 ≡ 48 → ⊥

pub scan-none : (most : ℕ) (s : List ℕ) → Scanned most s 0 0
unfolding read_from
scan-none most s = record { digits = omega arith; is = refl; small = omega arith; leads = λ h e. omega arith }

module _ (most end : ℕ) (s : List ℕ) (j value : ℕ) (p : Scanned most s j value) where
  -- where j bytes are all digits, the first of them is one
  one_value : j ≡ 1 → 0 < length s → get_or s 0 0 ≡ 48 → value ≡ 0
  one_value e h z = p.is ∙ rw e (first-digit s h ∙ omega arith)

  module _ (h : j < length s) where
    pub scan-next : digit (get_or s j 0) ≡ true → (0 < j → value ≡ 0 → ⊥) → value * 10 + (get_or s j 0 - 48) ≤ most
        → Scanned most s (j + 1) (value * 10 + (get_or s j 0 - 48))
    scan-next d n m =
        record {
          digits = digit-next s j h d p.digits;
          is = ap (λ (x : ℕ). x * 10 + (get_or s j 0 - 48)) p.is ∙ sym (value-next s j h);
          small = m;
          leads = λ g z. go (leb j 1) refl g z;
        }
      where
        go : (b : Bool) → leb j 1 ≡ b → 1 < j + 1 → get_or s 0 0 ≡ 48 → ⊥
        go true e g z = let l = leb-true j 1 e in n (omega arith) (one_value (omega arith) (omega arith) z)
        go false e g z = p.leads (leb-false j 1 e) z

    pub scan-no-digit : digit (get_or s j 0) ≡ false → j ≡ 0 → starts_with_number most end s ≡ false
    scan-no-digit d z = no_digit most end s (digit-last s j h d p.digits ∙ z)

    pub scan-other-end : digit (get_or s j 0) ≡ false → (get_or s j 0 ≡ end → ⊥) → starts_with_number most end s ≡ false
    scan-other-end d n = other-end most end s (λ e. n (ap (λ (k : ℕ). get_or s k 0) (sym (digit-last s j h d p.digits)) ∙ e))

    pub scan-zero-leads : digit (get_or s j 0) ≡ true → 0 < j → value ≡ 0 → starts_with_number most end s ≡ false
    scan-zero-leads d g z =
        let l : 1 < digit_count s = omega (arith, digit-next s j h d p.digits) in
        let v : read_from 0 (take 1 s) ≤ read_from 0 (take j s) = value-prefix s 1 j (omega arith) in
        let f : get_or s 0 0 ≤ 48 = omega (arith, first-digit s (omega arith), p.is) in
        zero-leads most end s (omega (arith, digit-range (get_or s 0 0) (first-is-digit s (omega arith)))) l

    pub scan-too-large : digit (get_or s j 0) ≡ true → most < value * 10 + (get_or s j 0 - 48) → starts_with_number most end s ≡ false
    unfolding leading_value
    scan-too-large d m =
        too_large most end s
        (omega (arith, value-prefix s (j + 1) (digit_count s) (omega (arith, digit-next s j h d p.digits)), value-next s j h, p.is))

    pub scan-found : digit (get_or s j 0) ≡ false → 0 < j → get_or s j 0 ≡ end → (starts_with_number most end s ≡ true) × ((value ≡ leading_value s) × (digit_count s ≡ j))
    unfolding leading_value
    scan-found d g e =
        let k : digit_count s ≡ j = digit-last s j h d p.digits in
        let v : value ≡ read_from 0 (take (digit_count s) s) = p.is ∙ ap (λ (n : ℕ). read_from 0 (take n s)) (sym k) in (
          number_is most end s (omega arith) (rw k p.leads) (omega arith) (rw k e),
          (v, k),
        )

  pub scan-over : length s ≤ j → 0 < end → starts_with_number most end s ≡ false
  scan-over h z =
      let k : digit_count s ≡ j = digits-over s j h p.digits in
      let d : get_or s (digit_count s) 0 ≡ 0 = rw k (get_or-eq_default s 0 h) in
      other-end most end s (λ e. omega arith)

-- the digits of a number, and what follows them
decimal-digits : (n : ℕ) (t : List ℕ) → digit_count (decimal n ++ t) ≡ length (decimal n) + digit_count t
unfolding digit_count
decimal-digits =
    every (λ (n : ℕ) (ds : List ℕ). (t : List ℕ) → digit_count (ds ++ t) ≡ length ds + digit_count t)
    (λ n l t. rw (range-digit (48 + n) (omega arith) (omega arith)) (omega arith))
    (λ n l h t.
    ap digit_count (append_snoc (decimal (n / 10)) (48 + n % 10) t)
    ∙ h ((48 + n % 10) ∷ t)
    ∙ rw (range-digit (48 + n % 10) (omega arith) (omega arith)) (omega (arith, length-append (decimal (n / 10)) ((48 + n % 10) ∷ []))))

decimal-some : (n : ℕ) → 0 < length (decimal n)
decimal-some = every (λ (n : ℕ) (ds : List ℕ). 0 < length ds) (λ n l. omega arith) (λ n l h. rw length-append (omega arith))

zero-alone : (n : ℕ) → get_or (decimal n) 0 0 ≡ 48 → length (decimal n) ≤ 1
zero-alone zero e = omega (arith, ap length (small 0 (omega arith)))
zero-alone (suc n) e = absurd (omega (arith, no-leading-zero (suc n) (omega arith)))

module _ (n e : ℕ) (r : List ℕ) (d : digit e ≡ false) where
  abbrev after : List ℕ
  after = decimal n ++ (e ∷ r)

  count-is : digit_count after ≡ length (decimal n)
  unfolding digit_count
  count-is = decimal-digits n (e ∷ r) ∙ rw (digit_count, d) (omega arith)

  value-is : leading_value after ≡ n
  unfolding leading_value
  value-is = rw (count-is, take_at (decimal n) (e ∷ r) (length (decimal n)) refl) (reads-back n)

  rest-is : drop (suc (digit_count after)) after ≡ r
  rest-is =
      ap (λ (k : ℕ). drop (suc k) after) count-is
      ∙ rw (sym (append_snoc (decimal n) e r))
      (drop_at (decimal n ++ (e ∷ [])) r (suc (length (decimal n))) (rw length-append (omega arith)))

  number-text : (m : ℕ) → n ≤ m → starts_with_number m e after ≡ true
  number-text m h =
      number_is m e after (omega (arith, count-is, decimal-some n))
      (λ g z. omega (arith, zero-alone n (sym (get_or-append (decimal n) (e ∷ r) 0 0 (decimal-some n)) ∙ z), count-is))
      (rw value-is h)
      (rw (count-is, get_or_at (decimal n) e r 0 (length (decimal n)) refl))

no-digit-end : (ns : List ℕ) → digit (end_of ns) ≡ false
unfolding all
no-digit-end [] = refl
no-digit-end (n ∷ ns) = refl

same_end : (ms ns : List ℕ) → Within ms ns → end_of ns ≡ end_of ms
same_end [] [] w = refl
same_end [] (n ∷ ns) w = absurd w
same_end (m ∷ ms) [] w = absurd w
same_end (m ∷ ms) (n ∷ ns) w = refl

pub text-is-read : TextIsRead
unfolding numbers_text are_numbers numbers_of
text-is-read [] [] w = (refl, refl)
text-is-read [] (n ∷ ns) w = absurd w
text-is-read (m ∷ ms) [] w = absurd w
text-is-read (m ∷ ms) (n ∷ ns) w =
    let d = no-digit-end ns in
    let t = text-is-read ms ns w.1 in
    let q : drop (suc (digit_count (decimal n ++ (end_of ns ∷ numbers_text ns)))) (decimal n ++ (end_of ns ∷ numbers_text ns)) ≡ numbers_text ns = rest-is n (end_of ns) (numbers_text ns) d in (
      true-all
          (starts_with_number m (end_of ms) (decimal n ++ (end_of ns ∷ numbers_text ns))
          ∷ are_numbers ms (drop (suc (digit_count (decimal n ++ (end_of ns ∷ numbers_text ns)))) (decimal n ++ (end_of ns ∷ numbers_text ns)))
          ∷ []) (
            subst (λ (e : ℕ). starts_with_number m e (decimal n ++ (end_of ns ∷ numbers_text ns)) ≡ true) (same_end ms ns w.1) (number-text n (end_of ns) (numbers_text ns) d m w.0),
            (ap (are_numbers ms) q ∙ t.0, tt),
          ),
      ap₂ (λ (x : ℕ) (xs : List ℕ). x ∷ xs) (value-is n (end_of ns) (numbers_text ns) d) (ap (numbers_of ms) q ∙ t.1),
    )

-- digits that are read are the number's own, where no zero leads
abbrev Digits : List ℕ → Type 0
Digits [] = Unit {0}
Digits (d ∷ ds) = (digit d ≡ true) × Digits ds

digits-taken : (s : List ℕ) → Digits (take (digit_count s) s)
unfolding digit_count
digits-taken [] = tt
digits-taken (b ∷ s) = go (digit b) refl (digits-taken s)
  where
    go : (x : Bool) → digit b ≡ x → Digits (take (digit_count s) s) → Digits (take (cond x (suc (digit_count s)) 0) (b ∷ s))
    go true e h = (e, h)
    go false e h = tt

one_more : (a d : ℕ) → 0 < a → digit d ≡ true → decimal (a * 10 + (d - 48)) ≡ decimal a ++ (d ∷ [])
one_more a d h e =
    let r = digit-range d e in
    let n : ℕ = a * 10 + (d - 48) in
    let q : n / 10 ≡ a = omega arith in
    let m : 48 + n % 10 ≡ d = omega arith in
    large n (omega arith) ∙ rw (q, m)

read-decimal : (a : ℕ) (ds : List ℕ) → 0 < a → Digits ds → decimal (read_from a ds) ≡ decimal a ++ ds
unfolding read_from
read-decimal a [] h p = sym (append-nil (decimal a))
read-decimal a (d ∷ ds) h p =
    read-decimal (a * 10 + (d - 48)) ds (omega arith) p.1
    ∙ rw (one_more a d h p.0, append_assoc)

positive : (d : ℕ) → 48 ≤ d → (d ≡ 48 → ⊥) → 0 < d - 48
positive d h n = go (leb d 48) refl
  where
    go : (b : Bool) → leb d 48 ≡ b → 0 < d - 48
    go true e = let l = leb-true d 48 e in absurd (n (omega arith))
    go false e = omega (arith, leb-false d 48 e)

digits_decimal : (ds : List ℕ) → 1 ≤ length ds → (get_or ds 0 0 ≡ 48 → length ds ≤ 1) → Digits ds → decimal (read_from 0 ds) ≡ ds
unfolding read_from
digits_decimal [] h z p = absurd (omega arith)
digits_decimal (d ∷ ds) h z p = let q : 0 * 10 + (d - 48) ≡ d - 48 = omega arith in rw q (go ds (eqb d 48) refl z p.1)
  where
    r : (48 ≤ d) × (d ≤ 57)
    r = digit-range d p.0

    one : decimal (d - 48) ≡ d ∷ []
    one = let m : 48 + (d - 48) ≡ d = omega (arith, r) in small (d - 48) (omega (arith, r)) ∙ rw m

    go : (es : List ℕ) (x : Bool) → eqb d 48 ≡ x → (d ≡ 48 → length (d ∷ es) ≤ 1) → Digits es → decimal (read_from (d - 48) es) ≡ d ∷ es
    go [] x e g q = one
    go (b ∷ es) true e g q = absurd (omega (arith, g (eqb-true d 48 e)))
    go (b ∷ es) false e g q = read-decimal (d - 48) (b ∷ es) (positive d r.0 (eqb-false d 48 e)) q ∙ rw one

end-above : (ms : List ℕ) → 0 < end_of ms
end-above [] = omega arith
end-above (m ∷ ms) = omega arith

read-end : (ms s : List ℕ) → end_of (numbers_of ms s) ≡ end_of ms
unfolding numbers_of
read-end [] s = refl
read-end (m ∷ ms) s = refl

-- one number and what follows it
module _ (m e : ℕ) (s : List ℕ) (p : Right m e s) (z : 0 < e) where
  within : digit_count s < length s
  within = go (leb (length s) (digit_count s)) refl
    where
      go : (b : Bool) → leb (length s) (digit_count s) ≡ b → digit_count s < length s
      go true q = absurd (omega (arith, p.ended, get_or-eq_default s 0 (leb-true (length s) (digit_count s) q)))
      go false q = leb-false (length s) (digit_count s) q

  taken_is : decimal (leading_value s) ≡ take (digit_count s) s
  unfolding leading_value
  taken_is =
      let l : length (take (digit_count s) s) ≡ digit_count s = length-take-le (digit_count s) s (omega (arith, within)) in
      digits_decimal (take (digit_count s) s) (omega (arith, p.some))
      (λ q. omega (arith, p.zero-alone (sym (get_or-take (digit_count s) s 0 0 (omega (arith, p.some))) ∙ q)))
      (digits-taken s)

  number-only : s ≡ decimal (leading_value s) ++ (e ∷ drop (suc (digit_count s)) s)
  number-only = split_at s (digit_count s) 0 within ∙ rw (p.ended, taken_is)

pub only-text-is-read : OnlyTextIsRead
unfolding numbers_text are_numbers numbers_of
only-text-is-read [] [] h = (refl, tt)
only-text-is-read [] (b ∷ s) h = absurd (omega (arith, eqb-true (length (b ∷ s)) 0 h))
only-text-is-read (m ∷ ms) s h =
    let t = all_true (starts_with_number m (end_of ms) s ∷ are_numbers ms (drop (suc (digit_count s)) s) ∷ []) h in
    let p = right m (end_of ms) s t.0 in
    let w = only-text-is-read ms (drop (suc (digit_count s)) s) t.1.0 in (
      number-only m (end_of ms) s p (end-above ms)
          ∙ ap₂ (λ (e : ℕ) (r : List ℕ). decimal (leading_value s) ++ (e ∷ r)) (sym (read-end ms (drop (suc (digit_count s)) s))) w.0,
      (p.small, w.1),
    )

-- what an answer at a place says
value_found : (most end : ℕ) (s : List ℕ) (at v next : ℕ) → decimal_at most end s at ≡ Some (v, next)
    → (starts_with_number most end (drop at s) ≡ true) × ((v ≡ leading_value (drop at s)) × (next ≡ at + digit_count (drop at s) + 1))
unfolding decimal_at
value_found most end s at v next = go (starts_with_number most end (drop at s)) refl
  where
    go : (b : Bool) → starts_with_number most end (drop at s) ≡ b
        → cond {A = Option (ℕ × ℕ)} b (Some (leading_value (drop at s), at + digit_count (drop at s) + 1)) None ≡ Some (v, next)
        → (starts_with_number most end (drop at s) ≡ true) × ((v ≡ leading_value (drop at s)) × (next ≡ at + digit_count (drop at s) + 1))
    go true e h =
        let q : (leading_value (drop at s), at + digit_count (drop at s) + 1) ≡ (v, next) = cc in
        (e, (sym (ap (λ (p : ℕ × ℕ). p.0) q), sym (ap (λ (p : ℕ × ℕ). p.1) q)))
    go false e h = cc

none_found : (most end : ℕ) (s : List ℕ) (at : ℕ) → decimal_at most end s at ≡ None → starts_with_number most end (drop at s) ≡ false
unfolding decimal_at
none_found most end s at = go (starts_with_number most end (drop at s)) refl
  where
    go : (b : Bool) → starts_with_number most end (drop at s) ≡ b
        → cond {A = Option (ℕ × ℕ)} b (Some (leading_value (drop at s), at + digit_count (drop at s) + 1)) None ≡ None
        → starts_with_number most end (drop at s) ≡ false
    go true e h = cc
    go false e h = e

-- the byte after the number i
pub end_is : (ms : List ℕ) (i : ℕ) → i < length ms → end_byte (eqb (i + 1) (length ms)) ≡ end_of (drop (i + 1) ms)
end_is ms i h = go (drop (i + 1) ms) refl
  where
    go : (r : List ℕ) → drop (i + 1) ms ≡ r → end_byte (eqb (i + 1) (length ms)) ≡ end_of r
    go [] e = rw (eq-eqb (i + 1) (length ms) (omega (arith, ap length e, length-drop (i + 1) ms)))
    go (m ∷ r) e = rw (ne_eqb (i + 1) (length ms) (λ q. omega (arith, ap length e, length-drop (i + 1) ms)))

pub end-some : (last : Bool) → 0 < end_byte last
end-some true = omega arith
end-some false = omega arith

-- i numbers are found, and what is left of the text from a place on gives the rest
pub record Left (ms s text : List ℕ) (values : List ℕ) (at i : ℕ) : Type 0 where
  pub same : are_numbers ms s ≡ are_numbers (drop i ms) (drop at text)
  pub so_far : numbers_of ms s ≡ take i values ++ numbers_of (drop i ms) (drop at text)
  pub size : length values ≡ 8
  pub rest : drop i values ≡ replicate (8 - i) 0

pub left-all : (ms text : List ℕ) (at : ℕ) → Left ms (drop at text) text (replicate 8 0) at 0
left-all ms text at = record { same = refl; so_far = refl; size = refl; rest = refl }

module _ (ms s text values : List ℕ) (at i : ℕ) (p : Left ms s text values at i) (h : i < length ms) (l : length ms ≤ 8) where
  one_right : (n : Option (ℕ × ℕ)) → decimal_at (get_or ms i 0) (end_byte (eqb (i + 1) (length ms))) text at ≡ n → decimal_at (get_or ms i 0) (end_of (drop (i + 1) ms)) text at ≡ n
  one_right n e = ap (λ (b : ℕ). decimal_at (get_or ms i 0) b text at) (sym (end_is ms i h)) ∙ e

  drop-next : drop (suc (digit_count (drop at text))) (drop at text) ≡ drop (at + digit_count (drop at text) + 1) text
  drop-next =
      let z : at + suc (digit_count (drop at text)) ≡ at + digit_count (drop at text) + 1 = omega arith in
      drop-drop (suc (digit_count (drop at text))) at text ∙ ap (λ (k : ℕ). drop k text) z

  pub left-next : (v next : ℕ) → decimal_at (get_or ms i 0) (end_byte (eqb (i + 1) (length ms))) text at ≡ Some (v, next) → Left ms s text (set values i v) next (i + 1)
  unfolding are_numbers numbers_of all
  left-next v next e =
      let f = value_found (get_or ms i 0) (end_of (drop (i + 1) ms)) text at v next (one_right (Some (v, next)) e) in
      let r : i < length values = omega (arith, p.size) in
      let d : drop i ms ≡ get_or ms i 0 ∷ drop (i + 1) ms = rw add-one (drop-cons ms i 0 h) in
      let n : drop (suc (digit_count (drop at text))) (drop at text) ≡ drop next text = drop-next ∙ ap (λ (k : ℕ). drop k text) (sym f.1.1) in
      record {
        same = p.same ∙ ap (λ (xs : List ℕ). are_numbers xs (drop at text)) d ∙ rw (f.0, n) (all_one (are_numbers (drop (i + 1) ms) (drop next text)));
        so_far =
            p.so_far
            ∙ ap (λ (xs : List ℕ). take i values ++ numbers_of xs (drop at text)) d
            ∙ rw (n, ← f.1.0, add-one, take-suc-set values i v r) (sym (append_snoc (take i values) v (numbers_of (drop (suc i) ms) (drop next text))));
        size = length-set values i v ∙ p.size;
        rest = drop-set-lt (i + 1) values i v (omega arith) ∙ later;
      }
    where
      later : drop (i + 1) values ≡ replicate (8 - (i + 1)) 0
      later =
          let z : 8 - i ≡ suc (8 - (i + 1)) = omega arith in
          let t : get_or values i 0 ∷ drop (suc i) values ≡ 0 ∷ replicate (8 - (i + 1)) 0 =
          sym (drop-cons values i 0 (omega (arith, p.size))) ∙ p.rest ∙ ap (λ (k : ℕ). replicate k 0) z in
          let q : drop (suc i) values ≡ replicate (8 - (i + 1)) 0 = cc in
          let o : i + 1 ≡ suc i = omega arith in
          ap (λ (k : ℕ). drop k values) o ∙ q

  pub left-none : decimal_at (get_or ms i 0) (end_byte (eqb (i + 1) (length ms))) text at ≡ None → are_numbers ms s ≡ false
  unfolding are_numbers
  left-none e =
      let d : drop i ms ≡ get_or ms i 0 ∷ drop (i + 1) ms = rw add-one (drop-cons ms i 0 h) in
      p.same ∙ ap (λ (xs : List ℕ). are_numbers xs (drop at text)) d
      ∙ all-false
      (starts_with_number (get_or ms i 0) (end_of (drop (i + 1) ms)) (drop at text) ∷ are_numbers (drop (i + 1) ms) (drop (suc (digit_count (drop at text))) (drop at text)) ∷ [])
      0
      (none_found (get_or ms i 0) (end_of (drop (i + 1) ms)) text at (one_right None e))

-- all are found: the text ends there, or goes on
module _ (ms s text values : List ℕ) (at i : ℕ) (p : Left ms s text values at i) (h : length ms ≤ i) (l : i ≤ length ms) where
  ends : are_numbers ms s ≡ eqb (length (drop at text)) 0
  unfolding are_numbers
  ends = p.same ∙ ap (λ (xs : List ℕ). are_numbers xs (drop at text)) (drop_of_length-le ms h)

  pub left_over : at < length text → are_numbers ms s ≡ false
  left_over g = ends ∙ ne_eqb (length (drop at text)) 0 (λ z. omega (arith, length-drop at text))

  pub left-done : length text ≤ at → Some values ≡ numbers_found ms s
  unfolding numbers_found numbers_of
  left-done g =
      let n : are_numbers ms s ≡ true = ends ∙ eq-eqb (length (drop at text)) 0 (omega (arith, length-drop at text)) in
      let e : numbers_of ms s ≡ take i values =
      p.so_far ∙ ap (λ (xs : List ℕ). take i values ++ numbers_of xs (drop at text)) (drop_of_length-le ms h) ∙ append-nil (take i values) in
      let z : i ≡ length ms = omega arith in
      let v : values ≡ numbers_of ms s ++ replicate (8 - length ms) 0 =
      sym (take-append-drop i values) ∙ ap₂ (λ (x y : List ℕ). x ++ y) (sym e) (p.rest ∙ ap (λ (k : ℕ). replicate k 0) (ap (λ (k : ℕ). 8 - k) z)) in
      sym (rw (n, ← v))

pub not-numbers : (ms s : List ℕ) → are_numbers ms s ≡ false → None ≡ numbers_found ms s
unfolding numbers_found
not-numbers ms s e = rw e

-- what was found is within its bounds
within-below : (ms ns : List ℕ) → Within ms ns → (i : ℕ) → get_or ns i 0 ≤ get_or ms i 0
within-below [] [] w i = omega arith
within-below [] (n ∷ ns) w i = absurd w
within-below (m ∷ ms) [] w i = absurd w
within-below (m ∷ ms) (n ∷ ns) w zero = w.0
within-below (m ∷ ms) (n ∷ ns) w (suc i) = within-below ms ns w.1 i

padded : (k i : ℕ) (ns : List ℕ) → get_or (ns ++ replicate k 0) i 0 ≡ get_or ns i 0
padded zero i ns = ap (λ (l : List ℕ). get_or l i 0) (append-nil ns)
padded (suc k) zero [] = refl
padded (suc k) (suc i) [] = padded k i []
padded (suc k) zero (n ∷ ns) = refl
padded (suc k) (suc i) (n ∷ ns) = padded (suc k) i ns

pub found_below : (ms s vs : List ℕ) → numbers_found ms s ≡ Some vs → Below ms vs
unfolding numbers_found
found_below ms s vs = go (are_numbers ms s) refl
  where
    go : (b : Bool) → are_numbers ms s ≡ b → cond b (Some (numbers_of ms s ++ replicate (8 - length ms) 0)) None ≡ Some vs → Below ms vs
    go true e h i =
        let q : vs ≡ numbers_of ms s ++ replicate (8 - length ms) 0 = cc in
        rw (q, padded (8 - length ms) i (numbers_of ms s)) (within-below ms (numbers_of ms s) (only-text-is-read ms s e).1 i)
    go false e h i = cc
