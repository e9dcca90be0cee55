-- Digits with a point: how they grow, and how many bytes they are; and the text of a float.
use Prim.Native.Nat.{ℕ, zero, suc, ◌+◌, ◌-◌, ◌/◌, ◌%◌, ◌^◌, ◌≤◌, ◌<◌}
use mathlib.Core.List.{[], ◌∷◌, ◌++◌}
use mathlib.Core.Bool.{Bool, true, not}
use mathlib.Core.Path.{◌≡◌, refl, sym, ap, ◌∙◌, subst}
use native.Mathlib.Omega.{arith}
use lib.ListN.{length, length-append}
use Rattle.text.specs.Decimal.{decimal}
use Rattle.text.specs.Fields.{field}
use Rattle.text.proofs.DecimalLaws.{digits-fit}
use lib.Dec.{T}
use lib.Ieee as Ieee
use lib.Ieee.Bits.{of_bits-to_bits}
use lib.Ieee.Positive.{num, den, den_pos, own_value, value_pos}
use Rattle.decimals.specs.declared.Decimals.{Decimals}
use Rattle.decimals.specs.Decimals.{decimals_of, Within, InUnit, none, Shown, nothing, something, pointed, text_by, float_text, longest_text}
use Rattle.decimals.proofs.BitsLaws.{number}

pub none_after : (places digits : ℕ) → places ≡ 0 → pointed places digits ≡ field digits 46
unfolding pointed field
none_after zero digits e = refl
none_after (suc p) digits e = absurd (omega arith)

pub one-after : (places digits : ℕ) → (places ≡ 0 → ⊥) → pointed places digits ≡ pointed (places - 1) (digits / 10) ++ ((48 + digits % 10) ∷ [])
unfolding pointed
one-after zero digits d = absurd (d refl)
one-after (suc p) digits d = ap (λ (n : ℕ). pointed n (digits / 10) ++ ((48 + digits % 10) ∷ [])) (less p)
  where
    less : (p : ℕ) → p ≡ suc p - 1
    less p = omega arith

pub positive : (n : ℕ) → (n ≡ 0 → ⊥) → 1 ≤ n
positive zero d = absurd (d refl)
positive (suc n) d = omega arith

pub longer : (places digits : ℕ) → (places ≡ 0 → ⊥) → length (pointed places digits) ≡ length (pointed (places - 1) (digits / 10)) + 1
longer p n d = ap length (one-after p n d) ∙ simp length-append

-- room for all is room for all but the last digit
pub room : (at places digits size : ℕ) → (places ≡ 0 → ⊥) → at + length (pointed places digits) ≤ size → at + length (pointed (places - 1) (digits / 10)) ≤ size
room at p n size d h = omega (arith, longer p n d)

-- at most 20 digits, the point, and the places
pub pointed-most : (p n : ℕ) → n < 10 ^ 20 → length (pointed p n) ≤ p + 21
unfolding pointed
pointed-most zero n h = omega (arith, length-append (decimal n) (46 ∷ []), digits-fit 20 n (omega arith) h)
pointed-most (suc p) n h =
    let i = pointed-most p (n / 10) (omega arith) in
    omega (arith, length-append (pointed p (n / 10)) ((48 + n % 10) ∷ []))

pub within-most : (d : Decimals) → Within d → length (pointed d.places d.digits) ≤ longest_text
within-most d w = omega (arith, pointed-most d.places d.digits (omega (arith, w.digits)), w.places)

-- the text of 0, and of any other
pub none-text : (x : Ieee.Float) → x ≡ none → float_text x ≡ decimal 0
unfolding float_text
none-text x e = ap (λ (y : Ieee.Float). text_by (num y) (decimals_of (num y) (den y))) e

some-text : (n : ℕ) (d : Decimals) → 0 < n → text_by n d ≡ pointed d.places d.digits
some-text zero d h = absurd (omega arith)
some-text (suc n) d h = refl

pub unit-text : (x : Ieee.Float) (d : Decimals) → InUnit x → d ≡ decimals_of (num x) (den x) → float_text x ≡ pointed d.places d.digits
unfolding float_text
unit-text x d u e =
    some-text (num x) (decimals_of (num x) (den x)) (value_pos x (num x) (den x) u.above (den_pos x) (own_value x u.above))
    ∙ ap (λ (y : Decimals). pointed y.places y.digits) (sym e)

-- a float is no NaN, and it is 0 exactly where its bits are
pub shown-number : (x : Ieee.Float) → Shown x → T (not (Ieee.is_nan x))
unfolding Ieee.is_nan
shown-number x (nothing e) = subst (λ (y : Ieee.Float). T (not (Ieee.is_nan y))) (sym e) tt
shown-number x (something u) = number x u.above

pub no_bits : (x : Ieee.Float) → Ieee.fits Ieee.binary64 x ≡ true → Ieee.to_bits Ieee.binary64 x ≡ 0 → x ≡ none
unfolding Ieee.of_bits
no_bits x f e = sym (of_bits-to_bits Ieee.binary64 x (subst (λ (t : Bool). T t) (sym f) tt)) ∙ ap (Ieee.of_bits Ieee.binary64) e

pub some_bits : (x : Ieee.Float) → Shown x → (Ieee.to_bits Ieee.binary64 x ≡ 0 → ⊥) → InUnit x
unfolding Ieee.to_bits
some_bits x (nothing e) d = absurd (d (ap (Ieee.to_bits Ieee.binary64) e))
some_bits x (something u) d = u
