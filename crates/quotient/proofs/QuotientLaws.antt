-- Both times are converted exactly, and their quotient is the f64 nearest to the true one; it is 0 where the first is.
use Prim.Native.Nat.{ℕ, ◌*◌, ◌^◌, ◌≤◌, ◌<◌}
use mathlib.Core.Bool.{Bool, true, false, cond, true≢false}
use mathlib.Core.Path.{◌≡◌, sym, ap, ◌∙◌, subst}
use native.Mathlib.Omega.{arith}
use native.Mathlib.Nat.{le_trans, mul_assoc, mul_comm, mul_left_comm, mul-one, mul-pos, lt_irrefl}
use lib.Dec.{eqb, le→leb}
use lib.IntN.{pos}
use lib.Ieee.{Float, nan, inf, fin, binary64, in_float, up, down, of_int, div, round}
use lib.Ieee.Fits.{down_pos}
use lib.Ieee.Back.{round_whole, unsigned_back}
use lib.Ieee.Exact.{HasValue}
use lib.Ieee.Scale.{round_same}
use lib.Ieee.Positive.{first_pos}
use borrow.Author.Tests.{ne_eqb}
use Rattle.quotient.specs.Quotient.{converted, quotient, ConvertsExactly, NearestQuotient}

pub converts-exactly : ConvertsExactly
unfolding in_float
converts-exactly n h = (unsigned_back binary64 64 n (le→leb n (2 ^ 53) (omega arith)) (omega arith)).1

converted-value : (n : ℕ) → n ≤ 1000000000000000 → HasValue (converted n) false n 1
unfolding of_int
converted-value n h = round_whole binary64 false n (le_trans h (omega arith))

-- m up / down is t, and n up / down is e: their quotient is t / e
crossed : (t e m n a b a' b' : ℕ) → m * a * 1 ≡ t * a' → n * b * 1 ≡ e * b' → m * a * b' * e ≡ t * (n * b * a')
crossed t e m n a b a' b' p q =
    ap (λ (k : ℕ). k * b' * e) (sym (mul-one (m * a)) ∙ p)
    ∙ arranged
    ∙ ap (λ (k : ℕ). t * (k * a')) (sym q ∙ mul-one (n * b))
  where
    arranged : t * a' * b' * e ≡ t * (e * b' * a')
    arranged = simp (mul_assoc, mul_comm, mul_left_comm)

divided : (x y : Float) (t e : ℕ) → 0 < e → HasValue x false t 1 → HasValue y false e 1 → div binary64 x y ≡ round binary64 false t e
unfolding div
divided nan y t e E p q = absurd p
divided (inf s) y t e E p q = absurd p
divided (fin true m a) y t e E p q = absurd (true≢false p.0)
divided (fin false m a) nan t e E p q = absurd q
divided (fin false m a) (inf s) t e E p q = absurd q
divided (fin false m a) (fin true n b) t e E p q = absurd (true≢false q.0)
divided (fin false m a) (fin false n b) t e E p q =
    let N : 0 < n * up b = first_pos (n * up b) 1 (subst (λ (k : ℕ). 0 < k) (sym q.1) (mul-pos E (down_pos b))) in
    let z : n ≡ 0 → ⊥ = λ z. lt_irrefl 0 (subst (λ (k : ℕ). 0 < k) z (first_pos n (up b) N)) in
    ap (λ (c : Bool). cond c (cond (eqb m 0) nan (inf false)) (round binary64 false (m * up a * down b) (n * up b * down a))) (ne_eqb n 0 z)
    ∙ round_same binary64 false (m * up a * down b) (n * up b * down a) t e (mul-pos N (down_pos a)) E (crossed t e m n (up a) (up b) (down a) (down b) p.1 q.1)

pub nearest-quotient : NearestQuotient
unfolding quotient
nearest-quotient t e T E P = divided (converted t) (converted e) t e P (converted-value t T) (converted-value e E)

-- no run time is the share 0
pub quotient-zero : (e : ℕ) → 0 < e → e ≤ 1000000000000000 → quotient 0 e ≡ fin false 0 (pos 0)
unfolding round
quotient-zero e P L = nearest-quotient 0 e (omega arith) L P ∙ round_same binary64 false 0 e 0 1 P (omega arith) (omega arith)
