-- One step of each loop of the private functions, from place j of a list on.
use mathlib.Core.Path.{◌≡◌}
use mathlib.Core.Bool.{false, cond}
use mathlib.Core.List.{List}
use Prim.Native.Nat.{ℕ, ◌+◌, ◌<◌}
use lib.Bits.{bit_or}
use lib.Dec.{eqb}
use lib.ListN.{length, set, drop, get_or}
use borrow.Author.Tests.{eq-eqb, ne_eqb}
use Rattle.base.specs.Tests.{all, zeros}
use Rattle.base.proofs.ZeroLaws.{or-none, cond_both}
use Rattle.ready.proofs.StepLaws as steps
use Rattle.ready_sound.specs.Private.{strikes, struck}

module _ (xs : List ℕ) (j : ℕ) (h : j < length xs) where
  abbrev here : ℕ
  here = steps.here xs j h

  -- the bits of one number more
  pub zeros-next : (bits : ℕ) → cond (eqb (bit_or bits here) 0) (all (zeros (drop (j + 1) xs))) false ≡ cond (eqb bits 0) (all (zeros (drop j xs))) false
  unfolding all
  zeros-next bits = rw (steps.rest xs j h, or-none bits here) (cond_both (eqb bits 0) (eqb here 0) (all (zeros (drop (j + 1) xs))))

  pub strikes-here : (p : ℕ) (left : List ℕ) → (get_or left here 0 ≡ p → ⊥) → strikes p (drop j xs) left ≡ false
  unfolding strikes
  strikes-here p left e = rw (steps.rest xs j h) (simp (ne_eqb (get_or left here 0) p e))

  pub strikes-next : (p : ℕ) (left : List ℕ) → get_or left here 0 ≡ p → strikes p (drop j xs) left ≡ strikes p (drop (j + 1) xs) (set left here 0)
  unfolding strikes
  strikes-next p left e = rw (steps.rest xs j h) (simp (eq-eqb (get_or left here 0) p e))

  pub struck-next : (left : List ℕ) → struck (drop j xs) left ≡ struck (drop (j + 1) xs) (set left here 0)
  unfolding struck
  struck-next left = rw (steps.rest xs j h)
