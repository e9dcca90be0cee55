-- Tallies add up, and so do those of one log after another.
use Prim.Native.Nat.{ℕ, ◌+◌, ◌≤◌}
use mathlib.Core.Bool.{Bool, true, false, cond}
use mathlib.Core.Path.{◌≡◌, refl, sym, ap, ◌∙◌}
use mathlib.Core.List.{[], ◌∷◌, ◌++◌}
use lib.Dec.{eqb}
use native.Mathlib.Omega.{arith}
use Rattle.reports.specs.Steps.{Log}
use Rattle.reports.specs.Tallies.{Tally, nothing, plus, tally_of, of_thread, no_tallies, both, tallied}

pub same-tally : (a b : Tally) → a.limits ≡ b.limits → a.quanta ≡ b.quanta → a.replenishments ≡ b.replenishments → a.amounts ≡ b.amounts → a ≡ b
same-tally a b p q r s = λ k. record { limits = p k; quanta = q k; replenishments = r k; amounts = s k }

pub nothing-plus : (x : Tally) → plus nothing x ≡ x
nothing-plus x = same-tally (plus nothing x) x (omega arith) (omega arith) (omega arith) (omega arith)

pub plus-nothing : (x : Tally) → plus x nothing ≡ x
plus-nothing x = same-tally (plus x nothing) x (omega arith) (omega arith) (omega arith) (omega arith)

pub plus-plus : (a b c : Tally) → plus (plus a b) c ≡ plus a (plus b c)
plus-plus a b c = same-tally (plus (plus a b) c) (plus a (plus b c)) (omega arith) (omega arith) (omega arith) (omega arith)

-- ---- for each thread

pub none_both : (f : ℕ → Tally) → both no_tallies f ≡ f
none_both f = λ k j. nothing-plus (f j) k

pub both-none : (f : ℕ → Tally) → both f no_tallies ≡ f
both-none f = λ k j. plus-nothing (f j) k

pub both-both : (f g h : ℕ → Tally) → both (both f g) h ≡ both f (both g h)
both-both f g h = λ k j. plus-plus (f j) (g j) (h j) k

pub tallied-append : (xs ys : Log) → tallied (xs ++ ys) ≡ both (tallied xs) (tallied ys)
tallied-append [] ys = sym (none_both (tallied ys))
tallied-append (x ∷ xs) ys =
    ap (both (of_thread x.thread (tally_of x.step))) (tallied-append xs ys)
    ∙ sym (both-both (of_thread x.thread (tally_of x.step)) (tallied xs) (tallied ys))

-- two tallies of one thread
pub of-thread-plus : (i : ℕ) (a b : Tally) → both (of_thread i a) (of_thread i b) ≡ of_thread i (plus a b)
of-thread-plus i a b = λ k j. go (eqb i j) k
  where
    go : (e : Bool) → plus (cond e a nothing) (cond e b nothing) ≡ cond e (plus a b) nothing
    go true = refl
    go false = refl

-- ---- bounds

-- at most n of each, and amounts of at most m
pub record AtMost (n m : ℕ) (x : Tally) : Type 0 where
  pub limits : x.limits ≤ n
  pub quanta : x.quanta ≤ n
  pub replenishments : x.replenishments ≤ n
  pub amounts : x.amounts ≤ m

pub plus-most : (n m k l : ℕ) (x y : Tally) → AtMost n m x → AtMost k l y → AtMost (n + k) (m + l) (plus x y)
plus-most n m k l x y a b =
    record {
      limits = omega (arith, a.limits, b.limits);
      quanta = omega (arith, a.quanta, b.quanta);
      replenishments = omega (arith, a.replenishments, b.replenishments);
      amounts = omega (arith, a.amounts, b.amounts);
    }

-- a part is no more than the whole
pub left-most : (n m : ℕ) (x y : Tally) → AtMost n m (plus x y) → AtMost n m x
left-most n m x y a =
    record {
      limits = omega (arith, a.limits);
      quanta = omega (arith, a.quanta);
      replenishments = omega (arith, a.replenishments);
      amounts = omega (arith, a.amounts);
    }

pub most-more : (n m k l : ℕ) (x : Tally) → n ≤ k → m ≤ l → AtMost n m x → AtMost k l x
most-more n m k l x p q a =
    record {
      limits = omega (arith, a.limits);
      quanta = omega (arith, a.quanta);
      replenishments = omega (arith, a.replenishments);
      amounts = omega (arith, a.amounts);
    }

pub none-most : (n m : ℕ) → AtMost n m nothing
none-most n m = record { limits = omega arith; quanta = omega arith; replenishments = omega arith; amounts = omega arith }

pub thread-most : (i j n m : ℕ) (x : Tally) → AtMost n m x → AtMost n m (of_thread i x j)
thread-most i j n m x a = go (eqb i j)
  where
    go : (e : Bool) → AtMost n m (cond e x nothing)
    go true = a
    go false = none-most n m
