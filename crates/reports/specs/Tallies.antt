-- What is told of the steps (02 E3 2): four numbers for each thread, 128 in all.
use Rattle.std.specs.Prelude.{ℕ, zero, suc, ◌+◌, ◌*◌, ◌<◌, ◌^◌, cond, ◌≡◌, List, [], ◌∷◌, ◌++◌, length, get_or, set, eqb}
use Rattle.records.specs.Ranges.{most_threads}
use Rattle.sporadic.specs.declared.Effect.{Effect}
use Rattle.reports.specs.Steps.{Step, Log}
use Rattle.reports.specs.Steps.Step.{ran, quantum, limit, effect}

-- 02 E3 2: of one thread: limits reached, quanta ended, replenishments carried out, and the sum of their amounts
pub record Tally : Type 0 where
  pub limits : ℕ
  pub quanta : ℕ
  pub replenishments : ℕ
  pub amounts : ℕ

abbrev pub tally : ℕ → ℕ → ℕ → ℕ → Tally
tally l q r x = record { limits = l; quanta = q; replenishments = r; amounts = x }

abbrev pub nothing : Tally
nothing = tally 0 0 0 0

abbrev pub plus : Tally → Tally → Tally
plus a b = tally (a.limits + b.limits) (a.quanta + b.quanta) (a.replenishments + b.replenishments) (a.amounts + b.amounts)

-- 02 E3 2: an Effect carries out a replenishment where an amount came back: the first entry's, or U at once
abbrev pub back_tally : ℕ → Tally
back_tally back = tally 0 0 (cond (eqb back 0) 0 1) back

abbrev pub returned : Effect → Tally
returned e = back_tally e.back

-- ticks alone are not told
abbrev pub tally_of : Step → Tally
tally_of (ran k a) = nothing
tally_of quantum = tally 0 1 0 0
tally_of limit = tally 1 0 0 0
tally_of (effect now period e) = returned e

-- ---- for each thread

-- of thread i alone
abbrev pub of_thread : ℕ → Tally → ℕ → Tally
of_thread i x j = cond (eqb i j) x nothing

abbrev pub no_tallies : ℕ → Tally
no_tallies j = nothing

abbrev pub both : (ℕ → Tally) → (ℕ → Tally) → ℕ → Tally
both f g j = plus (f j) (g j)

-- 02 E3 3: over the steps of a log
abbrev pub tallied : Log → ℕ → Tally
tallied [] = no_tallies
tallied (x ∷ xs) = both (of_thread x.thread (tally_of x.step)) (tallied xs)

-- ---- as numbers

-- how many a thread has
abbrev pub per_thread : ℕ
per_thread = 4

-- of the threads below n, in number order
abbrev pub four : Tally → List ℕ
four x = x.limits ∷ x.quanta ∷ x.replenishments ∷ x.amounts ∷ []

unfoldable pub numbers_below : ℕ → (ℕ → Tally) → List ℕ
numbers_below zero f = []
numbers_below (suc n) f = numbers_below n f ++ four (f n)

abbrev pub numbers : (ℕ → Tally) → List ℕ
numbers f = numbers_below most_threads f

-- so much more at a place; thread i's tally of x more
abbrev pub more : ℕ → ℕ → List ℕ → List ℕ
more k n xs = set xs k (get_or xs k 0 + n)

abbrev pub more_of : ℕ → Tally → List ℕ → List ℕ
more_of i x xs =
    more (i * per_thread + 3) x.amounts (more (i * per_thread + 2) x.replenishments (more (i * per_thread + 1) x.quanta (more (i * per_thread) x.limits xs)))

-- what telling so much more needs: the numbers of all threads, each with room for it
abbrev pub Tellable : ℕ → List ℕ → Type 0
Tellable n xs = (length xs ≡ most_threads * per_thread) × ((k : ℕ) → get_or xs k 0 + n < 2 ^ 64)
