-- `entries_sound::entries_hold` meets its contract: what is left of both lists gives the whole answer.
use Prim.Native.Nat.{ℕ, ◌+◌, ◌-◌, ◌≤◌}
use mathlib.Core.Path.{◌≡◌}
use mathlib.Core.List.{List}
use lib.ListN.{length}
use Rattle.base.specs.Tests.{all}
use Rattle.account.specs.Sound.{amount_tests, due_tests, last_due}
use Rattle.entries_sound.proofs.entries_hold.Given as goal

-- with the entries xs and ds to come: what is left of the budget, and the last due
pub record Held (budget own : ℕ) (amounts dues : List ℕ) (after hi left last : ℕ) (xs ds : List ℕ) : Type 0 where
  pub same : length xs ≡ length ds
  pub within : left ≤ budget
  pub sums : all (amount_tests budget (budget - left) xs) ≡ all (amount_tests budget own amounts)
  pub begun : after ≤ last
  pub times : all (due_tests (last + 1) hi ds) ≡ all (due_tests (after + 1) hi dues)

abbrev pub invariant-loop-amount : goal.invariant-loop-amount
invariant-loop-amount l =
    Held l.budget (l.capacity + l.used) l.amounts l.dues l.after (last_due l.after) l.left l.last l.amount-iterator.a.rest.now l.amount-iterator.b.rest.now
