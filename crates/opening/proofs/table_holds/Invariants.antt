-- The loop of `opening::table_holds`: the threads so far may be opened.
use Prim.Native.Nat.{ℕ, ◌<◌}
use mathlib.Core.Bool.{true}
use mathlib.Core.Path.{◌≡◌}
use Rattle.opening.proofs.OpenLaws.{opens}
use Rattle.opening.proofs.table_holds.Given as goal

abbrev pub invariant-loop-p : goal.invariant-loop-p
invariant-loop-p l = (k : ℕ) → k < l.p-index → opens l.fn.table k ≡ true
