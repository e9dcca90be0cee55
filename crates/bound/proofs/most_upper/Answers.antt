-- `bound::most_upper` meets its contract.
use Prim.Native.Nat.{◌+◌, ◌*◌, ◌<◌, ◌≤◌}
use mathlib.Core.Bool.{true}
use mathlib.Core.Path.{◌≡◌}
use native.Mathlib.Omega.{arith}
use Rattle.records.specs.declared.Parameters.{Parameters}
use Rattle.bound.proofs.MostLaws.{whole-within, most-even, most-odd, most-all, Budget, budget}
use Rattle.bound.specs.Most.{sporadic_thread}
use Rattle.bound.proofs.most_upper.Goals as goal

-- the stretch and the two budgets that are run in it
module _ (p : Parameters) (q : sporadic_thread p ≡ true) where
  range : Budget p
  range = budget p q

  some : 0 < p.period + p.budget
  some = omega (arith, range)

  few : 2 * p.budget ≤ p.period + p.budget
  few = omega (arith, range)

pub overflow_add-stretch : goal.overflow_add-stretch
overflow_add-stretch c = omega (arith, range c.args.p c.requires)

pub overflow_mul-twice : goal.overflow_mul-twice
overflow_mul-twice c = omega (arith, range c.args.p c.requires)

pub nonzero_div-whole : goal.nonzero_div-whole
nonzero_div-whole c = some c.args.p c.requires

pub overflow_mul-whole : goal.overflow_mul-whole
overflow_mul-whole c = omega (arith, whole-within c.args.length _ _ (some c.args.p c.requires) (few c.args.p c.requires))

pub nonzero_rem-length : goal.nonzero_rem-length
nonzero_rem-length c = some c.args.p c.requires

pub returns-then-length-stretch-eq0 : goal.returns-then-length-stretch-eq0
returns-then-length-stretch-eq0 c = most-even c.args.length _ _ (some c.args.p c.requires) (few c.args.p c.requires) c.if-length-stretch-eq0.true

pub overflow_sub-length : goal.overflow_sub-length
overflow_sub-length c = whole-within c.args.length _ _ (some c.args.p c.requires) (few c.args.p c.requires)

pub overflow_add-result : goal.overflow_add-result
overflow_add-result c = omega arith

pub returns-then-twice-length : goal.returns-then-twice-length
returns-then-twice-length c = most-odd c.args.length _ _ (some c.args.p c.requires) (few c.args.p c.requires) c.if-length-stretch-eq0.false c.if-twice-length.true

pub returns : goal.returns
returns c = most-all c.args.length _ _ (some c.args.p c.requires) (few c.args.p c.requires) c.if-length-stretch-eq0.false c.if-twice-length.false
