-- `insertion::insert` meets its contract.
use Prim.Native.Nat.{◌+◌, ◌-◌}
use mathlib.Core.Path.{◌≡◌}
use native.Mathlib.Omega.{arith}
use Rattle.entries.proofs.InsertLaws.{down-start, down_turn, down-store}
use Rattle.insertion.proofs.insert.Goals as goal

pub loop-i-init : goal.loop-i-init
loop-i-init c = (omega arith, down-start c.args.xs c.args.n)

pub loop-i-preserved : goal.loop-i-preserved
loop-i-preserved c =
    let e : c.loop-i.i - 1 + 1 ≡ c.loop-i.i = omega arith in
    let turn = down_turn c.args.xs c.loop-i.r c.args.n c.loop-i.i (omega arith) (omega arith) (omega arith) c.loop-i.invariant.1 in
    (omega arith, rw e (rw e at turn))

pub returns : goal.returns
returns c =
    let e : c.loop-i.i ≡ c.args.k = omega arith in
    down-store c.args.xs c.loop-i.r c.args.n c.args.k c.args.x (omega arith) (rw e at c.loop-i.invariant.1)
