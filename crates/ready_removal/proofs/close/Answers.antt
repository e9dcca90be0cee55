-- `ready_removal::close` meets its contract.
use Prim.Native.Nat.{◌+◌, ◌-◌, ◌<◌}
use mathlib.Core.Path.{◌≡◌}
use native.Mathlib.Omega.{arith}
use lib.ListN.{length}
use Rattle.ready_removal.proofs.GapLaws.{at_first, next-read, next-step, at_last}
use Rattle.ready_removal.proofs.close.Goals as goal

pub loop-j-init : goal.loop-j-init
loop-j-init c = at_first c.args.lists.now c.args.at

pub loop-j-preserved : goal.loop-j-preserved
loop-j-preserved c =
    let l = c.args.lists.now in
    let at = c.args.at in
    let h : at + c.loop-j.j + 1 < length l = omega arith in
    rw (c.loop-j.invariant, next-read l at c.loop-j.j h) (next-step l at c.loop-j.j h)

pub returns : goal.returns
returns c =
    let l = c.args.lists.now in
    let last = c.args.n - 1 in
    let z : c.loop-j.j ≡ last = omega arith in
    rw (c.loop-j.invariant, z) (at_last l c.args.at c.args.n last (omega arith) (omega arith))
