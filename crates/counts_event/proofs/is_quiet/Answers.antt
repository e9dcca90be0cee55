-- `counts_event::is_quiet` meets its contract: the four numbers together have no bit exactly where each is 0.
use Prim.Native.Nat.{ℕ, ◌+◌, ◌*◌}
use mathlib.Core.Bool.{Bool, true, false, cond}
use mathlib.Core.Path.{◌≡◌, refl}
use lib.Bits.{bit_or}
use lib.Dec.{eqb}
use lib.ListN.{get_or}
use Rattle.base.specs.Tests.{all}
use Rattle.base.proofs.ZeroLaws.{or-none}
use Rattle.counts_text.specs.Lines.{quiet}
use Rattle.counts_event.proofs.is_quiet.Goals as goal

four : (a b c d : Bool) → cond (cond (cond a b false) c false) d false ≡ cond a (cond b (cond c (cond d true false) false) false) false
four true true true true = refl
four true true true false = refl
four true true false d = refl
four true false c d = refl
four false b c d = refl

pub returns : goal.returns
unfolding quiet all
returns c =
    let k = c.args.i * 4 in
    let n : ℕ → ℕ = λ j. get_or c.args.xs.now j 0 in
    let two = bit_or (n k) (n (k + 1)) in
    rw (or-none (bit_or two (n (k + 2))) (n (k + 3)), or-none two (n (k + 2)), or-none (n k) (n (k + 1))) (four (eqb (n k) 0) (eqb (n (k + 1)) 0) (eqb (n (k + 2)) 0) (eqb (n (k + 3)) 0))
