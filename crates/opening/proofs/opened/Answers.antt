-- `opening::opened` meets its contract.
use Rattle.records.specs.Ranges.{no_parameters}
use Prim.Native.Nat.{ℕ, ◌<◌}
use mathlib.Core.Path.{◌≡◌, ap, ap₂, ◌∙◌, subst⁻¹}
use mathlib.Core.Bool.{false}
use lib.ListN.{get_or}
use lib.Dec.{eqb}
use native.Mathlib.Omega.{arith}
use Rattle.ready.specs.Word.{occupancy}
use Rattle.ready.specs.Rules.{Joinable}
use Rattle.state.specs.Updates.{whole}
use Rattle.events.specs.Opening.{empty_state, entered, entered_below}
use Rattle.opening.proofs.OpenLaws.{few, next-enters, below_next}
use Rattle.opening.proofs.opened.Goals as goal

pub overflow_cast-k-end : goal.overflow_cast-k-end
overflow_cast-k-end c = omega (arith, few c.args.header c.args.table c.requires.0)

pub loop-k-init : goal.loop-k-init
unfolding entered_below
loop-k-init c = ap₂ (whole c.empty_core-s.result) c.requires.1 c.requires.2 ∙ c.empty_core-s.ensures

pub bounds-table-from : goal.bounds-table-from
bounds-table-from c = omega (arith, few c.args.header c.args.table c.requires.0)

pub enter-s-requires : goal.enter-s-requires
enter-s-requires c =
    let a = c.args in
    let s = whole c.loop-k.s c.loop-k.dues c.loop-k.amounts in
    let n = next-enters a.header a.table c.requires.0 c.loop-k.k c.loop-k-test.true s c.loop-k.invariant in
    subst⁻¹
    (λ (i : ℕ). (c.loop-k.k < 32) × (s.word ≡ occupancy s.lists)
    × (eqb (get_or a.table i no_parameters).flag 0 ≡ false → Joinable s.word (get_or a.table i no_parameters).priority s.lists))
    c.from.ensures (n.0, n.3, n.4)

pub loop-k-preserved : goal.loop-k-preserved
loop-k-preserved c =
    let a = c.args in
    c.enter-s.ensures
    ∙ ap₂ (λ (i : ℕ). entered c.loop-k.k (get_or a.table i no_parameters)) c.from.ensures c.loop-k.invariant
    ∙ below_next a.table c.loop-k.k (empty_state a.header)

pub returns : goal.returns
returns c =
    let a = c.args in
    let e : c.loop-k.k ≡ a.header.n = omega arith in
    c.loop-k.invariant ∙ ap (λ (x : ℕ). entered_below x a.table (empty_state a.header)) e
