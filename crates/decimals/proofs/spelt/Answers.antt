-- `decimals::spelt` meets its contract: the digits so far and what is left are the fraction.
use Prim.Native.Nat.{ℕ, ◌+◌, ◌*◌, ◌/◌, ◌%◌, compare}
use mathlib.Core.Path.{◌≡◌, sym, ap, ◌∙◌}
use native.Mathlib.Omega.{arith}
use Rattle.decimals.specs.Decimals.{decimals_of}
use Rattle.decimals.specs.Private.{limb, unit}
use Rattle.decimals.proofs.SpellLaws.{spelling-none, spelling-next, spelling-is, digits-fit, both, rounded-most}
use Rattle.decimals.proofs.spelt.Goals as goal

pub loop-down-init : goal.loop-down-init
loop-down-init c = spelling-none _ _ _ (omega arith) (omega arith) (omega arith)

pub overflow_add-digits : goal.overflow_add-digits
overflow_add-digits c =
    let w = c.loop-down in
    record { fits = digits-fit _ w.digits w.high w.low w.places w.invariant (sym c.goes_on.ensures ∙ c.loop-down-test.true) }

pub loop-down-smaller : goal.loop-down-smaller
loop-down-smaller c =
    let w = c.loop-down in
    let t = both w.digits w.places (sym c.goes_on.ensures ∙ c.loop-down-test.true) in
    omega (arith, t.1)

pub loop-down-preserved : goal.loop-down-preserved
loop-down-preserved c =
    let w = c.loop-down in
    spelling-next _ w.digits w.high w.low w.places w.invariant (sym c.goes_on.ensures ∙ c.loop-down-test.true)

pub rounded-requires : goal.rounded-requires
rounded-requires c =
    let i = c.loop-down.invariant in
    (i.digits, i.high, i.low)

pub returns : goal.returns
returns c =
    let e = c in
    let w = e.loop-down in
    let l = e.args.l in
    let z : l.high / limb * unit + (l.high % limb * limb + l.low) ≡ l.high * limb + l.low = omega arith in record {
      value = spelling-is _ w.digits w.high w.low w.places w.invariant (sym e.goes_on.ensures ∙ e.loop-down-test.false) _ c.rounded.ensures
          ∙ ap (λ (n : ℕ). decimals_of n unit) z;
      within = record { digits = rounded-most w.digits (compare ((w.high * limb + w.low) * 2) unit) c.rounded.result w.invariant.digits c.rounded.ensures; places = w.invariant.few };
    }
