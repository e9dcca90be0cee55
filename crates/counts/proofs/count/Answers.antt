-- `counts::count` meets its contract.
use Rattle.std.proofs.Common.{ℕ, ◌≡◌, Bool, cond, sym, ap, ◌∙◌}
use Rattle.std.specs.Prelude.{Result, Ok, Err, IfOk}
use native.Mathlib.Omega.{arith}
use borrow.Author.Tests.{eq-eqb, ne_eqb}
use Rattle.base.proofs.TestLaws.{tests}
use Rattle.command.specs.declared.Ending.{Ending}
use Rattle.command.specs.declared.Told.{Told}
use Rattle.command.specs.Ends.{number_of}
use Rattle.state.specs.Updates.{whole}
use Rattle.state.proofs.SoundLaws.{state-out}
use Rattle.replay_steps.specs.FileSteps.{Beginning, begun_of}
use Rattle.counts.proofs.count.Goals as goal

-- the number of an ending, by what it comes to
numbered : (r : Result Ending Told) (a b : ℕ) → a ≡ b → IfOk r (λ e. number_of e ≡ a) → IfOk r (λ e. number_of e ≡ b)
numbered (Ok e) a b q h = h ∙ q
numbered (Err t) a b q h = h

pub returns-then-begun-ne0 : goal.returns-then-begun-ne0
returns-then-begun-ne0 g c =
    let e : c.begin-begun.result.status ≡ (begun_of c.args.file.now).status = ap (λ (b : Beginning). b.status) c.begin-begun.ensures.amounts_after in
    numbered _ _ _ (sym (ap (λ (x : Bool). cond x 0 1) (ne_eqb _ 0 (λ z. c.if-begun-ne0.true (e ∙ z))))) c.refuse.ensures

pub write_events-requires : goal.write_events-requires
write_events-requires g c = (c.begin-begun.ensures.amounts_after_2 c.if-begun-ne0.false, omega arith)

pub write_sums-requires : goal.write_sums-requires
write_sums-requires g c =
    let w = c.write_events in
    (omega (tests, (state-out (whole c.in_ok-last.last w.new.dues w.new.amounts) c.in_ok-last.ensures.0).sizes), omega (arith, w.auto.out))

pub returns : goal.returns
returns g c =
    let e : c.begin-begun.result.status ≡ (begun_of c.args.file.now).status = ap (λ (b : Beginning). b.status) c.begin-begun.ensures.amounts_after in
    numbered _ _ _ (sym (ap (λ (x : Bool). cond x 0 1) (eq-eqb _ 0 (sym e ∙ c.if-begun-ne0.false)))) c.write_sums.ensures
