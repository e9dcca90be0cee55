-- `thread_sound::no_server` meets its contract.
use mathlib.Core.Path.{refl, sym}
use borrow.Author.Tests.{eq-eqb, ne_eqb}
use Rattle.base.proofs.TestLaws.{all-false}
use Rattle.state.specs.Sound.{server_tests}
use Rattle.state.proofs.TestLaws.{◌and◌, by_last}
use Rattle.thread_sound.proofs.no_server.Goals as goal

pub returns-then-s-ne0 : goal.returns-then-s-ne0
returns-then-s-ne0 c = sym (all-false _ 0 (ne_eqb _ _ c.if-s-ne0.true))

pub returns-then-s-ne0-2 : goal.returns-then-s-ne0-2
returns-then-s-ne0-2 c = sym (all-false _ 1 (ne_eqb _ _ c.if-s-ne0-2.true))

pub returns : goal.returns
returns c =
    let b = c in
    by_last (server_tests b.args.s) refl (eq-eqb _ _ b.if-s-ne0.false and eq-eqb _ _ c.if-s-ne0-2.false and tt)
