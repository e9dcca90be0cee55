-- `account_lent::numbers_hold` meets its contract.
use Prim.Native.Nat.{ℕ, ◌+◌, ◌-◌, ◌≤◌, ◌<◌}
use mathlib.Core.Bool.{Bool, true, false, cond}
use mathlib.Core.Logic.{◌⊎◌, inl, inr}
use mathlib.Core.Path.{◌≡◌, refl, sym, ◌∙◌}
use lib.Dec.{leb}
use native.Mathlib.Omega.{arith}
use borrow.Author.Tests.{lt-leb, le-leb, eq-eqb, ne_eqb}
use Rattle.records.specs.declared.Parameters.{Parameters}
use Rattle.base.specs.Tests.{all}
use Rattle.base.proofs.TestLaws.{all-false, all_one, leb-same}
use Rattle.sporadic.specs.declared.Server.{Server}
use Rattle.account.specs.Sound.{number_tests}
use Rattle.account_lent.proofs.numbers_hold.Goals as goal

-- where the first four tests hold, the last one decides
last : (start now : ℕ) (up : Bool) (p : Parameters) (s : Server) (count : ℕ) → count ≤ p.max_repl → count ≤ 8 → cond up 0 s.used ≡ 0 → start ≤ s.activation
    → all (number_tests start now up p s count) ≡ leb (s.activation + s.used) now
unfolding all
last start now up p s count h k e l =
    simp (le-leb count p.max_repl h, le-leb count 8 k, eq-eqb (cond up 0 s.used) 0 e, le-leb start s.activation l, all_one)

pub returns-then-p-count : goal.returns-then-p-count
returns-then-p-count c = sym (all-false _ 0 (lt-leb _ _ c.if-p-count.true))

pub returns-then-count-gt-MOST : goal.returns-then-count-gt-MOST
returns-then-count-gt-MOST c = sym (all-false _ 1 (lt-leb _ _ c.if-count-gt-MOST.true))

pub returns-then-s-start : goal.returns-then-s-start
returns-then-s-start c = sym (all-false _ 3 (lt-leb _ _ c.if-s-start.true))

pub returns-then-now-s : goal.returns-then-now-s
returns-then-now-s c =
    let a = c.args in
    let h : a.now < a.s.activation + a.s.used = omega arith in
    sym (all-false _ 4 (lt-leb _ _ h))

pub returns-then-s-ne0 : goal.returns-then-s-ne0
returns-then-s-ne0 c = sym (all-false _ 2 (rw c.if-not-up.true (ne_eqb _ _ c.if-s-ne0.true)))

-- U is asked only where the thread isn't at its upper priority
asked : (up : Bool) (used : ℕ) → (up ≡ false × used ≡ 0) ⊎ (up ≡ true) → cond up 0 used ≡ 0
asked up used (inl h) = rw h.0 h.1
asked up used (inr h) = rw h refl

pub returns : goal.returns
returns c =
    let a = c.args in
    leb-same a.s.used (a.now - a.s.activation) (a.s.activation + a.s.used) a.now (λ h. omega arith) (λ h. omega arith)
    ∙ sym (last a.start a.now a.up a.p a.s a.count (omega arith) (omega arith) (asked a.up a.s.used c.else-not-up.either) (omega arith))
