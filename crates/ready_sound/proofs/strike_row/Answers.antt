-- `ready_sound::strike_row` meets its contract: the tests of the part, and then its threads.
use Prim.Native.Nat.{ℕ, ◌+◌, ◌-◌, ◌≤◌, ◌<◌}
use mathlib.Core.Path.{◌≡◌, sym, ap, ◌∙◌}
use mathlib.Core.Bool.{Bool, true}
use mathlib.Core.List.{List}
use native.Mathlib.Omega.{arith}
use lib.ListN.{length, take, drop, length-drop}
use lib.Seq.{take_all, drop-drop}
use borrow.Author.Tests.{lt-leb, le-leb}
use Rattle.base.specs.Tests.{all, zeros}
use Rattle.base.proofs.TestLaws.{all-false, all_one, false-true}
use Rattle.ready.specs.Lists.{size, members, unused}
use Rattle.ready_sound.specs.Private.{strikes, struck, Struck, RowStruck}
use Rattle.ready_sound.proofs.strike_row.Goals as goal

-- what is tested is the part's own
unused-part : (part : List ℕ) (n : ℕ) → n ≡ size part → take (length part - (n + 1)) (drop (n + 1) part) ≡ unused part
unused-part part n e =
    let k : 1 + size part ≡ n + 1 = omega arith in
    take_all (length part - (n + 1)) (drop (n + 1) part) (simp length-drop (omega arith))
    ∙ sym (drop-drop (size part) 1 part ∙ ap (λ (m : ℕ). drop m part) k)

members-part : (part : List ℕ) (n : ℕ) → n ≡ size part → take (n + 1 - 1) (drop 1 part) ≡ members part
members-part part n e = let k : n + 1 - 1 ≡ size part = omega arith in ap (λ (m : ℕ). take m (drop 1 part)) k

tested : (p : ℕ) (part left : List ℕ) {left' xs : List ℕ} {r : Bool} → 1 ≤ size part → size part ≤ 32 → all (zeros (unused part)) ≡ true → xs ≡ members part
    → Struck p xs left left' r → RowStruck p part left left' r
unfolding all
tested p part left {left'} {xs} {r} g h e m s =
    record {
      test = s.test ∙ ap (λ (t : List ℕ). strikes p t left) m ∙ sym (simp (le-leb 1 (size part) g, le-leb (size part) 32 h, e, all_one));
      rest = λ y. s.rest y ∙ ap (λ (t : List ℕ). struck t left) m;
    }

pub returns-then-n-lt1 : goal.returns-then-n-lt1
returns-then-n-lt1 c =
    let w = c in
    let part = w.args.part.now in
    let h : size part < 1 = omega (arith, w.from-n.ensures) in
    record { test = sym (all-false _ 0 (lt-leb _ _ h)); rest = λ e. false-true e }

pub returns-then-n-gt-THREADS : goal.returns-then-n-gt-THREADS
returns-then-n-gt-THREADS c =
    let w = c in
    let part = w.args.part.now in
    let h : 32 < size part = omega (arith, w.from-n.ensures) in
    record { test = sym (all-false _ 1 (lt-leb _ _ h)); rest = λ e. false-true e }

pub returns-then-not-all_zero : goal.returns-then-not-all_zero
returns-then-not-all_zero c =
    let w = c in
    let u = unused-part w.args.part.now w.from-n.result w.from-n.ensures in
    let z = c.all_zero.ensures ∙ ap (λ (t : List ℕ). all (zeros t)) u in
    record { test = sym (all-false _ 2 (sym z ∙ c.if-not-all_zero.true)); rest = λ e. false-true e }

pub returns : goal.returns
returns c =
    let z = c in
    let b = z in
    let w = b.from-n in
    let a = b.args in
    let u = unused-part a.part.now w.result w.ensures in
    let m = members-part a.part.now w.result w.ensures in
    let g : 1 ≤ size a.part.now = rw w.ensures at z.if-n-lt1.false in
    let h : size a.part.now ≤ 32 = rw w.ensures at z.if-n-gt-THREADS.false in
    let e : all (zeros (unused a.part.now)) ≡ true =
    sym (z.all_zero.ensures ∙ ap (λ (t : List ℕ). all (zeros t)) u) ∙ c.if-not-all_zero.false in
    tested a.p a.part.now a.left.now g h e m c.strike.ensures
