-- `text_lines::first_difference` meets its contract: from here on the texts differ where they differ as a whole.
use Rattle.std.proofs.Common.{◌≡◌, ℕ, suc, ◌+◌, ◌<◌, List, length, get_or, refl, sym, ◌∙◌, arith}
use Rattle.std.proofs.lemmas.List.{length_push}
use Rattle.std.proofs.lemmas.Slice.Zip.{zip_turn, zip_end}
use borrow.Author.Tests.{eq-eqb, ne_eqb}
use Rattle.text.specs.Fields.{newline}
use Rattle.text_lines.specs.Lines.{first_difference}
use Rattle.text_lines.proofs.LineLaws.{differs, goes_on, stops_at, is-longer, is_same}
use Rattle.text_lines.proofs.lines.first_difference.Goals as goal

pub loop-x-init : goal.loop-x-init
unfolding first_difference
loop-x-init c = (omega arith, refl)

-- one byte more
newline-on : (k : ℕ) (a b : List ℕ) (i r : ℕ) → i < length a → i < length b → get_or a i 0 ≡ get_or b i 0 → get_or a i 0 ≡ newline → differs k a b i ≡ r → differs (k + 1) a b (i + 1) ≡ r
newline-on k a b i r h g e n q =
    let z : suc k ≡ k + 1 = omega arith in
    rw z at (rw (eq-eqb (get_or a i 0) newline n) at (sym (goes_on k a b i h g e) ∙ q))

byte-on : (k : ℕ) (a b : List ℕ) (i r : ℕ) → i < length a → i < length b → get_or a i 0 ≡ get_or b i 0 → (get_or a i 0 ≡ newline → ⊥) → differs k a b i ≡ r → differs k a b (i + 1) ≡ r
byte-on k a b i r h g e n q = rw (ne_eqb (get_or a i 0) newline n) at (sym (goes_on k a b i h g e) ∙ q)

pub returns-then-x-y : goal.returns-then-x-y
returns-then-x-y c =
    let w = c.loop-x in
    let t = zip_turn c.args.a.now c.args.b.now w.yielded c.into_iter-x-iterator.result w.x-iterator c.next.new.self _ (cc) (cc) w.yielded_by _ c.in-Some.is c.next.ensures.steps in
    sym (stops_at (w.passed + 1) _ _ (length w.yielded) t.0 t.1 (λ e. c.if-x-y.true (t.2 0 ∙ e ∙ sym (t.3 0)))) ∙ w.invariant.1

pub loop-x-preserved-then-x-eq10 : goal.loop-x-preserved-then-x-eq10
loop-x-preserved-then-x-eq10 c =
    let w = c.loop-x in
    let t = zip_turn c.args.a.now c.args.b.now w.yielded c.into_iter-x-iterator.result w.x-iterator c.next.new.self _ (cc) (cc) w.yielded_by _ c.in-Some.is c.next.ensures.steps in
    let n = length_push w.yielded (c.in-Some.x, c.in-Some.y) in (
      omega arith,
      rw n (newline-on (w.passed + 1) _ _ (length w.yielded) _ t.0 t.1 (sym (t.2 0) ∙ c.if-x-y.false ∙ t.3 0) (sym (t.2 0) ∙ c.if-x-eq10.true) w.invariant.1),
    )

pub loop-x-preserved : goal.loop-x-preserved
loop-x-preserved c =
    let w = c.loop-x in
    let t = zip_turn c.args.a.now c.args.b.now w.yielded c.into_iter-x-iterator.result w.x-iterator c.next.new.self _ (cc) (cc) w.yielded_by _ c.in-Some.is c.next.ensures.steps in
    let n = length_push w.yielded (c.in-Some.x, c.in-Some.y) in (
      omega arith,
      rw n (byte-on (w.passed + 1) _ _ (length w.yielded) _ t.0 t.1 (sym (t.2 0) ∙ c.if-x-y.false ∙ t.3 0) (λ e. c.if-x-eq10.false (t.2 0 ∙ e)) w.invariant.1),
    )

pub returns-then-a-b : goal.returns-then-a-b
returns-then-a-b c =
    let w = c.loop-x in
    let e = zip_end c.args.a.now c.args.b.now w.yielded c.into_iter-x-iterator.result w.x-iterator c.next.new.self _ (cc) (cc) w.yielded_by c.in-None.is c.next.ensures.steps in
    sym (is_same (w.passed + 1) _ _ (length w.yielded) (omega arith) (omega arith)) ∙ w.invariant.1

pub returns-else-a-b : goal.returns-else-a-b
returns-else-a-b c =
    let w = c.loop-x in
    let e = zip_end c.args.a.now c.args.b.now w.yielded c.into_iter-x-iterator.result w.x-iterator c.next.new.self _ (cc) (cc) w.yielded_by c.in-None.is c.next.ensures.steps in
    sym (is-longer (w.passed + 1) _ _ (length w.yielded) e c.if-a-b.false) ∙ w.invariant.1
