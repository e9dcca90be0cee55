-- Lines that are put one after another, and the lines of a file.
use Prim.Native.Nat.{ℕ, ◌+◌, ◌≤◌}
use mathlib.Core.List.{List, ◌++◌}
use mathlib.Core.Path.{◌≡◌, sym, ap, ◌∙◌, subst, subst⁻¹}
use native.Mathlib.Omega.{arith}
use lib.ListN.{length, length-append, get_or}
use lib.Dec.{eqb}
use mir.Val.{Fits}
use mir.Syntax.{w64}
use borrow.Author.Tests.{eq-eqb, ne_eqb}
use Rattle.base.proofs.TestLaws.{cond-true, cond-false}
use Rattle.records.specs.declared.Parameters.{Parameters}
use Rattle.records.specs.Ranges.{no_parameters}
use Rattle.text.specs.Placed.{Put}
use Rattle.text.specs.Fields.{field, space, newline}
use Rattle.text.proofs.FieldLaws.{long-length}
use Rattle.text.proofs.PlacedLaws.{nothing, after}
use Rattle.trace.specs.Lists.{joined}
use Rattle.trace.proofs.RunLaws.{joined-next}
use Rattle.trace_contents.specs.declared.Contents.{Contents}
use Rattle.trace_contents.specs.Read.{contents_of}
use Rattle.replay_steps.specs.FileSteps.{begun_of}
use Rattle.listing.specs.Lines.{thread_word, refused_line}
use Rattle.bound.specs.declared.Most.{Most}
use Rattle.bound.specs.Most.{most_of}
use Rattle.bound_listing.specs.BoundListing.{bound_line, bound_lines, bound_listing, line_most}

pub numbers-length : {i most ticks : ℕ} → Fits w64 i → Fits w64 most → Fits w64 ticks
    → length (thread_word ++ field i space ++ field most space ++ field ticks newline) ≤ line_most
numbers-length {i} {most} {ticks} a b c =
    omega (
      arith,
      length-append (thread_word ++ field i space ++ field most space) (field ticks newline),
      length-append (thread_word ++ field i space) (field most space),
      length-append thread_word (field i space),
      long-length space a,
      long-length space b,
      long-length newline c,
    )

-- the line of a thread that is not sporadic, and of one that is
module _ {o : List ℕ} {at : ℕ} (i : ℕ) (p : Parameters) (ticks : ℕ) where
  pub no_line : (p.policy ≡ 2 → ⊥) → Put o at (bound_line i p ticks) o at
  unfolding bound_line
  no_line d = subst⁻¹ (λ (v : List ℕ). Put o at v o at) (cond-false (eqb p.policy 2) _ _ (ne_eqb p.policy 2 d)) (nothing o at)

  pub a-line : {o' : List ℕ} {r : ℕ} → p.policy ≡ 2 → (m : Most) → m ≡ most_of p ticks → Put o at (thread_word ++ field i space ++ field m.ticks space ++ field ticks newline) o' r
      → Put o at (bound_line i p ticks) o' r
  unfolding bound_line
  a-line {o'} {r} e m z q =
      subst⁻¹ (λ (v : List ℕ). Put o at v o' r) (cond-true (eqb p.policy 2) _ _ (eq-eqb p.policy 2 e))
      (subst (λ (x : Most). Put o at (thread_word ++ field i space ++ field x.ticks space ++ field ticks newline) o' r) z q)

-- those of the first n places of a table: none, and one more
abbrev pub lines : List Parameters → ℕ → ℕ → List ℕ
lines table ticks n = joined (λ i. bound_line i (get_or table i no_parameters) ticks) n

pub lines_none : (table : List Parameters) (ticks : ℕ) (o : List ℕ) → Put o 0 (lines table ticks 0) o 0
unfolding joined
lines_none table ticks o = nothing o 0

pub lines_next : {o out out₂ : List ℕ} {here next : ℕ} (table : List Parameters) (ticks i : ℕ) → here ≤ length o → Put o 0 (lines table ticks i) out here
    → Put out here (bound_line i (get_or table i no_parameters) ticks) out₂ next → Put o 0 (lines table ticks (i + 1)) out₂ next
lines_next {o} {out} {out₂} {here} {next} table ticks i h p q =
    subst⁻¹ (λ (v : List ℕ). Put o 0 v out₂ next) (joined-next (λ (j : ℕ). bound_line j (get_or table j no_parameters) ticks) i) (after h p q)

-- the line of a refusal, or the lines of the table, are those of the file
module _ {o o₁ : List ℕ} {r : ℕ} (file : List ℕ) (ticks : ℕ) where
  pub refusal-put : (status : ℕ) → status ≡ (begun_of file).status → (status ≡ 0 → ⊥) → Put o 0 (refused_line status) o₁ r → Put o 0 (bound_listing file ticks) o₁ r
  unfolding bound_listing
  refusal-put status e d p =
      subst (λ (v : List ℕ). Put o 0 v o₁ r)
      (ap refused_line e ∙ sym (cond-false (eqb (begun_of file).status 0) _ _ (ne_eqb (begun_of file).status 0 (λ z. d (e ∙ z))))) p

  pub lines-put : (status : ℕ) → status ≡ (begun_of file).status → status ≡ 0 → (c : Contents) → c ≡ contents_of file → Put o 0 (bound_lines c.table ticks) o₁ r
      → Put o 0 (bound_listing file ticks) o₁ r
  unfolding bound_listing
  lines-put status e z c f p =
      subst (λ (v : List ℕ). Put o 0 v o₁ r)
      (ap (λ (x : Contents). bound_lines x.table ticks) f ∙ sym (cond-true (eqb (begun_of file).status 0) _ _ (eq-eqb (begun_of file).status 0 (sym e ∙ z)))) p
