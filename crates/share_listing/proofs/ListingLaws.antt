-- The lines of a file as the code puts them.
use Prim.Native.Nat.{ℕ}
use mathlib.Core.List.{List}
use mathlib.Core.Path.{◌≡◌, sym, ap, ◌∙◌, subst, subst⁻¹}
use lib.Dec.{eqb}
use borrow.Author.Tests.{eq-eqb, ne_eqb}
use Rattle.base.proofs.TestLaws.{cond-true, cond-false}
use Rattle.text.specs.Placed.{Put}
use Rattle.state.specs.declared.State.{State}
use Rattle.trace_records.specs.Layout.{most_events}
use Rattle.replay_steps.specs.FileSteps.{Beginning, begun_of, closing, end_from}
use Rattle.replay_steps.proofs.FileLaws.{steps-answer-all}
use Rattle.listing.specs.Lines.{refused_line}
use Rattle.share_lines.specs.Lines.{shares_in}
use Rattle.share_listing.specs.ShareListing.{share_listing}

replayed : (file : List ℕ) → (begun_of file).status ≡ 0 → share_listing file ≡ shares_in (closing file)
unfolding share_listing
replayed file z = cond-true (eqb (begun_of file).status 0) (shares_in (closing file)) (refused_line (begun_of file).status) (eq-eqb (begun_of file).status 0 z)

refused : (file : List ℕ) → ((begun_of file).status ≡ 0 → ⊥) → share_listing file ≡ refused_line (begun_of file).status
unfolding share_listing
refused file n = cond-false (eqb (begun_of file).status 0) (shares_in (closing file)) (refused_line (begun_of file).status) (ne_eqb (begun_of file).status 0 n)

-- the line of a refusal is that of a file that was refused
module _ {o o₁ : List ℕ} {r : ℕ} (file : List ℕ) where
  pub refusal-put : (b : Beginning) → b ≡ begun_of file → (b.status ≡ 0 → ⊥) → Put o 0 (refused_line b.status) o₁ r → Put o 0 (share_listing file) o₁ r
  refusal-put b e n p =
      subst (λ (v : List ℕ). Put o 0 v o₁ r)
      (ap (λ (x : Beginning). refused_line x.status) e ∙ sym (refused file (λ z. n (ap (λ (x : Beginning). x.status) e ∙ z)))) p

  -- the lines of the last state are those of any other
  last-put : (begun_of file).status ≡ 0 → (s : State) → s ≡ end_from (begun_of file).answer.state file (begun_of file).offset most_events → Put o 0 (shares_in s) o₁ r → Put o 0 (share_listing file) o₁ r
  unfolding begun_of
  last-put z s e p =
      subst (λ (v : List ℕ). Put o 0 v o₁ r) (ap shares_in (e ∙ (steps-answer-all file z).1) ∙ sym (replayed file z)) p

  pub shares-put : (b : Beginning) → b ≡ begun_of file → b.status ≡ 0 → (s : State) → s ≡ end_from b.answer.state file b.offset most_events → Put o 0 (shares_in s) o₁ r → Put o 0 (share_listing file) o₁ r
  shares-put b e =
      subst⁻¹ (λ (x : Beginning). x.status ≡ 0 → (s : State) → s ≡ end_from x.answer.state file x.offset most_events → Put o 0 (shares_in s) o₁ r → Put o 0 (share_listing file) o₁ r) e last-put
