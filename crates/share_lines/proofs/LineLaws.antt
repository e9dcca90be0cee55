-- How long a line's numbers can be, and lines that are put one after another.
use Prim.Native.Nat.{ℕ, ◌+◌, ◌≤◌}
use mathlib.Core.List.{List, [], ◌∷◌, ◌++◌}
use mathlib.Core.Path.{◌≡◌, refl, sym, subst, subst⁻¹}
use native.Mathlib.Omega.{arith}
use lib.ListN.{length, length-append}
use mir.Val.{Fits}
use mir.Syntax.{w64}
use lib.Ieee as Ieee
use Rattle.text.specs.Placed.{Put}
use Rattle.text.specs.Fields.{field, space, newline}
use Rattle.text.proofs.FieldLaws.{long-length}
use Rattle.text.proofs.PlacedLaws.{nothing, after}
use Rattle.trace.specs.Lists.{joined}
use Rattle.trace.proofs.RunLaws.{joined-next}
use Rattle.state.specs.declared.State.{State}
use Rattle.shares.specs.declared.Share.{Share}
use Rattle.shares.specs.declared.Share.TheVariants as share
use Rattle.shares.specs.Shares.{elapsed, total_at, share_of}
use Rattle.share_summary.specs.declared.Summarized.{Summarized}
use Rattle.share_summary.specs.declared.Summarized.TheVariants as summarized
use Rattle.share_summary.specs.declared.Summary.{Summary}
use Rattle.share_summary.specs.Summaries.{summarized_of}
use Rattle.share_lines.specs.Lines.{share_word, none_word, share_text, share_line, share_lines, summary_lines, shares_in}
use Rattle.share_lines.specs.Bounds.{numbers_most, ShownShare, ShownSummary}

pub numbers-most : {i total ticks : ℕ} → Fits w64 i → Fits w64 total → Fits w64 ticks
    → length (share_word ++ field i space ++ field total space ++ field ticks space) ≤ numbers_most
numbers-most {i} {total} {ticks} a b c =
    omega (
      arith,
      length-append (share_word ++ field i space ++ field total space) (field ticks space),
      length-append (share_word ++ field i space) (field total space),
      length-append share_word (field i space),
      long-length space a,
      long-length space b,
      long-length space c,
    )

-- the end of an equal share's line, and the lines of an equal summary
module _ {o o' : List ℕ} {at r : ℕ} where
  pub same_end : {x y : Share} → x ≡ y → Put o at (share_text y ++ (newline ∷ [])) o' r → Put o at (share_text x ++ (newline ∷ [])) o' r
  same_end e p = subst⁻¹ (λ (z : Share). Put o at (share_text z ++ (newline ∷ [])) o' r) e p

  pub same-summary : {x y : Summarized} → x ≡ y → Put o at (summary_lines y) o' r → Put o at (summary_lines x) o' r
  same-summary e p = subst⁻¹ (λ (z : Summarized). Put o at (summary_lines z) o' r) e p

  -- what has a text and is no share is that there is none
  pub none_end : (x : Share) → ((y : Ieee.Float) → x ≡ share.Of y → ⊥) → ShownShare x
      → Put o at (none_word ++ (newline ∷ [])) o' r → Put o at (share_text x ++ (newline ∷ [])) o' r
  none_end (share.Of x) k h p = absurd (k x refl)
  none_end share.NoTime k h p = p
  none_end (share.Refused n) k h p = absurd h

pub no_lines : (o : List ℕ) (at : ℕ) (x : Summarized) → ((y : Summary) → x ≡ summarized.Of y → ⊥) → ShownSummary x → Put o at (summary_lines x) o at
unfolding summary_lines
no_lines o at (summarized.Of s) k h = absurd (k s refl)
no_lines o at summarized.NoTime k h = nothing o at
no_lines o at (summarized.Refused n) k h = absurd h

-- no thread's line, and one more
pub lines_none : (s : State) (o : List ℕ) (at : ℕ) → Put o at (share_lines s 0) o at
unfolding share_lines joined
lines_none s o at = nothing o at

pub lines_next : {o out out₂ : List ℕ} {at here next : ℕ} (s : State) (i : ℕ) (x : Share) → here ≤ length o → Put o at (share_lines s i) out here
    → x ≡ share_of s i → Put out here (share_line i (total_at s.threads i) (elapsed s) x) out₂ next
    → Put o at (share_lines s (i + 1)) out₂ next
unfolding share_lines
lines_next {o} {out} {out₂} {at} {here} {next} s i x h p e q =
    subst⁻¹ (λ (v : List ℕ). Put o at v out₂ next)
    (joined-next (λ (j : ℕ). share_line j (total_at s.threads j) (elapsed s) (share_of s j)) i)
    (after h p (subst (λ (y : Share). Put out here (share_line i (total_at s.threads i) (elapsed s) y) out₂ next) e q))

-- the threads' lines and the summary's are all
pub shares-after : {o out out₂ : List ℕ} {at here next : ℕ} (s : State) (x : Summarized) → here ≤ length o → Put o at (share_lines s s.header.n) out here
    → x ≡ summarized_of s → Put out here (summary_lines x) out₂ next → Put o at (shares_in s) out₂ next
unfolding shares_in
shares-after s x h p e q = after h p (same-summary (sym e) q)
