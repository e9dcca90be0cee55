-- Every share of a sound state has a text.
use Prim.Native.Nat.{ℕ, zero, suc, ◌≤◌, ◌<◌}
use mathlib.Core.Bool.{true}
use mathlib.Core.Path.{◌≡◌, refl, subst⁻¹}
use native.Mathlib.Omega.{arith}
use native.Mathlib.Decide.{ℕ_discrete}
use Rattle.state.specs.declared.State.{State}
use Rattle.state.specs.Sound.{sound_state}
use Rattle.decimals.specs.Decimals.{Shown, nothing, something}
use Rattle.shares.specs.declared.Share.{Share}
use Rattle.quotient.specs.Quotient.{quotient}
use Rattle.quotient.proofs.QuotientLaws.{quotient-zero}
use Rattle.shares.specs.Shares.{elapsed, total_at, share_of}
use Rattle.shares.proofs.ShareLaws.{in-range, share-none, share-is}
use Rattle.share_summary.specs.declared.Summarized.{Summarized}
use Rattle.share_summary.specs.Summaries.{most_of, least_of, summarized_of}
use Rattle.share_summary.proofs.SummaryLaws.{summary-none, summary-is}
use Rattle.share_lines.specs.Bounds.{ShownShare, ShownSummary}
use Rattle.share_lines.proofs.BoundLaws.{quotient-bounds}

-- the share of a total that is no larger than the elapsed time
pub shown-quotient : (t e : ℕ) → 0 < e → t ≤ e → e ≤ 1000000000000000 → Shown (quotient t e)
shown-quotient zero e p h l = nothing (quotient-zero e p l)
shown-quotient (suc t) e p h l = something (quotient-bounds (suc t) e (omega arith) h l)

above-0 : (n : ℕ) → (n ≡ 0 → ⊥) → 0 < n
above-0 zero d = absurd (d refl)
above-0 (suc n) d = omega arith

module _ (s : State) (e : sound_state s ≡ true) where
  thread-shown : (i : ℕ) → (elapsed s ≡ 0 → ⊥) → Shown (quotient (total_at s.threads i) (elapsed s))
  thread-shown i d = let r = in-range s i e in shown-quotient (total_at s.threads i) (elapsed s) (above-0 (elapsed s) d) r.0 r.1

  share-shown : (i : ℕ) → i < s.header.n → ShownShare (share_of s i)
  share-shown i h = go (ℕ_discrete (elapsed s) 0)
    where
      go : Dec (elapsed s ≡ 0) → ShownShare (share_of s i)
      go (yes z) = subst⁻¹ ShownShare (share-none s i e h z) tt
      go (no d) = subst⁻¹ ShownShare (share-is s i e h d) (thread-shown i d)

  summary-shown : ShownSummary (summarized_of s)
  summary-shown = go (ℕ_discrete (elapsed s) 0)
    where
      go : Dec (elapsed s ≡ 0) → ShownSummary (summarized_of s)
      go (yes z) = subst⁻¹ ShownSummary (summary-none s e z) tt
      go (no d) = subst⁻¹ ShownSummary (summary-is s e d) (thread-shown (most_of s.threads s.header.n) d, thread-shown (least_of s.threads s.header.n) d)

  -- the same of what is equal to them
  pub share-shown-as : (i : ℕ) → i < s.header.n → (x : Share) → x ≡ share_of s i → ShownShare x
  share-shown-as i h x z = subst⁻¹ ShownShare z (share-shown i h)

  pub summary-shown-as : (x : Summarized) → x ≡ summarized_of s → ShownSummary x
  summary-shown-as x z = subst⁻¹ ShownSummary z summary-shown
