-- Each rule has the room among the entries that it needs.
use Prim.Native.Nat.{ℕ, ◌<◌}
use mathlib.Core.Bool.{Bool, true, false}
use native.Mathlib.Omega.{arith}
use Rattle.base.proofs.TestLaws.{cond-elim, false-true}
use Rattle.records.specs.declared.Parameters.{Parameters}
use Rattle.sporadic.specs.declared.Server.{Server}
use Rattle.sporadic.specs.declared.Effect.{Effect}
use Rattle.sporadic.specs.Rules.{at_upper, scheduled, limit_effect, block_effect, wake_effect, return_effect}
use Rattle.account.specs.Rules.{Room, Schedulable}
use Rattle.sporadic.proofs.EffectLaws.{schedule-elim, at-limit-elim, limit-elim, return-elim}

-- an effect that neither takes an entry nor adds one
adds_none : (count : ℕ) → Room false 0 count
adds_none count = (λ q. false-true q, λ q h. absurd (omega arith))

module _ (now : ℕ) (p : Parameters) (s : Server) where
  pub schedule-room : (count : ℕ) → Schedulable p s count → Room (scheduled now p s).first (scheduled now p s).amount count
  schedule-room count h =
      schedule-elim now p s (λ (e : Effect). Room e.first e.amount count) (λ u. adds_none count) (λ u d. adds_none count)
      (λ u d. (λ q. false-true q, λ q v. h.1 u))

  module _ (b : Bool) where
    pub limit-room : (count : ℕ) → Schedulable p s count → Room (limit_effect now b p s).first (limit_effect now b p s).amount count
    limit-room count h =
        let R : Effect → Type 0 = λ e. Room e.first e.amount count in
        limit-elim now p s b R (adds_none count) (at-limit-elim now p s R (λ u. adds_none count) (λ u d. adds_none count) (λ u d. (λ q. false-true q, λ q v. h.1 u)))

    pub block_room : (count : ℕ) → Schedulable p s count → Room (block_effect now b p s).first (block_effect now b p s).amount count
    block_room count h = cond-elim (λ (e : Effect). Room e.first e.amount count) b _ _ (λ e. adds_none count) (λ e. schedule-room count h)

    pub wake-room : (count : ℕ) → Room (wake_effect now b p count s).first (wake_effect now b p count s).amount count
    wake-room count =
        let R : Effect → Type 0 = λ e. Room e.first e.amount count in
        cond-elim R b _ _ (λ e. cond-elim R (at_upper p s.capacity count) _ _ (λ d. adds_none count) (λ d. adds_none count)) (λ e. adds_none count)

    pub return-room : (count amount : ℕ) → Room (return_effect now b p count amount s).first (return_effect now b p count amount s).amount count
    return-room count amount =
        return-elim now p s b count amount (λ (e : Effect). Room e.first e.amount count) (λ z. adds_none count) (λ c u. takes c) (λ c u v. takes c)
      where
        takes : 0 < count → Room true 0 count
        takes c = (λ q. c, λ q v. absurd (omega arith))
