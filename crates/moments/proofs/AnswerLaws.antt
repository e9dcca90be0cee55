-- What `head_at`, `running` and `next_moment` require and answer in a sound state.
use Prim.Native.Nat.{ℕ, ◌+◌, ◌≤◌, ◌<◌, ◌^◌}
use mathlib.Core.Bool.{false, cond}
use mathlib.Core.Path.{◌≡◌, refl}
use native.Mathlib.Omega.{arith}
use lib.Dec.{eqb}
use Rattle.base.proofs.TestLaws.{tests}
use Rattle.ready.specs.Lists.{head_of}
use Rattle.ready.specs.Word.{highest_of}
use Rattle.ready.specs.Rules.{Held}
use Rattle.state.specs.declared.State.{State}
use Rattle.state.specs.State.{thread_at}
use Rattle.state.proofs.SoundLaws.{Sound}
use Rattle.ticks.specs.Running.{level, running, earlier, limit_of, next}
use Rattle.due_search.specs.Search.{next_due}
use Rattle.moments.proofs.TurnLaws.{first_of}
use Rattle.moments.proofs.SeenLaws.{seen-held, top_small, thread-fits, seen_next}

module _ (s : State) (a : Sound s) where
  pub running-held : eqb (highest_of s.word) 0 ≡ false → Held (highest_of s.word) s.lists
  running-held = seen-held (λ i. s.now) s a (highest_of s.word) refl

  pub running-is : cond (eqb (highest_of s.word) 0) 255 (head_of (highest_of s.word) s.lists) ≡ running s
  running-is = refl

  -- the highest list p, its head h, and thread i of that number
  module _ (p h i : ℕ) (e : p ≡ level s) (f : h ≡ cond (eqb p 0) 0 (head_of p s.lists)) (g : i ≡ h) where
    pub head-held : eqb p 0 ≡ false → Held p s.lists
    head-held = seen-held (λ i. s.now) s a p e

    pub head-below : i < 32
    head-below = omega (arith, top_small (λ i. s.now) s a p h e f)

    pub next-requires : (s.header.n ≤ 32) × (s.now + (thread_at s i).left < 2 ^ 64) × (s.now + (thread_at s i).server.capacity < 2 ^ 64)
    next-requires =
        let y = thread-fits (λ i. s.now) s a i head-below in
        (omega (tests, a.sizes), omega (tests, a.sizes, y.left), omega (tests, a.sizes, y.server))

    pub next-is : earlier (cond (eqb p 0) 0 (limit_of s.now p (thread_at s i))) (next_due s.counts s.dues s.header.n).due ≡ next s
    next-is =
        seen_next (λ i. s.now) s a (first_of s) p h i (cond (eqb p 0) 0 (limit_of s.now p (thread_at s i)))
        (earlier (cond (eqb p 0) 0 (limit_of s.now p (thread_at s i))) (first_of s).due)
        (record { first = refl; list = e; top = f; at = g; limit = refl; moment = refl })
