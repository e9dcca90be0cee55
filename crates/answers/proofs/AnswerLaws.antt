-- The running thread and the next moment that the code finds are those of the answer.
use Prim.Native.Nat.{ℕ}
use mathlib.Core.Bool.{true, cond}
use mathlib.Core.Path.{◌≡◌, refl, ◌∙◌}
use mathlib.Core.List.{List}
use lib.Dec.{eqb}
use Rattle.ready.specs.Lists.{head_of}
use Rattle.passing.specs.Sequence as sequence
use Rattle.state.specs.declared.State.{State}
use Rattle.state.specs.State.{thread_at}
use Rattle.state.specs.Sound.{sound_state}
use Rattle.state.proofs.SoundLaws.{state-out}
use Rattle.ticks.specs.Running.{level, running, earlier, limit_of}
use Rattle.due_search.specs.Search.{next_due}
use Rattle.moments.proofs.AnswerLaws.{next-is}
use Rattle.answers.specs.declared.Answer.{Answer}
use Rattle.answers.specs.Answer.{answered, answer_of, done, done_of}

-- the highest list p, its head h, and thread i of that number
pub answered-is : (status : ℕ) (s : State) → sound_state s ≡ true → (p h i : ℕ) → p ≡ level s → h ≡ cond (eqb p 0) 0 (head_of p s.lists) → i ≡ h
    → (r m : ℕ) → r ≡ running s → m ≡ earlier (cond (eqb p 0) 0 (limit_of s.now p (thread_at s i))) (next_due s.counts s.dues s.header.n).due
    → ◌≡◌ {A = sequence.Answer State} (record { status = status; running = r; next = m; state = s }) (answered status s)
answered-is status s a p h i e f g r m runs moment =
    let later = moment ∙ next-is s (state-out s a) p h i e f g in
    λ x. record { status = status; running = runs x; next = later x; state = s }

-- an answer taken apart, with the slots as they then are, is the answer
pub done-is : (r : Answer) (dues amounts : List ℕ) → done (done_of r) dues amounts ≡ answer_of r dues amounts
done-is r dues amounts = refl
