-- What an account's rule does to the state.
use Rattle.std.specs.Prelude.{ℕ, List}
use Rattle.records.specs.declared.Parameters.{Parameters}
use Rattle.sporadic.specs.declared.{Place.Place, Place.TheVariants.Stays, Place.TheVariants.Low, Place.TheVariants.LowThenUpper, Place.TheVariants.Upper, Effect.Effect}
use Rattle.account.specs.Rules.{applied}
use Rattle.ready.specs.Lists.{moved}
use Rattle.state.specs.{declared.State.State, State.thread_at, State.account_at, Updates.with_lists, Updates.with_account}

-- where an account's rule sends a runnable thread: Low and Upper are the tails of its two lists
abbrev pub sent_to : Place → ℕ → Parameters → List ℕ → List ℕ
sent_to Stays i p l = l
sent_to Low i p l = moved i p.priority p.low l
sent_to LowThenUpper i p l = moved i p.low p.priority (moved i p.priority p.low l)
sent_to Upper i p l = moved i p.low p.priority l

-- what an account's rule does to thread i: its account, and its place in the lists
abbrev pub with_effect : ℕ → Effect → State → State
with_effect i e s = with_lists (sent_to e.place i (thread_at s i).parameters s.lists) (with_account i (thread_at s i) (applied e (account_at s i)) s)
