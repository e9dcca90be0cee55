-- The states that the functions of a change and of an opening make are those that the definitions say.
use Prim.Native.Nat.{ℕ}
use mathlib.Core.Path.{◌≡◌}
use mathlib.Core.List.{List}
use lib.ListN as lists
use Rattle.account.specs.declared.Account.{Account}
use Rattle.ready.specs.Word.{occupancy}
use Rattle.thread.specs.declared.Thread.{Thread}
use Rattle.state.specs.declared.State.{State}
use Rattle.rows.specs.Rows.{with_slots}
use Rattle.state.specs.Updates.{with_lists, with_account, state_of}
use Rattle.thread.specs.Thread.{with_server}

module _ (s : State) where
  -- another thread and account at place i
  pub put_is : (i : ℕ) (t : Thread) (a : Account) (u : Thread) (d m : List ℕ) → u ≡ with_server a.server t
      → d ≡ with_slots i a.pending.dues s.dues → m ≡ with_slots i a.pending.amounts s.amounts
      → (state_of s.header s.now s.idle s.word (lists.set s.threads i u) (lists.set s.counts i a.pending.count) d m s.lists)
      ≡ with_account i t a s
  put_is i t a u d m e f g =
      λ x. state_of s.header s.now s.idle s.word (lists.set s.threads i (e x)) (lists.set s.counts i a.pending.count) (f x) (g x) s.lists

  -- other lists, and the word that goes with them
  pub lists-are : (l k : List ℕ) (w : ℕ) → l ≡ k → w ≡ occupancy k
      → (state_of s.header s.now s.idle w s.threads s.counts s.dues s.amounts l)
      ≡ with_lists k s
  lists-are l k w e f =
      λ x. state_of s.header s.now s.idle (f x) s.threads s.counts s.dues s.amounts (e x)
