-- `next_due::next_due` meets its contract: the threads from n on are taken off the word, as if they had nothing pending, and no due is
-- before 0.
use mathlib.Core.Path.{◌∙◌}
use lib.ListN.{take}
use native.Mathlib.Omega.{arith}
use borrow.Author.Rules.{rules}
use Rattle.due_search.specs.Word.{PendingWord}
use Rattle.due_search.proofs.SearchLaws.{below_word, below-due}
use Rattle.next_due.proofs.next_due.Goals as goal

pub returns : goal.returns
returns c =
    let w = c in
    let b = w in
    let a = b.args in
    let p : PendingWord (take a.n a.counts.now) c.below.result =
    rw c.below.ensures (below_word a.counts.now a.n w.pending_word.result w.pending_word.ensures) in
    c.next_in_word.ensures (take a.n a.counts.now) p (λ i l k. omega arith) ∙ below-due a.counts.now a.n a.dues.now (omega (arith, b.requires))
