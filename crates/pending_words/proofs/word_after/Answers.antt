-- `pending_words::word_after` meets its contract: the bit of the thread is set, and taken off again where nothing is pending.
use borrow.Author.Rules.{rules}
use Rattle.due_search.proofs.SearchLaws.{word-with, word-without}
use Rattle.pending_words.proofs.word_after.Goals as goal

pub returns-then-count-eq0 : goal.returns-then-count-eq0
returns-then-count-eq0 c = let a = c.args in rw c.bit_of-bit.ensures (word-without a.word a.i a.count c.if-count-eq0.true)

pub returns : goal.returns
returns c = let a = c.args in rw c.bit_of-bit.ensures (word-with a.word a.i a.count c.if-count-eq0.false)
