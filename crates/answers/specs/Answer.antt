-- The answers of the code are those of the definitions.
use Rattle.std.specs.Prelude.{ℕ, List}
use Rattle.passing.specs.Sequence as sequence
use Rattle.state.specs.{declared.State.State, declared.Core.Core, Updates.whole}
use Rattle.ticks.specs.Running.{running, next}
use Rattle.answers.specs.declared.{Answer.Answer, Reply.Reply, Done.Done}

-- 01 Events 8: status, running thread, next moment, and the state: the answer's core with the slots as they then are
abbrev pub answer_of : Answer → List ℕ → List ℕ → sequence.Answer State
answer_of r dues amounts = record { status = r.status; running = r.running; next = r.next; state = whole r.core dues amounts }

-- 01 Events 8: an answer of these parts
abbrev pub parts_of : ℕ → ℕ → ℕ → Core → Answer
parts_of status running next c = record { status = status; running = running; next = next; core = c }

-- 01 Status 19: the answer that leaves a sound state, with who runs there and its next moment
abbrev pub answered : ℕ → State → sequence.Answer State
answered status s = record { status = status; running = running s; next = next s; state = s }

-- 01 Status 19 and 20: the answer that names no running thread and no next moment: for 9, and of a refused opening
abbrev pub unread : ℕ → State → sequence.Answer State
unread status s = record { status = status; running = 255; next = 0; state = s }

-- 01 Events 8: a reply is an answer without its state, which is left where it was lent
abbrev pub replied : Reply → State → sequence.Answer State
replied r s = record { status = r.status; running = r.running; next = r.next; state = s }

-- an answer taken apart
abbrev pub done_of : Answer → Done
done_of r = record { core = r.core; reply = record { status = r.status; running = r.running; next = r.next } }

abbrev pub done : Done → List ℕ → List ℕ → sequence.Answer State
done d dues amounts = replied d.reply (whole d.core dues amounts)
