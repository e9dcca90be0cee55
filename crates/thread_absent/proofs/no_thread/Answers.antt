-- `thread_absent::no_thread` meets its contract: no bit, no thread.
use Rattle.state.proofs.AbsentLaws.{no_bits}
use Rattle.thread_absent.proofs.no_thread.Goals as goal

pub returns : goal.returns
returns c = rw (c.from.ensures, c.from-2.ensures) (no_bits c.args.t c.args.count)
