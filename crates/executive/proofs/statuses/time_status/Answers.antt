-- `executive::statuses::time_status` meets its contract.
use mathlib.Core.Path.{sym}
use native.Mathlib.Omega.{arith}
use Rattle.executive.proofs.StatusLaws.{time-late, time-past, time-far, time-right}
use Rattle.executive.proofs.statuses.time_status.Goals as goal

pub returns-then-time-gt-LAST_TIME : goal.returns-then-time-gt-LAST_TIME
returns-then-time-gt-LAST_TIME c = sym (time-late c.args.now c.args.time c.if-time-gt-LAST_TIME.true)

pub returns-then-time-now : goal.returns-then-time-now
returns-then-time-now c = sym (time-past c.args.now c.args.time c.if-time-gt-LAST_TIME.false c.if-time-now.true)

pub returns-then-time-now-gt-LONGEST_STEP : goal.returns-then-time-now-gt-LONGEST_STEP
returns-then-time-now-gt-LONGEST_STEP c = sym (time-far c.args.now c.args.time c.if-time-gt-LAST_TIME.false c.if-time-now.false (omega (arith, c.if-time-now-gt-LONGEST_STEP.true, c.if-time-now.false)))

pub returns : goal.returns
returns c = sym (time-right c.args.now c.args.time c.if-time-gt-LAST_TIME.false c.if-time-now.false (omega (arith, c.if-time-now-gt-LONGEST_STEP.false, c.if-time-now.false)))
