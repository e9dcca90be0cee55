-- `text_lines::first_difference` meets its contract: from here on the texts differ where they differ as a whole.
use Rattle.std.proofs.Common.{◌≡◌, ◌+◌, ◌≤◌, length}
use Rattle.text_lines.specs.Lines.{first_difference}
use Rattle.text_lines.proofs.LineLaws.{differs}
use Rattle.text_lines.proofs.lines.first_difference.Given as goal

abbrev pub invariant-loop-x : goal.invariant-loop-x
invariant-loop-x l = (l.passed ≤ length l.yielded) × (differs (l.passed + 1) l.a l.b (length l.yielded) ≡ first_difference l.a l.b)
