-- `text_lines::lines_end` meets its contract: the lines passed and those that are left are all.
use Rattle.std.proofs.Common.{◌≡◌, ◌+◌, ◌-◌, ◌≤◌, length, drop}
use Rattle.text_lines.specs.Lines.{lines_length}
use Rattle.text_lines.proofs.lines.lines_end.Given as goal

abbrev pub invariant-loop-line : goal.invariant-loop-line
invariant-loop-line l = (l.place ≤ length l.text) × (l.place + lines_length (l.lines - l._line) (drop l.place l.text) ≡ lines_length l.lines l.text)
