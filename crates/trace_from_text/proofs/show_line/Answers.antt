-- `trace_from_text::show_line` is safe: a line lies in its text.
use Rattle.std.proofs.Common.{◌≤◌, length, drop, arith}
use Rattle.std.proofs.lemmas.List.{length-drop}
use Rattle.text_lines.proofs.LineLaws.{line-within}
use Rattle.trace_from_text.proofs.show_line.Goals as goal

pub slice_bounds-line-end : goal.slice_bounds-line-end
slice_bounds-line-end c =
    let s = c.args.text.now in
    let p = c.lines_end-start in
    let h : c.line_end.result ≤ length s = omega (arith, p.ensures.within, c.line_end.ensures, line-within (drop p.result s), length-drop p.result s) in
    h
