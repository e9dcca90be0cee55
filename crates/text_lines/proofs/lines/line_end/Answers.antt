-- `text_lines::line_end` meets its contract: the first newline ends the line.
use Rattle.std.proofs.Common.{arith, rules, tests, drop, sym, ◌∙◌}
use Rattle.std.proofs.lemmas.Iterator.{YieldsList-from_slice}
use Rattle.std.proofs.lemmas.Iterator.Search.{position_from_yields_List}
use Rattle.std.proofs.lemmas.List.{length-drop, take_rest}
use Rattle.text_lines.proofs.LineLaws.{is_newline, line-at, line-rest}
use Rattle.text_lines.proofs.lines.line_end.Goals as goal

pub returns-in-Some : goal.returns-in-Some
returns-in-Some c =
    let s = drop c.args.place c.args.text.now in
    let p = position_from_yields_List is_newline _ _ c.position.result c.position.ensures.ran (YieldsList-from_slice s (c.iter.ensures.rest ∙ take_rest c.args.text.now c.args.place)) (λ x b q k. search (rules, tests)) in
    omega (arith, line-at s c.in-Some.passed (sym p ∙ c.in-Some.is))

pub returns-in-None : goal.returns-in-None
returns-in-None c =
    let s = drop c.args.place c.args.text.now in
    let p = position_from_yields_List is_newline _ _ c.position.result c.position.ensures.ran (YieldsList-from_slice s (c.iter.ensures.rest ∙ take_rest c.args.text.now c.args.place)) (λ x b q k. search (rules, tests)) in
    omega (arith, line-rest s (sym p ∙ c.in-None.is), length-drop c.args.place c.args.text.now)
