-- `opening::opened_answer` meets its contract.
use Rattle.state.specs.Updates.{whole}
use Rattle.state.proofs.SoundLaws.{state-out}
use Rattle.moments.proofs.SeenLaws.{seen-held}
use Rattle.moments.proofs.AnswerLaws.{head-below, running-held, next-requires}
use mathlib.Core.Path.{ap, ◌∙◌}
use Rattle.answers.specs.declared.Answer.{Answer}
use Rattle.answers.specs.Answer.{answer_of}
use Rattle.answers.proofs.AnswerLaws.{answered-is}
use Rattle.opening.proofs.opened_answer.Goals as goal

pub head_at-h-requires : goal.head_at-h-requires
head_at-h-requires c =
    let s = whole c.args.c c.args.dues.now c.args.amounts.now in
    seen-held (λ i. s.now) s (state-out s c.requires) _ c.highest-level.ensures

pub bounds-c-from : goal.bounds-c-from
bounds-c-from c =
    let s = whole c.args.c c.args.dues.now c.args.amounts.now in
    head-below s (state-out s c.requires) _ _ _ c.highest-level.ensures c.head_at-h.ensures c.from.ensures

pub running-runs-requires : goal.running-runs-requires
running-runs-requires c =
    let s = whole c.args.c c.args.dues.now c.args.amounts.now in
    running-held s (state-out s c.requires)

pub next_moment-next-requires : goal.next_moment-next-requires
next_moment-next-requires c =
    let s = whole c.args.c c.args.dues.now c.args.amounts.now in
    next-requires s (state-out s c.requires) _ _ _ c.highest-level.ensures c.head_at-h.ensures c.from.ensures

pub returns : goal.returns
returns c =
    let s = whole c.args.c c.args.dues.now c.args.amounts.now in
    ap (λ (x : Answer). answer_of x c.args.dues.now c.args.amounts.now) c.answer_of.ensures
    ∙ answered-is 0 s c.requires _ _ _ c.highest-level.ensures c.head_at-h.ensures c.from.ensures _ _ c.running-runs.ensures c.next_moment-next.ensures
