-- `board_replay::thawonlai_replay` meets its contract: the refusal of the file, or the last answer of its steps.
use Rattle.replay_steps.specs.FileSteps.{begun_with}
use Rattle.board_replay.proofs.ReplayLaws.{refused-is, replayed-is}
use Rattle.board_replay.proofs.thawonlai_replay.Goals as goal

pub returns-then-begun-ne0 : goal.returns-then-begun-ne0
returns-then-begun-ne0 c =
    let b = c.begin-begun in
    refused-is c.args.file.now c.args.count (begun_with b.result b.new.dues b.new.amounts) b.ensures.amounts_after c.if-begun-ne0.true

pub last_answer-requires : goal.last_answer-requires
last_answer-requires c = c.begin-begun.ensures.amounts_after_2 c.if-begun-ne0.false

pub returns : goal.returns
returns c =
    let b = c.begin-begun in
    replayed-is c.args.file.now c.args.count (begun_with b.result b.new.dues b.new.amounts) b.ensures.amounts_after _ c.if-begun-ne0.false c.last_answer.ensures.amounts_after
