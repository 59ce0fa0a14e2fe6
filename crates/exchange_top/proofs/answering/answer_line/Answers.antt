use Rattle.line_link.specs.Lines.{kept}
use Rattle.exchange_top.proofs.Turns.{line-step}
use Rattle.exchange_top.proofs.answering.answer_line.Goals as goal

pub returns-in-Whole-clause-front : goal.returns-in-Whole-clause-front
returns-in-Whole-clause-front c =
    (line-step c.args.house.now.limits c.args.house.now.history c.answer_text.new.house.history (kept c.args.text.now) c.args.now c.answer_text.result c.answer_text.ensures.answered).step
