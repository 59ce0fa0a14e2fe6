use Rattle.coverage_law.proofs.Worths.{answered-worth}
use Rattle.coverage_law.proofs.laws.answered_question_is_paid_exactly.Goals as goal

pub returns : goal.returns
returns c = answered-worth
