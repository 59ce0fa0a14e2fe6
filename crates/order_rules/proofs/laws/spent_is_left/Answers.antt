use Rattle.order_rules.proofs.Spending.{spent-le_left}
use Rattle.order_rules.proofs.laws.spent_is_left.Goals as goal

pub returns : goal.returns
returns c = λ kind maker left rest fitted making taking some. spent-le_left kind maker left rest fitted some
