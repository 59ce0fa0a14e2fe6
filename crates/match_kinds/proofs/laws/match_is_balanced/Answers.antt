use Rattle.match_kinds.proofs.Balance.{balanced}
use Rattle.match_kinds.proofs.laws.match_is_balanced.Goals as goal

pub returns : goal.returns
returns c value market taker makers part are_makers none = balanced value market taker makers part are_makers none
