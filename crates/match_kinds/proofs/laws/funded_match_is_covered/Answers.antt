use Rattle.match_kinds.proofs.Covered.{match-covered}
use Rattle.match_kinds.proofs.laws.funded_match_is_covered.Goals as goal

pub returns : goal.returns
returns c held market taker makers are_makers none = match-covered held market taker makers are_makers none
