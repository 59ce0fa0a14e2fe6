use Rattle.coverage_law.proofs.Worths.{redeemed-worth}
use Rattle.coverage_law.proofs.laws.redemption_loses_the_floor_alone.Goals as goal

pub returns : goal.returns
returns c = redeemed-worth
