use Rattle.book_propose.proofs.Proposed.{none-none}
use Rattle.book_propose.proofs.laws.no_pair_no_proposal.Goals as goal

pub returns : goal.returns
returns c offers = none-none offers
