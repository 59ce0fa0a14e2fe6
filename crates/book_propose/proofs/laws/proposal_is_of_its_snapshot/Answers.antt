use Rattle.book_propose.proofs.Proposed.{proposed}
use Rattle.book_propose.proofs.laws.proposal_is_of_its_snapshot.Goals as goal

pub returns : goal.returns
returns c offers terms snapshot some = proposed offers terms snapshot some
