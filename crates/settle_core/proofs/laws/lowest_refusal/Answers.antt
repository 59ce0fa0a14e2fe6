use Rattle.settle_core.specs.Verdict.{refusals, verdict}
use Rattle.settle_core.proofs.Lowest.{refusals-numbered, first_some-among, first_some-lowest, first_some-nowhere}
use Rattle.settle_core.proofs.laws.lowest_refusal.Goals as goal

pub returns-clause-applies : goal.returns-clause-applies
unfolding verdict
returns-clause-applies c = λ q refusal first. first_some-among (refusals q) refusal first

pub returns-clause-lowest : goal.returns-clause-lowest
unfolding verdict
returns-clause-lowest c = λ q refusal other first applies. first_some-lowest 5 (refusals q) applies.0 refusal other (refusals-numbered q) first applies.1 applies.2

pub returns-clause-none : goal.returns-clause-none
unfolding verdict
returns-clause-none c = λ q refusal first applies. first_some-nowhere (refusals q) applies.0 refusal first applies.1 applies.2
