use Rattle.settle_core.proofs.Proposed.{fits-flows, fits-orders, fits-proceeds}
use Rattle.settle_core.proofs.laws.proposal_fits.Goals as goal

pub returns-clause-orders : goal.returns-clause-orders
returns-clause-orders c = fits-orders

pub returns-clause-flows : goal.returns-clause-flows
returns-clause-flows c = fits-flows

pub returns-clause-proceeds : goal.returns-clause-proceeds
returns-clause-proceeds c = fits-proceeds
