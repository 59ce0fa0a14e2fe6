use Rattle.std.proofs.Common.{subst}
use Rattle.settle_core.specs.Exchange.{ExchangeView}
use Rattle.settle_core.specs.Legal.{IsLegal}
use Rattle.settle_core.proofs.Histories.{legal-acts}
use Rattle.settle_core.proofs.exchange.Exchange.history.Goals as goal

pub returns-clause-legal : goal.returns-clause-legal
returns-clause-legal c = rw c.as_slice.ensures.value (subst (λ (s : ExchangeView). IsLegal s.limits c.self.inside.history.items) c.self.view_is c.self.invariant.0.legal)

pub returns-clause-acts : goal.returns-clause-acts
returns-clause-acts c = rw c.as_slice.ensures.value (legal-acts c.self.inside.limits c.self.inside.history.items c.self.invariant.0.legal)
