use Rattle.std.proofs.Common.{subst}
use Rattle.settle_core.specs.Exchange.{ExchangeView}
use Rattle.settle_core.specs.Legal.{IsLegal}
use Rattle.settle_core.proofs.exchange.Exchange.end.Goals as goal

pub returns-clause-legal : goal.returns-clause-legal
returns-clause-legal c = rw c.of.ensures (subst (λ (s : ExchangeView). IsLegal s.limits c.self.inside.history.items) c.self.view_is c.self.invariant.0.legal)
