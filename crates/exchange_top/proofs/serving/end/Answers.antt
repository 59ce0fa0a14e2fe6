use Rattle.std.proofs.Common.{subst}
use Rattle.settle_core.specs.Exchange.{ExchangeView}
use Rattle.settle_core.specs.Legal.{IsLegal}
use Rattle.exchange_top.proofs.serving.end.Goals as goal

pub returns-clause-legal : goal.returns-clause-legal
returns-clause-legal g c =
    subst (λ (s : ExchangeView). IsLegal s.limits s.history) c.exchange.ensures (subst (IsLegal c.exchange.result.now.limits) c.history.ensures.value c.history.ensures.legal)
