use Rattle.std.proofs.Common.{◌∙◌, arith}
use Rattle.settle_core.proofs.KeptLemmas.{kept-empty}
use Rattle.settle_core.proofs.Trading.{orders-empty}
use Rattle.settle_core.proofs.exchange.Exchange.new.Goals as goal

pub invariant_of-result : goal.invariant_of-result
invariant_of-result c = (
  kept-empty c.args.limits c.in_ok-new.field-0 c.in_ok-new-2.field-0 c.in_ok-new-4.field-0 c.new-5.result.items c.new-5.ensures.items (omega (arith, c.history-most.ensures.value, c.history-most.ensures.within))
      c.in_ok-new.ensures.events (c.in_ok-new.ensures.limit ∙ c.events.ensures.value)
      c.in_ok-new-2.ensures.facts c.in_ok-new-2.ensures.numerators (c.in_ok-new-2.ensures.limit ∙ c.conditions.ensures.value) c.in_ok-new-4.ensures.empty (c.in_ok-new-4.ensures.limit ∙ c.entries.ensures.value),
  orders-empty c.args.limits c.in_ok-new-3.field-0 c.new-5.result.items c.new-5.ensures.items c.in_ok-new-3.ensures.orders c.in_ok-new-3.ensures.markets c.in_ok-new-3.ensures.nonces (c.in_ok-new-3.ensures.limit ∙ c.orders.ensures.value),
)
