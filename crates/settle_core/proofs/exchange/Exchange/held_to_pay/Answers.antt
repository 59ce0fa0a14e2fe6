use Rattle.std.proofs.Common.{ap, sym, ◌∙◌}
use Rattle.collection_keys.specs.Collections.{Pairs}
use Rattle.ledger_book.specs.Ledger.{amount_at}
use Rattle.match_kinds.specs.Matching.{paid_asset}
use Rattle.match_kinds.specs.declared.part.Part.{Part}
use Rattle.settle_core.specs.Exchange.{ExchangeView}
use Rattle.settle_core.specs.OrderRules.{paid_by}
use Rattle.settle_core.specs.Postings.{balance}
use Rattle.settle_core.proofs.KeptLemmas.{kept-balance}
use Rattle.settle_core.proofs.exchange.Exchange.held_to_pay.Goals as goal

pub returns : goal.returns
returns c =
    let e = c.self.inside in
    let order = c.args.order.now in
    c.balance.ensures.value
    ∙ ap (λ (k : Pairs). amount_at e.ledger order.account k) (c.paid_asset.ensures ∙ ap (λ (p : Part). paid_asset order.market p) c.part_of-part.ensures)
    ∙ sym (kept-balance e.limits e.events e.conditions e.ledger e.history.items c.self.invariant.0 order.account (paid_by order))
    ∙ ap (λ (s : ExchangeView). balance s.history order.account (paid_by order)) c.self.view_is
