use Rattle.std.proofs.Common.{◌≡◌, ◌<◌, ◌^◌, length, Option, Some, None, Result, Ok, Err, sym, ◌∙◌, ap, subst}
use Rattle.std.specs.Prelude.{IfOk, IfSome}
use Rattle.book_propose.specs.Proposals.{proposal}
use Rattle.book_propose.specs.declared.terms.MatchTerms.{MatchTerms}
use Rattle.settle_core.specs.Exchange.{ExchangeView}
use Rattle.settle_core.specs.Legal.{IsLegal}
use Rattle.settle_core.specs.Orders.{orders}
use Rattle.ledger_lock.specs.Turns.{AreNumbers}
use Rattle.ledger_lock.proofs.Ranges.{numbers-of}
use Rattle.ledger_lock.proofs.house.House.proposal.Goals as goal

numbers : {E : Type 0} (result : Result (Option MatchTerms) E) (given : Option MatchTerms) → ((terms : MatchTerms) → given ≡ Some terms → AreNumbers terms)
    → IfOk result (λ terms. terms ≡ given) → IfOk result (λ terms. IfSome terms AreNumbers)
numbers (Ok (Some terms)) given each is = each terms (sym is)
numbers (Ok None) given each is = tt
numbers (Err fault) given each is = tt

pub returns-clause-numbers : goal.returns-clause-numbers
returns-clause-numbers c =
    let history = c.args.self.now.history in
    let offers = c.in_ok-offers.ensures in
    let few : length (orders history) < 2 ^ 32 = subst (λ n. n < 2 ^ 32) (c.orders-orders.ensures ∙ ap (λ (s : ExchangeView). length (orders s.history)) c.self.view_is) c.orders-orders.type_inv in
    let legal : IsLegal c.args.self.now.limits history
    = subst (λ (s : ExchangeView). IsLegal s.limits s.history) c.self.view_is (subst (IsLegal c.self.inside.exchange.limits) c.history-acts.ensures.value c.history-acts.ensures.legal) in
    numbers c.propose.result (proposal c.in_ok-offers.offers)
    (λ terms some. numbers-of history c.args.now terms (c.proposal_fits.ensures.orders c.args.self.now.limits history c.args.market c.args.now terms legal (ap proposal (sym offers) ∙ some)) few)
    c.propose.ensures.value
