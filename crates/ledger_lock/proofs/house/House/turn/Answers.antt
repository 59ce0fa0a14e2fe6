use Rattle.std.proofs.Common.{Some, sym, ◌∙◌, subst}
use Rattle.settle_core.specs.Crossings.{chosen, match_of, says_of}
use Rattle.settle_core.specs.Exchange.{ExchangeView}
use Rattle.settle_core.specs.Legal.{IsLegal}
use Rattle.ledger_lock.proofs.Ends.{chosen-room, stops}
use Rattle.ledger_lock.proofs.house.House.turn.Goals as goal

pub returns-in-Ok-Some-clause-room : goal.returns-in-Ok-Some-clause-room
returns-in-Ok-Some-clause-room c =
    let x = c.args.self.now in
    let says = says_of x.limits x.history c.args.now in
    let terms = c.in-Ok-Some.terms in
    let legal : IsLegal x.limits x.history
    = subst (λ (s : ExchangeView). IsLegal s.limits s.history) c.self.view_is (subst (IsLegal c.self.inside.exchange.limits) c.history-acts.ensures.value c.history-acts.ensures.legal) in
    stops (Some (chosen says terms (says (match_of terms)))) c.args.now x.history c.carry_out.new.self.history c.carry_out.result c.carry_out.ensures.turned
    (chosen-room x.limits x.history c.args.market c.args.now terms (sym c.in-Ok-Some.ensures.value ∙ c.in-Ok-Some.field-0-is)
    (λ refusal. c.turns_stop_for_room.ensures x.limits x.history c.args.market c.args.now refusal legal))
