use Rattle.settle_core.proofs.KeptLemmas.{kept-same, hold-same}
use Rattle.settle_core.proofs.Trading.{orders-same}
use Rattle.std.proofs.Common.{refl}
use Rattle.settle_core.proofs.exchange.Exchange.plan.Goals as goal

pub invariant_of-self-in_err-reserve-2 : goal.invariant_of-self-in_err-reserve-2
invariant_of-self-in_err-reserve-2 c =
    let e = c.self.inside in
    let same = c.in_err-reserve-2.ensures in (
      kept-same e.limits e.events c.reserve-2.new.events e.conditions c.reserve-2.new.conditions e.ledger e.ledger e.history.items c.reserve.new.self.items c.self.invariant.0 same.events same.events_limit same.facts same.numerators same.limit (hold-same e.ledger) c.in_ok-reserve.ensures.items,
      orders-same e.limits e.orders e.orders e.history.items c.reserve.new.self.items c.self.invariant.1 refl refl refl refl c.in_ok-reserve.ensures.items,
    )

pub invariant_of-self-in_err-reserve-3 : goal.invariant_of-self-in_err-reserve-3
invariant_of-self-in_err-reserve-3 c =
    let e = c.self.inside in
    let same = c.in_ok-reserve-2.ensures in
    let traded = c.in_err-reserve-3.ensures in (
      kept-same e.limits e.events c.reserve-2.new.events e.conditions c.reserve-2.new.conditions e.ledger e.ledger e.history.items c.reserve.new.self.items c.self.invariant.0 same.events same.events_limit same.facts same.numerators same.limit (hold-same e.ledger) c.in_ok-reserve.ensures.items,
      orders-same e.limits e.orders c.reserve-3.new.self e.history.items c.reserve.new.self.items c.self.invariant.1 traded.orders traded.markets traded.nonces traded.limit c.in_ok-reserve.ensures.items,
    )

pub invariant_of-self-in_err-reserve-4 : goal.invariant_of-self-in_err-reserve-4
invariant_of-self-in_err-reserve-4 c =
    let e = c.self.inside in
    let same = c.in_ok-reserve-2.ensures in
    let traded = c.in_ok-reserve-3.ensures in (
      kept-same e.limits e.events c.reserve-2.new.events e.conditions c.reserve-2.new.conditions e.ledger c.reserve-4.new.self e.history.items c.reserve.new.self.items c.self.invariant.0 same.events same.events_limit same.facts same.numerators same.limit c.in_err-reserve-4.ensures.same c.in_ok-reserve.ensures.items,
      orders-same e.limits e.orders c.reserve-3.new.self e.history.items c.reserve.new.self.items c.self.invariant.1 traded.orders traded.markets traded.nonces traded.limit c.in_ok-reserve.ensures.items,
    )

pub invariant_of-self-2 : goal.invariant_of-self-2
invariant_of-self-2 c =
    let e = c.self.inside in
    let same = c.in_ok-reserve-2.ensures in
    let traded = c.in_ok-reserve-3.ensures in (
      kept-same e.limits e.events c.reserve-2.new.events e.conditions c.reserve-2.new.conditions e.ledger c.reserve-4.new.self e.history.items c.reserve.new.self.items c.self.invariant.0 same.events same.events_limit same.facts same.numerators same.limit c.in_ok-reserve-4.ensures.same c.in_ok-reserve.ensures.items,
      orders-same e.limits e.orders c.reserve-3.new.self e.history.items c.reserve.new.self.items c.self.invariant.1 traded.orders traded.markets traded.nonces traded.limit c.in_ok-reserve.ensures.items,
    )
