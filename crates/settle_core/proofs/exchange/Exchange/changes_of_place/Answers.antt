use Rattle.std.proofs.Common.{◌≡◌, ◌==◌, ℕ, List, length, None, Some, true, false, refl, rules, tests, sym, ap, subst, ◌∙◌, arith}
use Rattle.std.specs.Prelude.{◌||◌, nat_le}
use Rattle.std.proofs.lemmas.Bool.Decides.{nat_tests}
use Rattle.command_words.specs.declared.command.Command.{Command}
use Rattle.condition_sets.specs.declared.names.TheConstants.{EXCHANGE, OPERATOR}
use Rattle.order_table.specs.Orders.{OrderView, open_in}
use Rattle.settle_core.specs.Exchange.{ExchangeView, asked}
use Rattle.settle_core.specs.OrderRules.{has_expired}
use Rattle.settle_core.specs.Orders.{is_market, nonce, orders}
use Rattle.command_words.specs.declared.refusal.Refusal.TheVariants.{TableFull, BadSet, NoMarket, OrderExpired, NonceOld, HistoryFull}
use Rattle.settle_core.specs.Verdict.{verdict}
use Rattle.settle_core.proofs.Partings.{place-front, question}
use Rattle.settle_core.proofs.exchange.Exchange.changes_of_place.Goals as goal

pub returns-then-open_in-orders-clause-verdict : goal.returns-then-open_in-orders-clause-verdict
returns-then-open_in-orders-clause-verdict c =
    let e = c.self.inside in
    let h = e.history.items in
    let p = c.in-Place in
    let kept = c.self.invariant.1 in
    let operator : (c.args.account == OPERATOR) ≡ false = search (rules, tests) in
    let exchange : (c.args.account == EXCHANGE) ≡ false = search (rules, tests) in
    let placed = ap (λ (os : List OrderView). open_in os p.market) kept.orders in
    let above : nat_le e.limits.orders (open_in (orders h) p.market) ≡ true = grind (arith, nat_tests, c.if-open_in-orders.true, c.orders.ensures.value, c.open_in.ensures.value, placed) in
    let front = place-front e.limits h c.args.account p.market p.set p.side p.making p.taking p.expires p.nonce p.fee c.args.now true _ _ _ _ _ operator exchange above refl refl refl refl refl in
    let here : verdict (question e.limits h c.args.account c.args.command.now c.args.now) ≡ Some TableFull
    = subst (λ (command : Command). verdict (question e.limits h c.args.account command c.args.now) ≡ Some TableFull) (sym p.is) front in
    subst (λ (s : ExchangeView). verdict (asked s c.args.account c.args.command.now c.args.now) ≡ Some TableFull) c.self.view_is here

pub returns-then-not-is_token-clause-verdict : goal.returns-then-not-is_token-clause-verdict
returns-then-not-is_token-clause-verdict c =
    let e = c.self.inside in
    let h = e.history.items in
    let p = c.in-Place in
    let kept = c.self.invariant.1 in
    let operator : (c.args.account == OPERATOR) ≡ false = search (rules, tests) in
    let exchange : (c.args.account == EXCHANGE) ≡ false = search (rules, tests) in
    let placed = ap (λ (os : List OrderView). open_in os p.market) kept.orders in
    let above : nat_le e.limits.orders (open_in (orders h) p.market) ≡ false = grind (arith, nat_tests, c.if-open_in-orders.false, c.orders.ensures.value, c.open_in.ensures.value, placed) in
    let token : ((p.set == 1) || (p.set == 2)) ≡ false = sym c.is_token.ensures ∙ c.if-not-is_token.true in
    let front = place-front e.limits h c.args.account p.market p.set p.side p.making p.taking p.expires p.nonce p.fee c.args.now false false _ _ _ _ operator exchange above token refl refl refl refl in
    let here : verdict (question e.limits h c.args.account c.args.command.now c.args.now) ≡ Some BadSet
    = subst (λ (command : Command). verdict (question e.limits h c.args.account command c.args.now) ≡ Some BadSet) (sym p.is) front in
    subst (λ (s : ExchangeView). verdict (asked s c.args.account c.args.command.now c.args.now) ≡ Some BadSet) c.self.view_is here

pub returns-then-not-is_market-clause-verdict : goal.returns-then-not-is_market-clause-verdict
returns-then-not-is_market-clause-verdict c =
    let e = c.self.inside in
    let h = e.history.items in
    let p = c.in-Place in
    let kept = c.self.invariant.1 in
    let operator : (c.args.account == OPERATOR) ≡ false = search (rules, tests) in
    let exchange : (c.args.account == EXCHANGE) ≡ false = search (rules, tests) in
    let placed = ap (λ (os : List OrderView). open_in os p.market) kept.orders in
    let above : nat_le e.limits.orders (open_in (orders h) p.market) ≡ false = grind (arith, nat_tests, c.if-open_in-orders.false, c.orders.ensures.value, c.open_in.ensures.value, placed) in
    let token : ((p.set == 1) || (p.set == 2)) ≡ true = sym c.is_token.ensures ∙ c.if-not-is_token.false in
    let market : is_market h p.market ≡ false = sym (kept.markets p.market) ∙ (sym c.is_market.ensures ∙ c.if-not-is_market.true) in
    let front = place-front e.limits h c.args.account p.market p.set p.side p.making p.taking p.expires p.nonce p.fee c.args.now false true false _ _ _ operator exchange above token market refl refl refl in
    let here : verdict (question e.limits h c.args.account c.args.command.now c.args.now) ≡ Some NoMarket
    = subst (λ (command : Command). verdict (question e.limits h c.args.account command c.args.now) ≡ Some NoMarket) (sym p.is) front in
    subst (λ (s : ExchangeView). verdict (asked s c.args.account c.args.command.now c.args.now) ≡ Some NoMarket) c.self.view_is here

pub returns-then-has_expired-clause-verdict : goal.returns-then-has_expired-clause-verdict
returns-then-has_expired-clause-verdict c =
    let e = c.self.inside in
    let h = e.history.items in
    let p = c.in-Place in
    let kept = c.self.invariant.1 in
    let operator : (c.args.account == OPERATOR) ≡ false = search (rules, tests) in
    let exchange : (c.args.account == EXCHANGE) ≡ false = search (rules, tests) in
    let placed = ap (λ (os : List OrderView). open_in os p.market) kept.orders in
    let above : nat_le e.limits.orders (open_in (orders h) p.market) ≡ false = grind (arith, nat_tests, c.if-open_in-orders.false, c.orders.ensures.value, c.open_in.ensures.value, placed) in
    let token : ((p.set == 1) || (p.set == 2)) ≡ true = sym c.is_token.ensures ∙ c.if-not-is_token.false in
    let market : is_market h p.market ≡ true = sym (kept.markets p.market) ∙ (sym c.is_market.ensures ∙ c.if-not-is_market.false) in
    let expired : has_expired p.expires c.args.now ≡ true = sym c.has_expired.ensures ∙ c.if-has_expired.true in
    let front = place-front e.limits h c.args.account p.market p.set p.side p.making p.taking p.expires p.nonce p.fee c.args.now false true true true _ _ operator exchange above token market expired refl refl in
    let here : verdict (question e.limits h c.args.account c.args.command.now c.args.now) ≡ Some (OrderExpired 0)
    = subst (λ (command : Command). verdict (question e.limits h c.args.account command c.args.now) ≡ Some (OrderExpired 0)) (sym p.is) front in
    subst (λ (s : ExchangeView). verdict (asked s c.args.account c.args.command.now c.args.now) ≡ Some (OrderExpired 0)) c.self.view_is here

pub returns-then-nonce-present-clause-verdict : goal.returns-then-nonce-present-clause-verdict
returns-then-nonce-present-clause-verdict c =
    let e = c.self.inside in
    let h = e.history.items in
    let p = c.in-Place in
    let kept = c.self.invariant.1 in
    let operator : (c.args.account == OPERATOR) ≡ false = search (rules, tests) in
    let exchange : (c.args.account == EXCHANGE) ≡ false = search (rules, tests) in
    let placed = ap (λ (os : List OrderView). open_in os p.market) kept.orders in
    let above : nat_le e.limits.orders (open_in (orders h) p.market) ≡ false = grind (arith, nat_tests, c.if-open_in-orders.false, c.orders.ensures.value, c.open_in.ensures.value, placed) in
    let token : ((p.set == 1) || (p.set == 2)) ≡ true = sym c.is_token.ensures ∙ c.if-not-is_token.false in
    let market : is_market h p.market ≡ true = sym (kept.markets p.market) ∙ (sym c.is_market.ensures ∙ c.if-not-is_market.false) in
    let expired : has_expired p.expires c.args.now ≡ false = sym c.has_expired.ensures ∙ c.if-has_expired.false in
    let present = kept.nonces c.args.account in
    let same : (p.nonce == nonce h c.args.account) ≡ false = grind (arith, nat_tests, c.if-nonce-present.true, c.nonce-present.ensures.value, present) in
    let front = place-front e.limits h c.args.account p.market p.set p.side p.making p.taking p.expires p.nonce p.fee c.args.now false true true false false _ operator exchange above token market expired same refl in
    let here : verdict (question e.limits h c.args.account c.args.command.now c.args.now) ≡ Some (NonceOld (nonce h c.args.account) 0)
    = subst (λ (command : Command). verdict (question e.limits h c.args.account command c.args.now) ≡ Some (NonceOld (nonce h c.args.account) 0)) (sym p.is) front in
    subst (λ (s : ExchangeView). verdict (asked s c.args.account c.args.command.now c.args.now) ≡ Some (NonceOld (nonce h c.args.account) 0)) c.self.view_is here
    ∙ ap (λ (n : ℕ). Some (NonceOld n 0)) (sym present ∙ sym c.nonce-present.ensures.value)

pub returns-then-is_full-clause-verdict : goal.returns-then-is_full-clause-verdict
returns-then-is_full-clause-verdict c =
    let e = c.self.inside in
    let h = e.history.items in
    let p = c.in-Place in
    let kept = c.self.invariant.1 in
    let operator : (c.args.account == OPERATOR) ≡ false = search (rules, tests) in
    let exchange : (c.args.account == EXCHANGE) ≡ false = search (rules, tests) in
    let placed = ap (λ (os : List OrderView). open_in os p.market) kept.orders in
    let above : nat_le e.limits.orders (open_in (orders h) p.market) ≡ false = grind (arith, nat_tests, c.if-open_in-orders.false, c.orders.ensures.value, c.open_in.ensures.value, placed) in
    let token : ((p.set == 1) || (p.set == 2)) ≡ true = sym c.is_token.ensures ∙ c.if-not-is_token.false in
    let market : is_market h p.market ≡ true = sym (kept.markets p.market) ∙ (sym c.is_market.ensures ∙ c.if-not-is_market.false) in
    let expired : has_expired p.expires c.args.now ≡ false = sym c.has_expired.ensures ∙ c.if-has_expired.false in
    let present = kept.nonces c.args.account in
    let same : (p.nonce == nonce h c.args.account) ≡ true = grind (arith, nat_tests, c.if-nonce-present.false, c.nonce-present.ensures.value, present) in
    let full : nat_le e.limits.history (length h) ≡ true = subst (λ (s : ExchangeView). nat_le s.limits.history (length s.history) ≡ true) (sym c.self.view_is) (sym c.is_full.ensures ∙ c.if-is_full.true) in
    let front = place-front e.limits h c.args.account p.market p.set p.side p.making p.taking p.expires p.nonce p.fee c.args.now false true true false true true operator exchange above token market expired same full in
    let here : verdict (question e.limits h c.args.account c.args.command.now c.args.now) ≡ Some HistoryFull
    = subst (λ (command : Command). verdict (question e.limits h c.args.account command c.args.now) ≡ Some HistoryFull) (sym p.is) front in
    subst (λ (s : ExchangeView). verdict (asked s c.args.account c.args.command.now c.args.now) ≡ Some HistoryFull) c.self.view_is here

pub returns-clause-verdict : goal.returns-clause-verdict
returns-clause-verdict c =
    let e = c.self.inside in
    let h = e.history.items in
    let p = c.in-Place in
    let kept = c.self.invariant.1 in
    let operator : (c.args.account == OPERATOR) ≡ false = search (rules, tests) in
    let exchange : (c.args.account == EXCHANGE) ≡ false = search (rules, tests) in
    let placed = ap (λ (os : List OrderView). open_in os p.market) kept.orders in
    let above : nat_le e.limits.orders (open_in (orders h) p.market) ≡ false = grind (arith, nat_tests, c.if-open_in-orders.false, c.orders.ensures.value, c.open_in.ensures.value, placed) in
    let token : ((p.set == 1) || (p.set == 2)) ≡ true = sym c.is_token.ensures ∙ c.if-not-is_token.false in
    let market : is_market h p.market ≡ true = sym (kept.markets p.market) ∙ (sym c.is_market.ensures ∙ c.if-not-is_market.false) in
    let expired : has_expired p.expires c.args.now ≡ false = sym c.has_expired.ensures ∙ c.if-has_expired.false in
    let present = kept.nonces c.args.account in
    let same : (p.nonce == nonce h c.args.account) ≡ true = grind (arith, nat_tests, c.if-nonce-present.false, c.nonce-present.ensures.value, present) in
    let full : nat_le e.limits.history (length h) ≡ false = subst (λ (s : ExchangeView). nat_le s.limits.history (length s.history) ≡ false) (sym c.self.view_is) (sym c.is_full.ensures ∙ c.if-is_full.false) in
    let front = place-front e.limits h c.args.account p.market p.set p.side p.making p.taking p.expires p.nonce p.fee c.args.now false true true false true false operator exchange above token market expired same full in
    let here : verdict (question e.limits h c.args.account c.args.command.now c.args.now) ≡ None
    = subst (λ (command : Command). verdict (question e.limits h c.args.account command c.args.now) ≡ None) (sym p.is) front in
    subst (λ (s : ExchangeView). verdict (asked s c.args.account c.args.command.now c.args.now) ≡ None) c.self.view_is here
