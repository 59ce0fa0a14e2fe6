use Rattle.std.proofs.Common.{◌≡◌, ◌==◌, ℕ, ◌∷◌, [], length, false, None, Err, rules, tests, sym, ap, subst, ◌∙◌}
use Rattle.std.specs.Prelude.{nat_le, nat_lt, option_map}
use Rattle.collection_keys.specs.Collections.{Pairs}
use Rattle.collection_keys.specs.declared.collection.TheConstants.{MAX_PAIRS}
use Rattle.command_words.specs.declared.command.Command.TheVariants.{Move}
use Rattle.command_words.specs.declared.refusal.Refusal.TheVariants.{Unfunded, HistoryFull}
use Rattle.condition_sets.specs.declared.names.TheConstants.{EXCHANGE}
use Rattle.ledger_book.specs.Planning.{first_short}
use Rattle.ledger_book.specs.Postings.{credit, debit}
use Rattle.settle_core.specs.Book.{conditions}
use Rattle.settle_core.specs.Exchange.{ExchangeView, asked}
use Rattle.settle_core.specs.Keys.{key_is_unprepared, key_is_improper}
use Rattle.settle_core.specs.Postings.{balance}
use Rattle.settle_core.specs.OrderRules.{where_}
use Rattle.settle_core.specs.Refusals.{supply_limit, entries_limit}
use Rattle.settle_core.specs.Verdict.{AnsweredBy}
use Rattle.settle_core.specs.declared.changes.Changes.{Changes}
use Rattle.settle_core.proofs.KeptLemmas.{last_refusals}
use Rattle.settle_core.proofs.Partings.{IsToFund, move-front, short-answered, short-none}
use Rattle.settle_core.proofs.Verdicts.{answered-err, map-none}
use Rattle.settle_core.proofs.exchange.Exchange.changes_of_move.Goals as goal

pub returns-in-Err-clause-verdict : goal.returns-in-Err-clause-verdict
returns-in-Err-clause-verdict c =
    let e = c.self.inside in
    let h = e.history.items in
    let s = c.args.self.now in
    let key = c.args.key.now in
    let allowed : (c.args.account == EXCHANGE) ≡ false = search (rules, tests) in
    let other : (c.args.to == EXCHANGE) ≡ false = search (rules, tests) in
    let there : key_is_unprepared (conditions h) key ≡ false = (λ i. key_is_unprepared (sym c.self.invariant.0.conditions i) (sym c.as_slice-key.ensures i)) ∙ (sym c.key_is_unprepared.ensures ∙ c.if-key_is_unprepared.false) in
    let proper : key_is_improper (conditions h) key ≡ false = (λ i. key_is_improper (sym c.self.invariant.0.conditions i) (sym c.as_slice-key.ensures i)) ∙ (sym c.key_is_improper.ensures ∙ c.if-key_is_improper.false) in
    let few : nat_lt MAX_PAIRS (length key) ≡ false = subst (λ (k : Pairs). nat_lt MAX_PAIRS (length k) ≡ false) c.as_slice-key.ensures (search (rules, tests)) in
    let front = subst (λ (state : ExchangeView). IsToFund (asked state c.args.account (Move c.args.to key c.args.amount) c.args.now)) c.self.view_is (move-front e.limits h c.args.account c.args.to key c.args.amount c.args.now allowed other there proper few) in
    let short = subst (λ (k : Pairs). AnsweredBy {X = Unit} (option_map (λ short. Unfunded short.1 short.0) (first_short (balance s.history c.args.account) c.args.amount (k ∷ []))) (Err c.in-Err.refusal))
    (c.collection_of-collection.ensures ∙ c.as_slice-key.ensures) c.in-Err.ensures.verdict in
    short-answered Unit Changes (asked s c.args.account (Move c.args.to key c.args.amount) c.args.now) _ c.args.amount (balance s.history c.args.account) (key ∷ []) c.in-Err.refusal front short

pub returns-in-Some-clause-verdict : goal.returns-in-Some-clause-verdict
returns-in-Some-clause-verdict c =
    let e = c.self.inside in
    let h = e.history.items in
    let s = c.args.self.now in
    let key = c.args.key.now in
    let allowed : (c.args.account == EXCHANGE) ≡ false = search (rules, tests) in
    let other : (c.args.to == EXCHANGE) ≡ false = search (rules, tests) in
    let there : key_is_unprepared (conditions h) key ≡ false = (λ i. key_is_unprepared (sym c.self.invariant.0.conditions i) (sym c.as_slice-key.ensures i)) ∙ (sym c.key_is_unprepared.ensures ∙ c.if-key_is_unprepared.false) in
    let proper : key_is_improper (conditions h) key ≡ false = (λ i. key_is_improper (sym c.self.invariant.0.conditions i) (sym c.as_slice-key.ensures i)) ∙ (sym c.key_is_improper.ensures ∙ c.if-key_is_improper.false) in
    let few : nat_lt MAX_PAIRS (length key) ≡ false = subst (λ (k : Pairs). nat_lt MAX_PAIRS (length k) ≡ false) c.as_slice-key.ensures (search (rules, tests)) in
    let front = subst (λ (state : ExchangeView). IsToFund (asked state c.args.account (Move c.args.to key c.args.amount) c.args.now)) c.self.view_is (move-front e.limits h c.args.account c.args.to key c.args.amount c.args.now allowed other there proper few) in
    let is_key : c.collection_of-collection.result ≡ key = c.collection_of-collection.ensures ∙ c.as_slice-key.ensures in
    let q = asked s c.args.account (Move c.args.to key c.args.amount) c.args.now in
    let funds = subst (λ (k : Pairs). option_map (λ (short : ℕ × ℕ). Unfunded short.1 short.0) (first_short (balance s.history c.args.account) c.args.amount (k ∷ [])) ≡ None) is_key c.in-Ok.ensures.verdict in
    let last = short-none q (supply_limit q) (entries_limit q) (where_ (nat_le s.limits.history (length s.history)) HistoryFull) c.args.amount (balance s.history c.args.account) (key ∷ []) front
    (map-none (λ (short : ℕ × ℕ). Unfunded short.1 short.0) (first_short (balance s.history c.args.account) c.args.amount (key ∷ [])) funds) in
    let posted : debit c.args.account c.collection_of-collection.result c.args.amount ∷ credit c.args.to c.collection_of-collection.result c.args.amount ∷ [] ≡ c.credit.new.self.postings = search rules in
    let there_posted : debit c.args.account key c.args.amount ∷ credit c.args.to key c.args.amount ∷ [] ≡ c.credit.new.self.postings
    = (λ i. debit c.args.account (sym is_key i) c.args.amount ∷ credit c.args.to (sym is_key i) c.args.amount ∷ []) ∙ posted in
    answered-err Changes _ c.in-Some.refusal (last ∙ ap (λ ps. last_refusals s.limits s.history ps) there_posted ∙ sym c.refusal_at_last.ensures ∙ c.in-Some.is)
