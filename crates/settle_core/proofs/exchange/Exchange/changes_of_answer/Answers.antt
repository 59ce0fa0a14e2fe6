use Rattle.std.proofs.Common.{◌≡◌, ◌==◌, Bool, cond, List, length, None, Some, [], ◌∷◌, true, false, rules, tests, refl, sym, ap, subst, ◌∙◌}
use Rattle.std.specs.Prelude.{nat_le, option_map, slice_get}
use Rattle.command_words.specs.declared.command.Command.TheVariants.{Answer}
use Rattle.command_words.specs.declared.refusal.Refusal.TheVariants.{HistoryFull}
use Rattle.condition_sets.specs.declared.names.TheConstants.{EXCHANGE}
use Rattle.event_table.specs.Events.{EventView, facts_of, question_in, winner_in}
use Rattle.settle_core.specs.Book.{events, told}
use Rattle.settle_core.specs.Exchange.{ExchangeView, asked}
use Rattle.settle_core.specs.OrderRules.{where_}
use Rattle.settle_core.specs.Verdict.{first_some, verdict}
use Rattle.settle_core.proofs.Partings.{answer-front, none-told}
use Rattle.settle_core.proofs.exchange.Exchange.changes_of_answer.Goals as goal

pub returns-clause-verdict : goal.returns-clause-verdict
returns-clause-verdict c =
    let e = c.self.inside in
    let h = e.history.items in
    let allowed : (c.args.account == EXCHANGE) ≡ false = search (rules, tests) in
    let found : option_map facts_of (slice_get (events h) c.args.event) ≡ Some c.in-Some.facts
    = ap (λ (es : List EventView). option_map facts_of (slice_get es c.args.event)) (sym c.self.invariant.0.events) ∙ (sym c.get-2.ensures.value ∙ c.in-Some.is) in
    let own : (c.in-Some.facts.oracle == c.args.account) ≡ true = search (rules, tests) in
    let question : question_in (events h) c.args.event c.args.question ≡ Some c.in-Some-question.condition
    = ap (λ (es : List EventView). question_in es c.args.event c.args.question) (sym c.self.invariant.0.events) ∙ (sym c.question.ensures ∙ c.in-Some-question.is) in
    let none : told h c.in-Some-question.condition ≡ None = sym (c.self.invariant.0.reports.each c.in-Some-question.condition) ∙ none-told _ (sym c.is_reported.ensures ∙ c.if-is_reported.false) in
    let first = subst (λ (s : ExchangeView). cond c.args.yes (winner_in (events s.history) c.args.event) None ≡ None) (sym c.self.view_is) (sym c.winner_before.ensures ∙ c.in_default-winner_before.is) in
    let front = subst (λ (s : ExchangeView). verdict (asked s c.args.account (Answer c.args.event c.args.question c.args.yes) c.args.now) ≡ first_some (where_ (nat_le s.limits.history (length s.history)) HistoryFull ∷ [])) c.self.view_is
    (answer-front e.limits h c.args.account c.args.event c.args.question c.args.yes c.args.now c.in-Some.facts c.in-Some-question.condition (nat_le e.limits.history (length h)) allowed found own question none first refl) in
    front ∙ ap (λ (full : Bool). first_some (where_ full HistoryFull ∷ [])) (sym c.is_full.ensures ∙ c.if-is_full.false)
