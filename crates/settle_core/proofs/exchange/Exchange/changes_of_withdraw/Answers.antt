use Rattle.std.proofs.Common.{◌≡◌, ◌==◌, ℕ, ◌∷◌, [], length, false, None, Err, rules, tests, refl, sym, ap, subst, ◌∙◌}
use Rattle.std.specs.Prelude.{nat_le, option_map}
use Rattle.collection_keys.specs.Collections.{Pairs, root}
use Rattle.command_words.specs.declared.command.Command.TheVariants.{Withdraw}
use Rattle.command_words.specs.declared.refusal.Refusal.TheVariants.{Unfunded, HistoryFull}
use Rattle.condition_sets.specs.declared.names.TheConstants.{EXCHANGE}
use Rattle.ledger_book.specs.Planning.{first_short}
use Rattle.std.proofs.lemmas.Int.{ints}
use Rattle.ledger_book.specs.Postings.{IsFunded, debit}
use Rattle.settle_core.specs.Exchange.{AreChangesOf, asked, vault_change}
use Rattle.settle_core.specs.Postings.{balance}
use Rattle.settle_core.specs.OrderRules.{where_}
use Rattle.settle_core.specs.Refusals.{supply_limit, entries_limit}
use Rattle.settle_core.specs.Verdict.{AnsweredBy}
use Rattle.settle_core.specs.declared.changes.Changes.{Changes}
use Rattle.settle_core.proofs.KeptLemmas.{last_refusals}
use Rattle.settle_core.proofs.Partings.{short-answered, short-none, withdraw-front}
use Rattle.settle_core.proofs.Verdicts.{answered-err, map-none}
use Rattle.settle_core.proofs.exchange.Exchange.changes_of_withdraw.Goals as goal

pub returns-in-Err-clause-verdict : goal.returns-in-Err-clause-verdict
returns-in-Err-clause-verdict c =
    let s = c.args.self.now in
    let q = asked s c.args.account (Withdraw c.args.amount) c.args.now in
    let allowed : (c.args.account == EXCHANGE) ≡ false = search (rules, tests) in
    let short = subst (λ (k : Pairs). AnsweredBy {X = Unit} (option_map (λ short. Unfunded short.1 short.0) (first_short (balance s.history c.args.account) c.args.amount (k ∷ []))) (Err c.in-Err.refusal)) c.root.ensures c.in-Err.ensures.verdict in
    short-answered Unit Changes q _ c.args.amount (balance s.history c.args.account) (root ∷ []) c.in-Err.refusal
    (withdraw-front s.limits s.history c.args.account c.args.amount c.args.now allowed) short

pub returns-in-Some-clause-verdict : goal.returns-in-Some-clause-verdict
returns-in-Some-clause-verdict c =
    let s = c.args.self.now in
    let q = asked s c.args.account (Withdraw c.args.amount) c.args.now in
    let allowed : (c.args.account == EXCHANGE) ≡ false = search (rules, tests) in
    let funds = subst (λ (k : Pairs). option_map (λ (short : ℕ × ℕ). Unfunded short.1 short.0) (first_short (balance s.history c.args.account) c.args.amount (k ∷ [])) ≡ None) c.root.ensures c.in-Ok.ensures.verdict in
    let last = short-none q (supply_limit q) (entries_limit q) (where_ (nat_le s.limits.history (length s.history)) HistoryFull) c.args.amount (balance s.history c.args.account) (root ∷ [])
    (withdraw-front s.limits s.history c.args.account c.args.amount c.args.now allowed)
    (map-none (λ (short : ℕ × ℕ). Unfunded short.1 short.0) (first_short (balance s.history c.args.account) c.args.amount (root ∷ [])) funds) in
    let posted : debit c.args.account root c.args.amount ∷ [] ≡ c.change_vault.new.self.postings = search rules in
    answered-err Changes _ c.in-Some.refusal (last ∙ ap (λ ps. last_refusals s.limits s.history ps) posted ∙ sym c.refusal_at_last.ensures ∙ c.in-Some.is)

pub returns-in-None-clause-changes : goal.returns-in-None-clause-changes
returns-in-None-clause-changes c =
    let s = c.args.self.now in
    let posted : c.change_vault.new.self.postings ≡ debit c.args.account root c.args.amount ∷ [] = search rules in
    let funded : IsFunded (balance s.history) c.change_vault.new.self.postings = search rules in
    let changed : c.change_vault.new.self.vault ≡ vault_change (Withdraw c.args.amount) = search (rules, ints) in
    subst (λ (x : Changes). AreChangesOf s.history c.args.account (Withdraw c.args.amount) x) (sym c.done.ensures)
    (record { postings = posted; vault = changed; funded = funded; numerators = refl; reply = refl })
