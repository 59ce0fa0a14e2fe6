use Rattle.std.proofs.Common.{◌≡◌, None, [], ◌∷◌, rules, tests, sym, ap, ◌∙◌}
use Rattle.collection_keys.specs.Collections.{root}
use Rattle.command_words.specs.declared.command.Command.TheVariants.{Deposit}
use Rattle.ledger_book.specs.Postings.{credit}
use Rattle.settle_core.specs.declared.changes.Changes.{Changes}
use Rattle.settle_core.specs.Exchange.{asked}
use Rattle.settle_core.specs.Refusals.{not_allowed, vault_limit}
use Rattle.settle_core.proofs.KeptLemmas.{last_refusals}
use Rattle.settle_core.proofs.Partings.{deposit-last}
use Rattle.settle_core.proofs.Verdicts.{answered-err}
use Rattle.settle_core.proofs.exchange.Exchange.changes_of_deposit.Goals as goal

pub returns-in-Some-clause-verdict : goal.returns-in-Some-clause-verdict
returns-in-Some-clause-verdict c =
    let s = c.args.self.now in
    let q = asked s c.args.account (Deposit c.args.to c.args.amount) c.args.now in
    let allowed : not_allowed q ≡ None = search (rules, tests) in
    let vault : vault_limit q ≡ None = search (rules, tests) in
    let posted : credit c.args.to root c.args.amount ∷ [] ≡ c.change_vault.new.self.postings = search rules in
    answered-err Changes _ c.in-Some.refusal (deposit-last s.limits s.history c.args.account c.args.to c.args.amount c.args.now allowed vault ∙ ap (λ ps. last_refusals s.limits s.history ps) posted ∙ sym c.refusal_at_last.ensures ∙ c.in-Some.is)
