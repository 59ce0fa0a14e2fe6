use Rattle.std.proofs.Common.{◌≡◌, length, None, Some, true, false, Err, sym, ap, subst, ◌∙◌}
use Rattle.command_words.specs.declared.refusal.Refusal.TheVariants.{SupplyLimit, EntriesLimit, HistoryFull}
use Rattle.std.specs.Prelude.{nat_le}
use Rattle.ledger_book.specs.Postings.{IsFunded}
use Rattle.ledger_book.specs.declared.ledger.LedgerFull.{LedgerFull}
use Rattle.settle_core.specs.Exchange.{ExchangeView}
use Rattle.settle_core.specs.Postings.{balance}
use Rattle.settle_core.proofs.KeptLemmas.{kept-oversupplied, kept-few, kept-many, last_refusals, last-supply, last-many, last-full, last-none}
use Rattle.settle_core.proofs.exchange.Exchange.refusal_at_last.Goals as goal

pub returns-in-Err-Supply : goal.returns-in-Err-Supply
returns-in-Err-Supply c =
    let e = c.self.inside in
    let ps = c.args.staged.now.postings in
    let told = (c.admits.ensures.supply c.in-Err-Supply.supply).0 (c.in-Err-Supply.is ∙ ap (λ (full : LedgerFull). Err full) c.in-Err-Supply.field-0-is) in
    let over = kept-oversupplied e.limits e.events e.conditions e.ledger e.history.items ps c.self.invariant.0 ∙ told in
    subst (λ (s : ExchangeView). Some (SupplyLimit c.in-Err-Supply.supply) ≡ last_refusals s.limits s.history ps) c.self.view_is (sym (last-supply e.limits e.history.items ps c.in-Err-Supply.supply over))

pub returns-in-Err-Entries : goal.returns-in-Err-Entries
returns-in-Err-Entries c =
    let e = c.self.inside in
    let ps = c.args.staged.now.postings in
    let told = c.admits.ensures.entries (c.in-Err-Entries.is ∙ ap (λ (full : LedgerFull). Err full) c.in-Err-Entries.field-0-is) in
    let none = kept-oversupplied e.limits e.events e.conditions e.ledger e.history.items ps c.self.invariant.0 ∙ told.0 in
    let funded = subst (λ (s : ExchangeView). IsFunded (balance s.history) ps) (sym c.self.view_is) c.requires.funded in
    let many = kept-many e.limits e.events e.conditions e.ledger e.history.items ps c.self.invariant.0 funded c.requires.some told.1 in
    subst (λ (s : ExchangeView). Some EntriesLimit ≡ last_refusals s.limits s.history ps) c.self.view_is (sym (last-many e.limits e.history.items ps none many))

pub returns-then-is_full : goal.returns-then-is_full
returns-then-is_full c =
    let e = c.self.inside in
    let ps = c.args.staged.now.postings in
    let none = kept-oversupplied e.limits e.events e.conditions e.ledger e.history.items ps c.self.invariant.0 ∙ c.in-Ok.ensures.ok in
    let funded = subst (λ (s : ExchangeView). IsFunded (balance s.history) ps) (sym c.self.view_is) c.requires.funded in
    let few = kept-few e.limits e.events e.conditions e.ledger e.history.items ps c.self.invariant.0 funded c.in-Ok.ensures.within in
    let full : nat_le e.limits.history (length e.history.items) ≡ true = subst (λ (s : ExchangeView). nat_le s.limits.history (length s.history) ≡ true) (sym c.self.view_is) (sym c.is_full.ensures ∙ c.if-is_full.true) in
    subst (λ (s : ExchangeView). Some HistoryFull ≡ last_refusals s.limits s.history ps) c.self.view_is (sym (last-full e.limits e.history.items ps none few full))

pub returns : goal.returns
returns c =
    let e = c.self.inside in
    let ps = c.args.staged.now.postings in
    let none = kept-oversupplied e.limits e.events e.conditions e.ledger e.history.items ps c.self.invariant.0 ∙ c.in-Ok.ensures.ok in
    let funded = subst (λ (s : ExchangeView). IsFunded (balance s.history) ps) (sym c.self.view_is) c.requires.funded in
    let few = kept-few e.limits e.events e.conditions e.ledger e.history.items ps c.self.invariant.0 funded c.in-Ok.ensures.within in
    let room : nat_le e.limits.history (length e.history.items) ≡ false = subst (λ (s : ExchangeView). nat_le s.limits.history (length s.history) ≡ false) (sym c.self.view_is) (sym c.is_full.ensures ∙ c.if-is_full.false) in
    subst (λ (s : ExchangeView). None ≡ last_refusals s.limits s.history ps) c.self.view_is (sym (last-none e.limits e.history.items ps none few room))
