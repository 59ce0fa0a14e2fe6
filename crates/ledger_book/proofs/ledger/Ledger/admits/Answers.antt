use Rattle.std.proofs.Common.{List, sym, ◌∙◌, ap, subst, arith}
use Rattle.ledger_book.specs.Entries.{HasEntries, held_after}
use Rattle.ledger_book.specs.Ledger.{LedgerView, amount_at, supply_at}
use Rattle.ledger_book.specs.Staging.{oversupplied}
use Rattle.ledger_book.specs.declared.posting.Posting.{Posting}
use Rattle.ledger_book.proofs.Counted.{one_number}
use Rattle.ledger_book.proofs.ledger.Ledger.admits.Goals as goal

pub returns-then-from-entries_after-clause-entries : goal.returns-then-from-entries_after-clause-entries
returns-then-from-entries_after-clause-entries c =
    let held = amount_at c.args.self.now in
    let ps = c.args.s.now.postings in
    let has = subst (λ (qs : List Posting). HasEntries (held_after held qs) c.entries_after.result) c.postings-postings.ensures c.entries_after.ensures in
    let limit = ap (λ (l : LedgerView). l.limit) c.self.view_is in
    λ full. (
      ap (oversupplied (supply_at c.args.self.now)) (sym c.postings-postings.ensures) ∙ (sym c.oversupply.ensures ∙ c.in_default.is),
      λ n there. omega (arith, limit, one_number (held_after held ps) n c.entries_after.result there has, c.from.ensures, c.if-from-entries_after.true),
    )

pub returns-clause-within : goal.returns-clause-within
returns-clause-within c =
    let held = amount_at c.args.self.now in
    let ps = c.args.s.now.postings in
    let has = subst (λ (qs : List Posting). HasEntries (held_after held qs) c.entries_after.result) c.postings-postings.ensures c.entries_after.ensures in
    let limit = ap (λ (l : LedgerView). l.limit) c.self.view_is in
    λ n there. omega (arith, limit, one_number (held_after held ps) n c.entries_after.result there has, c.from.ensures, c.if-from-entries_after.false)
