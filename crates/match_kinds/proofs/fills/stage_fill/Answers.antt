use Rattle.std.proofs.Common.{◌≡◌, ℕ, ◌<◌, Some, true, sym, ◌∙◌, ap, subst}
use Rattle.std.specs.Prelude.{nat_lt, Err}
use Rattle.std.proofs.lemmas.Bool.{lt-ltb}
use Rattle.collection_keys.specs.Collections.{Pairs}
use Rattle.ledger_book.specs.Entries.{held_after}
use Rattle.ledger_book.specs.Ledger.{amount_at}
use Rattle.ledger_book.specs.Staging.{DebitedBy}
use Rattle.ledger_book.specs.declared.staged.DebitFault.{DebitFault}
use Rattle.match_kinds.proofs.Funding.{found_at}
use Rattle.match_kinds.proofs.fills.stage_fill.Goals as goal

-- a debit that is short finds what is there
found : (place held fill have : ℕ) → have ≡ held → held < fill → found_at place held fill ≡ Some (place, have)
found place held fill have is short =
    let less : nat_lt held fill ≡ true = lt-ltb held fill short in
    rw less (ap (λ (n : ℕ). Some (place, n)) (sym is))

pub returns-in-Err-Short-clause-short : goal.returns-in-Err-Short-clause-short
returns-in-Err-Short-clause-short c =
    let have = c.in-Err-Short.have in
    let fill = c.args.part.now.fill in
    let held = λ (k : Pairs). held_after (amount_at c.args.l.now) c.args.s.now.postings c.args.part.now.account k in
    let short : (have ≡ held c.paid_asset.result) × (held c.paid_asset.result < fill)
    = subst (λ (fault : DebitFault). DebitedBy (held c.paid_asset.result) fill (Err fault)) c.in-Err-Short.field-0-is c.in-Err-Short.ensures.short in
    let less = subst (λ (k : Pairs). held k < fill) c.paid_asset.ensures short.1 in
    found c.args.place _ fill have (short.0 ∙ ap held c.paid_asset.ensures) less
