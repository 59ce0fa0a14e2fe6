use Rattle.std.proofs.Common.{arith, sym, subst, List}
use Rattle.ledger_book.specs.Ledger.{amount_at}
use Rattle.ledger_book.specs.Postings.{IsFunded}
use Rattle.ledger_book.specs.declared.posting.Posting.{Posting}
use Rattle.split_merge.proofs.split.plan_split.Goals as goal

pub returns-clause-funded : goal.returns-clause-funded
returns-clause-funded c =
    let nothing_posted = subst (λ (ps : List Posting). IsFunded (amount_at c.args.l.now) ps) (sym c.requires.new) (λ a k. omega arith) in
    c.in_ok-pay_parts.ensures.funded (amount_at c.args.l.now) (c.in_ok-take.ensures.funded nothing_posted)
