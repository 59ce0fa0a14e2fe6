use Rattle.std.proofs.Common.{arith}
use Rattle.ledger_book.specs.Ledger.{amount_at}
use Rattle.ledger_book.proofs.Funding.{funded-more}
use Rattle.ledger_book.proofs.staged.Staged.debit.Goals as goal

pub returns-in-Ok-clause-funded : goal.returns-in-Ok-clause-funded
returns-in-Ok-clause-funded c =
    λ funded. rw c.in-Ok.ensures.ok (funded-more (amount_at c.args.ledger.now) c.args.self.now.postings _ funded (grind (arith, c.left-have.ensures.value, c.if-have-amount.false, c.requires.held)))
