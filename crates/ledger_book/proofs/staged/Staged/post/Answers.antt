use Rattle.std.proofs.Common.{◌+◌, ◌≤◌, arith}
use Rattle.ledger_book.specs.Ledger.{amount_at}
use Rattle.ledger_book.specs.Postings.{credits, debits}
use Rattle.ledger_book.proofs.Funding.{funded-more}
use Rattle.ledger_book.proofs.staged.Staged.post.Goals as goal

pub returns-in-Ok-clause-funded : goal.returns-in-Ok-clause-funded
returns-in-Ok-clause-funded c =
    let held = amount_at c.args.ledger.now in
    let ps = c.args.self.now.postings in
    let p = c.signed.result in
    let fits : debits ps c.args.a c.args.k.now + p.taken ≤ held c.args.a c.args.k.now + credits ps c.args.a c.args.k.now + p.paid
    = grind (arith, c.left-have.ensures.value, c.if-have-amount-lt0.false, c.signed.ensures.moved) in
    λ funded. rw c.in-Ok.ensures.ok (funded-more held ps p funded (rw (c.signed.ensures.position.0, c.signed.ensures.position.1) fits))
