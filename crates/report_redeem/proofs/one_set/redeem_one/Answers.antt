use Rattle.std.proofs.Common.{◌≡◌, ◌-◌, ◌*◌, arith}
use Rattle.condition_sets.specs.declared.amount.TheConstants.{MAX_AMOUNT}
use Rattle.ledger_book.specs.Postings.{credits}
use Rattle.ledger_book.specs.declared.staged.TheConstants.{MAX_POSTED}
use Rattle.report_redeem.proofs.Room.{within_larger}
use Rattle.report_redeem.proofs.one_set.redeem_one.Goals as goal

pub credit-requires-clause-net : goal.credit-requires-clause-net
credit-requires-clause-net c =
    let unpaid : credits c.args.s.now.postings c.args.a c.in-Ok.part ≡ 0 = rw c.in-Ok.ensures.ok c.requires.unpaid in
    c.net_amounts_grow_by_each_posting.ensures.credit _ _ _ _ _ (c.in-Ok-debit.ensures.within (MAX_POSTED - 2 * MAX_AMOUNT) c.requires.within) (omega arith)

pub returns-clause-within : goal.returns-clause-within
returns-clause-within c most within =
    let unpaid : credits c.args.s.now.postings c.args.a c.in-Ok.part ≡ 0 = rw c.in-Ok.ensures.ok c.requires.unpaid in
    within_larger _ _ _ (omega arith) (c.in_ok-credit.ensures.within _ (c.in-Ok-debit.ensures.within most within))
