use Rattle.std.proofs.Common.{◌+◌, ◌-◌, ◌*◌, arith}
use Rattle.convert_positions.proofs.Room.{within_larger, few_times}
use Rattle.ledger_book.specs.declared.staged.TheConstants.{MAX_POSTED}
use Rattle.convert_positions.proofs.paying.pay.Goals as goal

pub credit-requires-clause-net : goal.credit-requires-clause-net
credit-requires-clause-net c =
    let most = MAX_POSTED - 63 * c.args.each in
    c.net_amounts_grow_by_each_posting.ensures.credit _ _ _ _ _ (c.in_ok-pay_others.ensures.within most c.requires.within)
    (omega (arith, c.cash_of-cash.ensures.within, few_times c.args.questions 32 c.args.each c.requires.few))

pub returns-clause-funded : goal.returns-clause-funded
returns-clause-funded c held funded = c.in_ok-credit.ensures.funded held (c.in_ok-pay_others.ensures.funded held funded)

pub returns-clause-within : goal.returns-clause-within
returns-clause-within c most within =
    let so_far = most + c.args.questions * c.args.each in
    within_larger _ _ _ (omega (arith, c.cash_of-cash.ensures.within, few_times c.args.questions 32 c.args.each c.requires.few))
    (c.in_ok-credit.ensures.within so_far (c.in_ok-pay_others.ensures.within most within))
