use Rattle.std.proofs.Common.{◌≡◌, rules, arith}
use Rattle.condition_sets.specs.declared.amount.TheConstants.{MAX_AMOUNT}
use Rattle.book_propose.specs.Candidates.{fit_with}
use Rattle.book_propose.proofs.Fitting.{IfSome-fit}
use Rattle.book_propose.proofs.candidates.fit_with.Goals as goal

pub returns-in-Some-clause-amount : goal.returns-in-Some-clause-amount
returns-in-Some-clause-amount c =
    let value : c.fit.result ≡ fit_with c.args.taker.now c.args.maker.now c.args.left = search rules in
    IfSome-fit c.args.taker.now c.args.maker.now c.args.left MAX_AMOUNT c.fit.result value (omega arith)
