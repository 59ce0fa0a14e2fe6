use Rattle.std.proofs.Common.{rules, ◌≡◌, ◌≤◌, arith}
use Rattle.order_rules.specs.declared.kinds.MatchKind.TheVariants.{Complementary, Mint}
use Rattle.order_rules.specs.Fits.{fit_of}
use Rattle.order_rules.specs.Prices.{taking_of}
use Rattle.order_rules.proofs.Quotients.{fill-le_taking}
use Rattle.order_rules.proofs.Spending.{IfSome-fit_of}
use Rattle.order_rules.proofs.fits.fit.Goals as goal

pub overflow_sub-taken : goal.overflow_sub-taken
overflow_sub-taken c =
    let fill = c.most_fill-fill-in-Mint.result in
    let maker = c.args.maker.now in
    let taken : fill ≤ taking_of maker fill = fill-le_taking fill maker.making maker.taking (omega arith) (omega arith) in
    omega (arith, taken, c.taking-taken-in-Mint.ensures.value)

pub returns-in-Complementary-clause-within : goal.returns-in-Complementary-clause-within
returns-in-Complementary-clause-within c =
    let value : c.checked_fit.result ≡ fit_of Complementary c.args.maker.now c.args.left c.args.rest = search rules in
    rw value (IfSome-fit_of Complementary c.args.maker.now c.args.left c.args.rest)

pub returns-else-taking-making-clause-within : goal.returns-else-taking-making-clause-within
returns-else-taking-making-clause-within c =
    let value : c.checked_fit-in-Mint.result ≡ fit_of Mint c.args.maker.now c.args.left c.args.rest = search rules in
    rw value (IfSome-fit_of Mint c.args.maker.now c.args.left c.args.rest)
