-- A buyer's fee is at most a tenth of the tokens, and so fits into as many bits.
use Rattle.std.proofs.Common.{arith}
use Rattle.fee_rules.proofs.Shares.{fees-le_tokens}
use Rattle.fee_rules.proofs.fees.fee.Goals as goal

pub overflow_cast-result : goal.overflow_cast-result
overflow_cast-result c =
    let tenth = fees-le_tokens 10 c.from.result c.min-margin.result c.from-2.result c.args.price 10000 (omega arith) (omega arith) (omega arith) (omega arith) in
    omega (arith, tenth, c.from-2.ensures)

pub returns-in-Buy-clause-proceeds : goal.returns-in-Buy-clause-proceeds
returns-in-Buy-clause-proceeds c =
    let tenth = fees-le_tokens 10 c.from.result c.min-margin.result c.from-2.result c.args.price 10000 (omega arith) (omega arith) (omega arith) (omega arith) in
    rw c.in-Buy.is (omega (arith, tenth, c.from-2.ensures))
