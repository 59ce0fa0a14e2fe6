use Rattle.std.proofs.Common.{◌≡◌, arith, rules}
use Rattle.fee_rules.specs.declared.fees.TheConstants.{MAX_TOKENS}
use Rattle.match_kinds.specs.Matching.{maker_fee}
use Rattle.match_kinds.proofs.Prices.{maker_fee-le, tokens-le}
use Rattle.match_kinds.proofs.charges.maker_fee.Goals as goal

pub fee-requires-clause-tokens : goal.fee-requires-clause-tokens
fee-requires-clause-tokens c =
    let few = tokens-le c.side-side.result c.args.m.now.fill c.taking_by.result MAX_TOKENS (omega (arith, c.taking_by.ensures.fill)) (omega (arith, c.taking_by.ensures.within)) in
    omega (arith, few, c.tokens-tokens.ensures)

pub returns-clause-within : goal.returns-clause-within
returns-clause-within c =
    let value : c.fee.result ≡ maker_fee c.args.m.now = search rules in
    omega (arith, value, maker_fee-le c.args.m.now c.requires.part)

pub returns-clause-amount : goal.returns-clause-amount
returns-clause-amount c =
    let value : c.fee.result ≡ maker_fee c.args.m.now = search rules in
    omega (arith, value, maker_fee-le c.args.m.now c.requires.part, c.taking_by.ensures.value, c.taking_by.ensures.within)
