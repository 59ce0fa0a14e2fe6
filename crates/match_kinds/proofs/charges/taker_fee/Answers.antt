use Rattle.std.proofs.Common.{◌≡◌, arith}
use Rattle.fee_rules.specs.Fees.{fee_of}
use Rattle.fee_rules.specs.declared.fees.TheConstants.{MAX_TOKENS}
use Rattle.match_kinds.specs.Matching.{tokens_by}
use Rattle.order_rules.specs.Prices.{price_by}
use Rattle.match_kinds.proofs.Prices.{taker-fee-le, tokens-le}
use Rattle.match_kinds.proofs.charges.taker_fee.Goals as goal

pub fee-requires-clause-tokens : goal.fee-requires-clause-tokens
fee-requires-clause-tokens c =
    let few = tokens-le c.side-side.result c.saturating_sub-made.result c.args.got MAX_TOKENS (omega arith) c.requires.got in
    omega (arith, few, c.tokens.ensures)

pub returns-clause-within : goal.returns-clause-within
returns-clause-within c =
    let side = c.side-side.result in
    let made = c.saturating_sub-made.result in
    let rate = c.args.taker.now.rate in
    let value : c.fee.result ≡ fee_of side rate (tokens_by side made c.args.got) (price_by side made c.args.got) = cc in
    omega (arith, value, taker-fee-le side rate made c.args.got c.requires.part.rate)
