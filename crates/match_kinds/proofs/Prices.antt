-- What is charged is within what is got.
use Rattle.std.proofs.Common.{ℕ, ◌*◌, ◌/◌, ◌^◌, ◌≤◌, Bool, true, false, arith}
use Rattle.std.specs.Prelude.{◌&&◌, nat_lt, nat_le, if◌then◌else◌}
use Rattle.std.proofs.Math.Nat.{div-mul-le_self, div-le_of_le-mul, mul-le-mul_right, le_of_mul-le-mul_left}
use Rattle.std.proofs.lemmas.Nat.{le-div, mul-le}
use Rattle.fee_rules.specs.Fees.{fee_at, fee_of, margin, proceeds_of}
use Rattle.fee_rules.specs.declared.fees.TheConstants.{MAX_RATE}
use Rattle.match_kinds.specs.Matching.{IsPart, maker_fee, taking_by, tokens_by}
use Rattle.match_kinds.specs.declared.part.Part.{Part}
use Rattle.order_rules.specs.Prices.{price_by, price_of}
use Rattle.order_rules.specs.declared.prices.TheConstants.{ONE}
use Rattle.order_rules.specs.declared.side.Side.{Side}
use Rattle.order_rules.specs.declared.side.Side.TheVariants.{Buy, Sell}

-- so many tokens at the price of others, at which these cost so much
priced-le : (cash tokens one sold : ℕ) → 1 ≤ tokens → 1 ≤ one → cash * one / tokens * sold / one ≤ sold * cash / tokens
priced-le cash tokens one sold some some_one =
    let p = cash * one / tokens in
    let q = p * sold / one in
    let price : p * tokens ≤ cash * one = div-mul-le_self (cash * one) tokens in
    let priced : p * tokens * sold ≤ cash * one * sold = mul-le-mul_right sold price in
    let back : q * one * tokens ≤ p * sold * tokens = mul-le-mul_right tokens (div-mul-le_self (p * sold) one) in
    let whole : one * (q * tokens) ≤ one * (sold * cash) = omega (arith, priced, back) in
    le-div q (sold * cash) tokens some (le_of_mul-le-mul_left whole some_one)

-- what a maker gets by the rule of fees is at most what it takes
maker-proceeds-le : (side : Side) (fill making taking : ℕ) → 1 ≤ making
    → proceeds_of side (tokens_by side fill (fill * taking / making)) (price_by side making taking) ≤ fill * taking / making
maker-proceeds-le Buy fill making taking some = omega arith
maker-proceeds-le Sell fill making taking some = priced-le taking making ONE fill some (omega arith)

-- what a taker gets by the rule of fees is at most what it got
taker-proceeds-le : (side : Side) (made got : ℕ) → proceeds_of side (tokens_by side made got) (price_by side made got) ≤ got
taker-proceeds-le Buy made got = omega arith
taker-proceeds-le Sell made got =
    let price : got * ONE / made * made ≤ got * ONE = div-mul-le_self (got * ONE) made in
    let whole : got * ONE / made * made ≤ ONE * got = omega (arith, price) in
    div-le_of_le-mul ONE whole

margin-le : (price : ℕ) → margin price ≤ price
margin-le price = omega arith

-- at a rate of at most the whole a fee is at most what the side gets
at-le-proceeds : (side : Side) (rate tokens price : ℕ) → rate ≤ 10 ^ 4 → fee_at side rate tokens price ≤ proceeds_of side tokens price
at-le-proceeds Buy rate tokens price low =
    let share : rate * margin price ≤ 10 ^ 4 * price = mul-le rate (margin price) (10 ^ 4) price low (margin-le price) in
    let whole : rate * margin price * tokens ≤ 10 ^ 4 * price * tokens = mul-le-mul_right tokens share in
    let turned : rate * margin price * tokens ≤ price * 10 ^ 4 * tokens = omega (arith, whole) in
    div-le_of_le-mul (price * 10 ^ 4) turned
at-le-proceeds Sell rate tokens price low =
    let q = rate * margin price * tokens / (10 ^ 4 * ONE) in
    let share : rate * margin price ≤ 10 ^ 4 * price = mul-le rate (margin price) (10 ^ 4) price low (margin-le price) in
    let whole : rate * margin price * tokens ≤ 10 ^ 4 * price * tokens = mul-le-mul_right tokens share in
    let back : q * (10 ^ 4 * ONE) ≤ rate * margin price * tokens = div-mul-le_self (rate * margin price * tokens) (10 ^ 4 * ONE) in
    le-div q (price * tokens) ONE (omega arith) (omega (arith, whole, back))

if-le : (test : Bool) (a b : ℕ) → a ≤ b → (if test then a else 0) ≤ b
if-le true a b below = below
if-le false a b below = omega arith

-- and so is what is charged of it
fee-le-proceeds : (side : Side) (rate tokens price : ℕ) → rate ≤ MAX_RATE → fee_of side rate tokens price ≤ proceeds_of side tokens price
fee-le-proceeds side rate tokens price low =
    if-le (nat_lt 0 price && nat_le price ONE) (fee_at side rate tokens price) (proceeds_of side tokens price) (at-le-proceeds side rate tokens price (omega arith))

-- a maker's fee is within what it gets
pub maker_fee-le : (m : Part) → IsPart m → maker_fee m ≤ taking_by m
maker_fee-le m part =
    let side = m.limit.side in
    let fee = fee-le-proceeds side m.rate (tokens_by side m.fill (taking_by m)) (price_of m.limit) part.rate in
    let within = maker-proceeds-le side m.fill m.limit.making m.limit.taking (omega (arith, part.some, part.within)) in
    omega (arith, fee, within)

-- and so is the fee of a taker that got so much for so much
pub taker-fee-le : (side : Side) (rate made got : ℕ) → rate ≤ MAX_RATE → fee_of side rate (tokens_by side made got) (price_by side made got) ≤ got
taker-fee-le side rate made got low =
    let fee = fee-le-proceeds side rate (tokens_by side made got) (price_by side made got) low in
    let within = taker-proceeds-le side made got in
    omega (arith, fee, within)

-- as many tokens as are paid or got
pub tokens-le : (side : Side) (paid got most : ℕ) → paid ≤ most → got ≤ most → tokens_by side paid got ≤ most
tokens-le Buy paid got most paid_few got_few = got_few
tokens-le Sell paid got most paid_few got_few = paid_few
