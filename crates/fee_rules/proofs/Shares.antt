-- How large a fee can be beside what it is taken of.
use Rattle.std.proofs.Common.{ℕ, ◌*◌, ◌/◌, ◌≤◌, arith}
use Rattle.std.proofs.Math.Nat.{div-mul-le_self, mul-le-mul_right, le_of_mul-le-mul_left, one-le-mul}
use Rattle.std.proofs.lemmas.Nat.{mul-le}

-- A buyer's fee: where so many times the rate is within the scale of rates, so many fees are within the tokens.
pub fees-le_tokens : (times rate margin tokens price scale : ℕ) → 1 ≤ price → 1 ≤ scale → times * rate ≤ scale → margin ≤ price
    → times * (rate * margin * tokens / (price * scale)) ≤ tokens
fees-le_tokens times rate margin tokens price scale some_price some_scale low cheap =
    let fee = rate * margin * tokens / (price * scale) in
    let back : fee * (price * scale) ≤ rate * margin * tokens = div-mul-le_self (rate * margin * tokens) (price * scale) in
    let scaled : fee * (price * scale) * times ≤ rate * margin * tokens * times = mul-le-mul_right times back in
    let bounded : times * rate * margin ≤ scale * price = mul-le (times * rate) margin scale price low cheap in
    let filled : times * rate * margin * tokens ≤ scale * price * tokens = mul-le-mul_right tokens bounded in
    let whole : price * scale * (times * fee) ≤ price * scale * tokens = omega (arith, scaled, filled) in
    le_of_mul-le-mul_left whole (one-le-mul some_price some_scale)
