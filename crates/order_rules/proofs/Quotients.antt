-- Quotients that are rounded down: what a fill takes, and how prices compare with exact fractions.
use Rattle.std.proofs.Common.{◌≡◌, ℕ, ◌+◌, ◌*◌, ◌/◌, ◌≤◌, ap, arith}
use Rattle.std.proofs.Math.Nat.{div-mul-le_self, div-le_of_le-mul, mul-le-mul_left, mul-le-mul_right, le_of_mul-le-mul_left, one-le-mul}
use Rattle.std.proofs.lemmas.Nat.{le-div}

-- a fill takes at least itself, where the whole takes at least what it makes
pub fill-le_taking : (fill making taking : ℕ) → 1 ≤ making → making ≤ taking → fill ≤ fill * taking / making
fill-le_taking fill making taking some more = le-div fill (fill * taking) making some (mul-le-mul_left fill more)

-- a fill that is bought by what is left takes at most what is left
pub taking-le_left : (fill left making taking : ℕ) → fill ≤ left * making / taking → fill * taking / making ≤ left
taking-le_left fill left making taking bought =
    let filled : fill * taking ≤ left * making / taking * taking = mul-le-mul_right taking bought in
    let back : left * making / taking * taking ≤ left * making = div-mul-le_self (left * making) taking in
    let whole : fill * taking ≤ making * left = omega (arith, filled, back) in
    div-le_of_le-mul making whole

-- the same of a maker of a mint, which takes so many tokens more than it pays cash
pub taking-le_left-fill : (fill left making more taking : ℕ) → taking ≡ making + more → fill ≤ left * making / more → fill * taking / making ≤ left + fill
taking-le_left-fill fill left making more taking split bought =
    let taken : fill * taking ≡ fill * (making + more) = ap (λ n. fill * n) split in
    let filled : fill * more ≤ left * making / more * more = mul-le-mul_right more bought in
    let back : left * making / more * more ≤ left * making = div-mul-le_self (left * making) more in
    let whole : fill * taking ≤ making * (left + fill) = omega (arith, taken, filled, back) in
    div-le_of_le-mul making whole

-- a fraction that is at most another has at most its price
pub price-le : (a b c d one : ℕ) → 1 ≤ b → 1 ≤ d → a * d ≤ c * b → a * one / b ≤ c * one / d
price-le a b c d one some_b some_d below =
    let p = a * one / b in
    let price : p * b ≤ a * one = div-mul-le_self (a * one) b in
    let priced : p * b * d ≤ a * one * d = mul-le-mul_right d price in
    let scaled : a * d * one ≤ c * b * one = mul-le-mul_right one below in
    let whole : b * (p * d) ≤ b * (c * one) = omega (arith, priced, scaled) in
    le-div p (c * one) d some_d (le_of_mul-le-mul_left whole some_b)

-- prices that reach a whole are of fractions that reach it
pub whole-le_fractions : (a b c d one : ℕ) → 1 ≤ one → one ≤ a * one / b + c * one / d → b * d ≤ a * d + c * b
whole-le_fractions a b c d one some reach =
    let p = a * one / b in
    let q = c * one / d in
    let first : p * b * d ≤ a * one * d = mul-le-mul_right d (div-mul-le_self (a * one) b) in
    let second : q * d * b ≤ c * one * b = mul-le-mul_right b (div-mul-le_self (c * one) d) in
    let both : one * (b * d) ≤ (p + q) * (b * d) = mul-le-mul_right (b * d) reach in
    let whole : one * (b * d) ≤ one * (a * d + c * b) = omega (arith, first, second, both) in
    le_of_mul-le-mul_left whole some

-- fractions within a whole have prices within it
pub prices-le_whole : (a b c d one : ℕ) → 1 ≤ b → 1 ≤ d → a * d + c * b ≤ b * d → a * one / b + c * one / d ≤ one
prices-le_whole a b c d one some_b some_d within =
    let p = a * one / b in
    let q = c * one / d in
    let first : p * b * d ≤ a * one * d = mul-le-mul_right d (div-mul-le_self (a * one) b) in
    let second : q * d * b ≤ c * one * b = mul-le-mul_right b (div-mul-le_self (c * one) d) in
    let both : (a * d + c * b) * one ≤ b * d * one = mul-le-mul_right one within in
    let whole : b * d * (p + q) ≤ b * d * one = omega (arith, first, second, both) in
    le_of_mul-le-mul_left whole (one-le-mul some_b some_d)
