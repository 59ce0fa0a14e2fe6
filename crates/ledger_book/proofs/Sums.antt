-- Sums over the accounts below a number.
use Rattle.std.proofs.Common.{◌≡◌, ℕ, ◌+◌, ◌<◌, ◌≤◌, zero, suc, refl, ap, arith, inl, inr}
use Rattle.std.specs.Prelude.{◌==◌, cond}
use Rattle.std.proofs.lemmas.Bool.{cases_lt}
use Rattle.std.proofs.lemmas.Bool.Decides.{nat_tests}
use Rattle.ledger_book.specs.Ledger.{sum_below}

-- equal terms have equal sums
pub sum_below-same : (n : ℕ) (f g : ℕ → ℕ) → ((a : ℕ) → f a ≡ g a) → sum_below n f ≡ sum_below n g
sum_below-same zero f g same = refl
sum_below-same (suc n) f g same = omega (arith, sum_below-same n f g same, same n)

-- the sum of sums
pub sum_below-add : (n : ℕ) (f g : ℕ → ℕ) → sum_below n (λ a. f a + g a) ≡ sum_below n f + sum_below n g
sum_below-add zero f g = refl
sum_below-add (suc n) f g = omega (arith, sum_below-add n f g)

-- terms of 0 add nothing
pub sum_below-none : (n : ℕ) (f : ℕ → ℕ) → ((a : ℕ) → a < n → f a ≡ 0) → sum_below n f ≡ 0
sum_below-none zero f none = refl
sum_below-none (suc n) f none = omega (arith, sum_below-none n f (λ a below. none a (omega (arith, below))), none n (omega arith))

-- the sum goes on past the last term that isn't 0
pub sum_below-more : (n m : ℕ) (f : ℕ → ℕ) → n ≤ m → ((a : ℕ) → n ≤ a → f a ≡ 0) → sum_below m f ≡ sum_below n f
sum_below-more n zero f fits none =
    let at : zero ≡ n = omega (arith, fits) in
    ap (λ many. sum_below many f) at
sum_below-more n (suc m) f fits none =
    elim (cases_lt m n) [
      | inl last ↦
          let at : suc m ≡ n = omega (arith, last, fits) in
          ap (λ many. sum_below many f) at
      | inr past ↦ omega (arith, sum_below-more n m f past none, none m past)
    ]

-- a term is within the sum
pub sum_below-term : (n a : ℕ) (f : ℕ → ℕ) → a < n → f a ≤ sum_below n f
sum_below-term zero a f below = omega (arith, below)
sum_below-term (suc n) a f below =
    elim (cases_lt a n) [
      | inl less ↦ omega (arith, sum_below-term n a f less)
      | inr past ↦
          let at : a ≡ n = omega (arith, below, past) in
          omega (arith, ap f at)
    ]

pub sum_below-le : (n : ℕ) (f g : ℕ → ℕ) → ((b : ℕ) → g b ≤ f b) → sum_below n g ≤ sum_below n f
sum_below-le zero f g below = omega arith
sum_below-le (suc n) f g below = omega (arith, sum_below-le n f g below, below n)

-- where no term falls short, one term's surplus is within that of the sum
pub sum_below-slack : (n a : ℕ) (f g : ℕ → ℕ) → ((b : ℕ) → g b ≤ f b) → a < n → f a + sum_below n g ≤ sum_below n f + g a
sum_below-slack zero a f g enough below = omega (arith, below)
sum_below-slack (suc n) a f g enough below =
    elim (cases_lt a n) [
      | inl less ↦ omega (arith, sum_below-slack n a f g enough less, enough n)
      | inr past ↦
          let at : a ≡ n = omega (arith, below, past) in
          omega (arith, ap f at, ap g at, sum_below-le n f g enough)
    ]

single_past : (n b x : ℕ) → n ≤ b → sum_below n (λ a. cond (b == a) x 0) ≡ 0
single_past n b x past = sum_below-none n (λ a. cond (b == a) x 0) (λ a below. grind (arith, nat_tests, below, past))

-- one account's amount
pub sum_below-single : (n b x : ℕ) → b < n → sum_below n (λ a. cond (b == a) x 0) ≡ x
sum_below-single zero b x below = omega (arith, below)
sum_below-single (suc n) b x below =
    elim (cases_lt b n) [
      | inl less ↦
          let other : cond (b == n) x 0 ≡ 0 = grind (arith, nat_tests, less) in
          omega (arith, sum_below-single n b x less, other)
      | inr past ↦
          let here : cond (b == n) x 0 ≡ x = grind (arith, nat_tests, below, past) in
          omega (arith, single_past n b x past, here)
    ]
