-- Numbers that are all 0.
use Rattle.std.proofs.Common.{◌≡◌, ◌==◌, ◌+◌, ℕ, Bool, List, [], ◌∷◌, refl, arith}
use Rattle.std.specs.Prelude.{sum, ◌&&◌}
use Rattle.std.specs.List.{list_all}
use Rattle.std.proofs.lemmas.Bool.Decides.{nat_tests}
use Rattle.std.proofs.lemmas.List.Sums.{sum_by-cons}

-- one of two is 0 with the other
both_zero : (x y : ℕ) (b : Bool) → b ≡ (y == 0) → ((x == 0) && b) ≡ (x + y == 0)
both_zero x y b is = grind (arith, nat_tests, is)

-- they are exactly where their sum is
pub all_zero : (xs : List ℕ) → list_all (λ x. x == 0) xs ≡ (sum xs == 0)
all_zero [] = refl
all_zero (x ∷ xs) = rw (sum_by-cons (λ (y : ℕ). y) x xs) (both_zero x (sum xs) (list_all (λ y. y == 0) xs) (all_zero xs))
