-- Sums that are weighted by numerators.
use Rattle.std.proofs.Common.{◌≡◌, ℕ, suc, ◌+◌, ◌*◌, ◌<◌, ◌≤◌, List, [], ◌∷◌, length, sum, refl, ap, arith, mul-le-mul_left}
use Rattle.std.proofs.lemmas.List.Sums.{sum_by-cons}
use Rattle.condition_table.specs.Shares.{weighted}

-- what is less at each slot is less together
pub weighted-le : (ns : List ℕ) (f g : ℕ → ℕ) → ((slot : ℕ) → slot < length ns → f slot ≤ g slot) → weighted ns f ≤ weighted ns g
weighted-le [] f g less = omega arith
weighted-le (n ∷ ns) f g less =
    let first : n * f 0 ≤ n * g 0 = mul-le-mul_left n (less 0 (omega arith)) in
    let rest = weighted-le ns (λ slot. f (suc slot)) (λ slot. g (suc slot)) (λ slot below. less (suc slot) (omega arith)) in
    omega (arith, first, rest)

-- what is the same at each slot is the same together
pub weighted-same : (ns : List ℕ) (f g : ℕ → ℕ) → ((slot : ℕ) → slot < length ns → f slot ≡ g slot) → weighted ns f ≡ weighted ns g
weighted-same ns f g same =
    let up = weighted-le ns f g (λ slot below. omega (arith, same slot below)) in
    let down = weighted-le ns g f (λ slot below. omega (arith, same slot below)) in
    omega (arith, up, down)

-- the sum of two amounts for each slot is the sum of both sums
pub weighted-sum : (ns : List ℕ) (f g : ℕ → ℕ) → weighted ns (λ slot. f slot + g slot) ≡ weighted ns f + weighted ns g
weighted-sum [] f g = refl
weighted-sum (n ∷ ns) f g = omega (arith, weighted-sum ns (λ slot. f (suc slot)) (λ slot. g (suc slot)))

-- a factor that all slots share stands before the sum
pub weighted-times : (ns : List ℕ) (x : ℕ) (f : ℕ → ℕ) → weighted ns (λ slot. x * f slot) ≡ x * weighted ns f
weighted-times [] x f = omega arith
weighted-times (n ∷ ns) x f = omega (arith, weighted-times ns x (λ slot. f (suc slot)))

-- or behind it
pub weighted-times_right : (ns : List ℕ) (x : ℕ) (f : ℕ → ℕ) → weighted ns (λ slot. f slot * x) ≡ weighted ns f * x
weighted-times_right [] x f = omega arith
weighted-times_right (n ∷ ns) x f = omega (arith, weighted-times_right ns x (λ slot. f (suc slot)))

-- with 1 for each slot it is the sum of the numerators
pub weighted-one : (ns : List ℕ) → weighted ns (λ slot. 1) ≡ sum ns
weighted-one [] = refl
weighted-one (n ∷ ns) = omega (arith, weighted-one ns, sum_by-cons (λ (x : ℕ). x) n ns)

-- with the same for each slot it is as many times that sum
pub weighted-constant : (ns : List ℕ) (x : ℕ) → weighted ns (λ slot. x) ≡ sum ns * x
weighted-constant [] x = omega arith
weighted-constant (n ∷ ns) x =
    let whole : sum (n ∷ ns) * x ≡ (n + sum ns) * x = ap (λ (m : ℕ). m * x) (sum_by-cons (λ (y : ℕ). y) n ns) in
    omega (arith, weighted-constant ns x, whole)
