-- Products over the numbers below one.
use Rattle.std.proofs.Common.{◌≡◌, ◌≢◌, ◌==◌, ℕ, zero, suc, ◌*◌, ◌<◌, cond, refl, sym, ap, ◌∙◌, arith, inl, inr, mul-pos, mul_assoc}
use Rattle.std.proofs.lemmas.Bool.{cases_order, cond-true, cond-false}
use Rattle.std.proofs.lemmas.Bool.Decides.{nat_tests}
use Rattle.coverage_law.specs.Worth.{product_below}

-- products of the same factors are the same
pub product-same : (n : ℕ) (f g : ℕ → ℕ) → ((i : ℕ) → i < n → f i ≡ g i) → product_below n f ≡ product_below n g
product-same zero f g same = refl
product-same (suc n) f g same =
    let before = product-same n f g (λ i below. same i (omega arith)) in
    let last = same n (omega arith) in
    λ j. before j * last j

-- where no factor is 0 the product isn't
pub product-some : (n : ℕ) (f : ℕ → ℕ) → ((i : ℕ) → 0 < f i) → 0 < product_below n f
product-some zero f some = omega arith
product-some (suc n) f some = mul-pos (product-some n f some) (some n)

-- the product of all factors but one
abbrev pub others : ℕ → (ℕ → ℕ) → ℕ → ℕ
others n f c = product_below n (λ i. cond (i == c) 1 (f i))

-- where two lists of factors differ in that one alone, the others' products are the same
pub others-same : (n : ℕ) (f g : ℕ → ℕ) (c : ℕ) → ((i : ℕ) → i ≢ c → f i ≡ g i) → others n f c ≡ others n g c
others-same n f g c same =
    product-same n (λ i. cond (i == c) 1 (f i)) (λ i. cond (i == c) 1 (g i)) (λ i below. at i)
  where
    at : (i : ℕ) → ◌≡◌ {A = ℕ} (cond (i == c) 1 (f i)) (cond (i == c) 1 (g i))
    at i = grind (arith, nat_tests, same i)

-- past the end no factor is left out
others-past : (n : ℕ) (f : ℕ → ℕ) → others n f n ≡ product_below n f
others-past n f =
    product-same n (λ i. cond (i == n) 1 (f i)) f at
  where
    at : (i : ℕ) → i < n → cond (i == n) 1 (f i) ≡ f i
    at i below = grind (arith, nat_tests)

-- a product is one factor times the others
pub product-out : (n : ℕ) (f : ℕ → ℕ) (c : ℕ) → c < n → product_below n f ≡ f c * others n f c
product-out zero f c below = absurd (omega arith)
product-out (suc n) f c below =
    elim (cases_order c n) [
      | inl same ↦
          let out : cond (n == c) 1 (f n) ≡ 1 = cond-true _ 1 (f n) (grind (arith, nat_tests)) in
          let rest : others n f c ≡ product_below n f = ap (others n f) same ∙ others-past n f in
          let left : others (suc n) f c ≡ product_below n f = (λ j. rest j * out j) ∙ omega arith in
          let factor : f c ≡ f n = ap f same in
          let both : f c * others (suc n) f c ≡ f n * product_below n f = λ j. factor j * left j in
          omega (arith, both)
      | inr other ↦ elim other [
        | inl lower ↦
            let out : cond (n == c) 1 (f n) ≡ f n = cond-false _ 1 (f n) (grind (arith, nat_tests)) in
            let rest = product-out n f c lower in
            (λ j. rest j * f n) ∙ mul_assoc (f c) (others n f c) (f n) ∙ (λ j. f c * (others n f c * sym out j))
        | inr higher ↦ absurd (omega arith)
      ]
    ]
