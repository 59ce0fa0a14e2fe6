-- Sums that are weighted by numerators.
use Rattle.std.proofs.Common.{◌≡◌, ℕ, suc, ◌+◌, ◌*◌, ◌<◌, ◌≤◌, List, [], ◌∷◌, ◌++◌, length, take, get_or, ap, ◌∙◌, arith, zero}
use Rattle.std.specs.Prelude.{sum}
use Rattle.std.proofs.lemmas.List.{take_more, length-take-le}
use Rattle.std.proofs.lemmas.List.Sums.{sum_by-cons}
use Rattle.condition_table.specs.Shares.{weighted}

weighted_push : (ns : List ℕ) (n : ℕ) (f : ℕ → ℕ) → weighted (ns ++ n ∷ []) f ≡ weighted ns f + n * f (length ns)
weighted_push [] n f = omega arith
weighted_push (m ∷ ms) n f = omega (arith, weighted_push ms n (λ slot. f (suc slot)))

-- one slot more
pub weighted_more : (ns : List ℕ) (f : ℕ → ℕ) (i d here : ℕ) → i < length ns → f i ≡ here → weighted (take (i + 1) ns) f ≡ weighted (take i ns) f + get_or ns i d * here
weighted_more ns f i d here inside is =
    let front : f (length (take i ns)) ≡ here = ap f (length-take-le i ns (omega arith)) ∙ is in
    ap (λ ms. weighted ms f) (take_more ns i d inside)
    ∙ (weighted_push (take i ns) (get_or ns i d) f
    ∙ ap (λ (n : ℕ). weighted (take i ns) f + get_or ns i d * n) front)

at-most-once : (n m : ℕ) → m < 2 → n * m ≤ n
at-most-once n zero few = omega arith
at-most-once n (suc zero) few = omega arith
at-most-once n (suc (suc m)) few = absurd (omega arith)

-- where no slot counts more than once the sum is at most that of all
pub weighted-le-sum : (ns : List ℕ) (f : ℕ → ℕ) → ((slot : ℕ) → f slot < 2) → weighted ns f ≤ sum ns
weighted-le-sum [] f once = omega arith
weighted-le-sum (n ∷ ns) f once =
    omega (arith, at-most-once n (f 0) (once 0), weighted-le-sum ns (λ slot. f (suc slot)) (λ slot. once (suc slot)), sum_by-cons (λ (x : ℕ). x) n ns)
