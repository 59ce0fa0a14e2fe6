-- What an ascending list of pairs has of each condition.
use Rattle.std.proofs.Common.{◌≡◌, ℕ, ◌≤◌, true, [], ◌∷◌, None, refl, sym, ◌∙◌, arith, inl, inr}
use Rattle.std.proofs.lemmas.Bool.{cases_order, cases_eq}
use Rattle.std.proofs.lemmas.Bool.Decides.{nat_tests}
use Rattle.collection_keys.specs.Collections.{Pairs, part, is_ascending}

-- behind the first of ascending pairs they ascend too
pub ascending-tail : (p : ℕ × ℕ) (ps : Pairs) → is_ascending (p ∷ ps) ≡ true → is_ascending ps ≡ true
ascending-tail p [] ascending = refl
ascending-tail p (q ∷ ps) ascending = grind (arith, nat_tests)

-- ascending pairs have no condition behind the first that is at or below it
pub none_behind : (p : ℕ × ℕ) (ps : Pairs) (c : ℕ) → is_ascending (p ∷ ps) ≡ true → c ≤ p.0 → part ps c ≡ None
none_behind p [] c ascending below = refl
none_behind p (q ∷ ps) c ascending below = grind (arith, nat_tests, none_behind q ps c)

-- of two ascending lists that have the same of both first conditions these are one
same_first : (p q : ℕ × ℕ) (ps qs : Pairs) → is_ascending (p ∷ ps) ≡ true → is_ascending (q ∷ qs) ≡ true
    → part (p ∷ ps) p.0 ≡ part (q ∷ qs) p.0 → part (p ∷ ps) q.0 ≡ part (q ∷ qs) q.0 → p.0 ≡ q.0
same_first p q ps qs rises climbs here there =
    elim (cases_order p.0 q.0) [
      | inl same ↦ same
      | inr other ↦ elim other [
        | inl lower ↦ let none = none_behind q qs p.0 climbs (omega arith) in absurd (grind (arith, nat_tests))
        | inr higher ↦ let none = none_behind p ps q.0 rises (omega arith) in absurd (grind (arith, nat_tests))
      ]
    ]

-- what they have behind the first condition is the same too
same_behind : (p q : ℕ × ℕ) (ps qs : Pairs) (c : ℕ) → is_ascending (p ∷ ps) ≡ true → is_ascending (q ∷ qs) ≡ true
    → p.0 ≡ q.0 → part (p ∷ ps) c ≡ part (q ∷ qs) c → part ps c ≡ part qs c
same_behind p q ps qs c rises climbs first same =
    elim (cases_eq p.0 c) [
      | inl here ↦ none_behind p ps c rises (omega arith) ∙ sym (none_behind q qs c climbs (omega arith))
      | inr apart ↦ grind (arith, nat_tests)
    ]

-- ascending pairs that have the same of each condition are the same
pub same_from_parts : (j k : Pairs) → is_ascending j ≡ true → is_ascending k ≡ true → ((c : ℕ) → part j c ≡ part k c) → j ≡ k
same_from_parts [] [] rises climbs same = refl
same_from_parts [] (q ∷ qs) rises climbs same = let first = same q.0 in grind (arith, nat_tests)
same_from_parts (p ∷ ps) [] rises climbs same = let first = same p.0 in grind (arith, nat_tests)
same_from_parts (p ∷ ps) (q ∷ qs) rises climbs same =
    let condition : p.0 ≡ q.0 = same_first p q ps qs rises climbs (same p.0) (same q.0) in
    let at_first = same p.0 in
    let set : p.1 ≡ q.1 = grind (arith, nat_tests) in
    let rest = same_from_parts ps qs (ascending-tail p ps rises) (ascending-tail q qs climbs)
    (λ c. same_behind p q ps qs c rises climbs condition (same c)) in
    λ i. (condition i, set i) ∷ rest i
