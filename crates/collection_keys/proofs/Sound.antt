-- What joining and taking out make is a collection.
use Rattle.std.proofs.Common.{◌≡◌, ℕ, ◌+◌, ◌<◌, ◌==◌, Bool, true, not, nat_lt, [], ◌∷◌, length, All, None, refl, arith}
use Rattle.std.proofs.lemmas.Bool.{cond_both}
use Rattle.std.proofs.lemmas.Bool.Decides.{nat_tests}
use Rattle.std.proofs.lemmas.List.Elements.{All-cons, All-head, All-tail, All-filter}
use Rattle.std.proofs.lemmas.List.Sums.{length-filter, count_by-le-length}
use Rattle.collection_keys.specs.Collections.{Pairs, part, joined, without, is_ascending, IsPair, IsCollection}
use Rattle.collection_keys.specs.declared.collection.TheConstants.{MAX_PAIRS}
use Rattle.collection_keys.proofs.Parts.{ascending-tail}

-- joining makes the list one pair longer
pub length-joined : (k : Pairs) (c i : ℕ) → length (joined k c i) ≡ length k + 1
length-joined [] c i = refl
length-joined (p ∷ ps) c i = grind (arith, nat_tests, length-joined ps c i)

ascending-joined : (k : Pairs) (c i : ℕ) → is_ascending k ≡ true → part k c ≡ None → is_ascending (joined k c i) ≡ true
ascending-joined [] c i ascending none = refl
ascending-joined (p ∷ []) c i ascending none = grind (arith, nat_tests)
ascending-joined (p ∷ q ∷ ps) c i ascending none = grind (arith, nat_tests, ascending-joined (q ∷ ps) c i)

All-joined : (k : Pairs) (c i : ℕ) → All IsPair k → IsPair (c, i) → All IsPair (joined k c i)
All-joined [] c i pairs pair = All-cons IsPair (c, i) [] pair pairs
All-joined (p ∷ ps) c i pairs pair =
    cond_both (nat_lt p.0 c) (p ∷ joined ps c i) ((c, i) ∷ p ∷ ps) (All IsPair)
    (λ lower. All-cons IsPair p (joined ps c i) (All-head IsPair p ps pairs) (All-joined ps c i (All-tail IsPair p ps pairs) pair))
    (λ higher. All-cons IsPair (c, i) (p ∷ ps) pair pairs)

-- a collection that has room, with a condition joined that it doesn't have, is one
pub IsCollection-joined : (k : Pairs) (c i : ℕ) → IsCollection k → part k c ≡ None → length k < MAX_PAIRS → IsPair (c, i) → IsCollection (joined k c i)
IsCollection-joined k c i collection none room pair = record {
  ascending = ascending-joined k c i collection.ascending none;
  pairs = All-joined k c i collection.pairs pair;
  few = omega (arith, length-joined k c i);
}

-- a pair may be left out behind the first
ascending-skip : (p q : ℕ × ℕ) (ps : Pairs) → is_ascending (p ∷ q ∷ ps) ≡ true → is_ascending (p ∷ ps) ≡ true
ascending-skip p q [] ascending = refl
ascending-skip p q (r ∷ ps) ascending = grind (arith, nat_tests)

ascending-behind : (p : ℕ × ℕ) (ps : Pairs) (c : ℕ) → is_ascending (p ∷ ps) ≡ true → is_ascending (p ∷ without ps c) ≡ true
ascending-behind p [] c ascending = refl
ascending-behind p (q ∷ ps) c ascending =
    grind (arith, nat_tests, ascending-behind q ps c, ascending-behind p ps c (ascending-skip p q ps ascending))

ascending-without : (k : Pairs) (c : ℕ) → is_ascending k ≡ true → is_ascending (without k c) ≡ true
ascending-without [] c ascending = refl
ascending-without (p ∷ ps) c ascending =
    grind (arith, nat_tests, ascending-behind p ps c ascending, ascending-without ps c (ascending-tail p ps ascending))

-- so is what is left when a condition is taken out
pub IsCollection-without : (k : Pairs) (c : ℕ) → IsCollection k → IsCollection (without k c)
IsCollection-without k c collection =
    let differs : ℕ × ℕ → Bool = λ p. not (p.0 == c) in
    record {
      ascending = ascending-without k c collection.ascending;
      pairs = All-filter differs IsPair k collection.pairs;
      few = omega (arith, length-filter differs k, count_by-le-length differs k, collection.few);
    }
