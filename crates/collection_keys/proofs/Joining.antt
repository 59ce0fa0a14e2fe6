-- Joining a condition to a list of pairs, and taking one out.
use Rattle.std.proofs.Common.{◌≡◌, ◌≢◌, ℕ, [], ◌∷◌, Some, None, refl, arith}
use Rattle.std.proofs.lemmas.Bool.Decides.{nat_tests}
use Rattle.collection_keys.specs.Collections.{Pairs, part, joined, without}

-- joining in either order
pub joined-joined : (k : Pairs) (c d i j : ℕ) → c ≢ d → joined (joined k c i) d j ≡ joined (joined k d j) c i
joined-joined [] c d i j apart = grind (arith, nat_tests)
joined-joined (p ∷ ps) c d i j apart = grind (arith, nat_tests, joined-joined ps c d i j apart)

-- the condition that was joined
pub part-joined_same : (k : Pairs) (c i : ℕ) → part k c ≡ None → part (joined k c i) c ≡ Some i
part-joined_same [] c i none = grind (arith, nat_tests)
part-joined_same (p ∷ ps) c i none = grind (arith, nat_tests, part-joined_same ps c i)

-- any other condition
pub part-joined_other : (k : Pairs) (c d i : ℕ) → c ≢ d → part (joined k c i) d ≡ part k d
part-joined_other [] c d i apart = grind (arith, nat_tests)
part-joined_other (p ∷ ps) c d i apart = grind (arith, nat_tests, part-joined_other ps c d i apart)

-- what the collection doesn't have can't be taken out
pub without_none : (k : Pairs) (c : ℕ) → part k c ≡ None → without k c ≡ k
without_none [] c none = refl
without_none (p ∷ ps) c none = grind (arith, nat_tests, without_none ps c)

-- taking out what was joined
pub without-joined : (k : Pairs) (c i : ℕ) → part k c ≡ None → without (joined k c i) c ≡ k
without-joined [] c i none = grind (arith, nat_tests)
without-joined (p ∷ ps) c i none = grind (arith, nat_tests, without-joined ps c i, without_none (p ∷ ps) c none)
