-- The questions of a new event: their conditions follow one another, and each is new until it is prepared.
use Rattle.std.proofs.Common.{◌≡◌, ℕ, zero, suc, ◌+◌, ◌<◌, Bool, false, List, [], ◌∷◌, ◌++◌, length, Some, None, refl, ap, append_assoc, arith}
use Rattle.std.specs.Prelude.{slice_get, position}
use Rattle.std.proofs.lemmas.Bool.Decides.{nat_tests}
use Rattle.std.proofs.lemmas.Grind.{common_steps}
use Rattle.std.proofs.lemmas.List.Folds.{position_or_len_push}
use Rattle.condition_table.specs.Conditions.{place_of, same_facts}
use Rattle.condition_table.specs.declared.facts.Facts.{Facts}
use Rattle.event_table.specs.Events.{AreDistinct, numbers_from, question_facts, questions_from}

pub length-numbers_from : (first n : ℕ) → length (numbers_from first n) ≡ n
length-numbers_from first zero = refl
length-numbers_from first (suc n) = let rest = length-numbers_from (suc first) n in omega arith

pub length-questions_from : (e place n : ℕ) → length (questions_from e place n) ≡ n
length-questions_from e place zero = refl
length-questions_from e place (suc n) = let rest = length-questions_from e (suc place) n in omega arith

-- the next number
pub numbers_from-push : (first n : ℕ) → numbers_from first n ++ (first + n) ∷ [] ≡ numbers_from first (n + 1)
numbers_from-push first zero = let here : first + 0 ≡ first = omega arith in rw here
numbers_from-push first (suc n) =
    let last : first + suc n ≡ suc first + n = omega arith in
    let next : suc n + 1 ≡ suc (n + 1) = omega arith in
    rw (last, next) (ap (λ (ns : List ℕ). first ∷ ns) (numbers_from-push (suc first) n))

-- the question at the next place
questions_from-push : (e place n : ℕ) → questions_from e place n ++ question_facts e (place + n) ∷ [] ≡ questions_from e place (n + 1)
questions_from-push e place zero = let here : place + 0 ≡ place = omega arith in rw here
questions_from-push e place (suc n) =
    let last : place + suc n ≡ suc place + n = omega arith in
    let next : suc n + 1 ≡ suc (n + 1) = omega arith in
    rw (last, next) (ap (λ (qs : List Facts). question_facts e place ∷ qs) (questions_from-push e (suc place) n))

-- the same behind other conditions
pub facts-push : (facts : List Facts) (e n : ℕ) → (facts ++ questions_from e 0 n) ++ question_facts e n ∷ [] ≡ facts ++ questions_from e 0 (n + 1)
facts-push facts e n =
    let first : 0 + n ≡ n = omega arith in
    rw append_assoc (ap (λ (more : List Facts). facts ++ more) (rw first at (questions_from-push e 0 n)))

-- the number at a place says which place it is
slice_get-numbers_from : (first n i c : ℕ) → slice_get (numbers_from first n) i ≡ Some c → c ≡ first + i
slice_get-numbers_from first zero i c there = absurd cc
slice_get-numbers_from first (suc n) zero c there = let same : first ≡ c = cc in omega arith
slice_get-numbers_from first (suc n) (suc i) c there = let rest = slice_get-numbers_from (suc first) n i c there in omega arith

pub distinct-numbers_from : (first n : ℕ) → AreDistinct (numbers_from first n)
distinct-numbers_from first n = λ i j c here there.
    let at_i = slice_get-numbers_from first n i c here in
    let at_j = slice_get-numbers_from first n j c there in
    omega arith

-- what isn't found before isn't after something else is put last
position-push : (p : Facts → Bool) (xs : List Facts) (y : Facts) → position p xs ≡ None → p y ≡ false → position p (xs ++ y ∷ []) ≡ None
position-push p xs y none fails = grind (arith, nat_tests, common_steps, position_or_len_push)

-- a question stays new when the one at another place is prepared
pub still_new : (facts : List Facts) (e place k : ℕ) → place < k → place_of (question_facts e k) facts ≡ None → place_of (question_facts e k) (facts ++ question_facts e place ∷ []) ≡ None
still_new facts e place k other new = position-push (same_facts (question_facts e k)) facts (question_facts e place) new (grind (arith, nat_tests))
