-- Joining and taking out at a place of the list.
use Rattle.std.proofs.Common.{◌≡◌, ◌==◌, ℕ, ◌+◌, ◌<◌, Bool, true, nat_lt, [], ◌∷◌, length, slice_get, position, find, insert, remove, option_map, Some, None, refl, ap, ◌∙◌, arith}
use Rattle.std.specs.List.{position_or_len, prefix_len}
use Rattle.std.proofs.Math.Numerals.{one-add}
use Rattle.std.proofs.lemmas.List.Folds.{find_at}
use Rattle.std.proofs.lemmas.Bool.Decides.{nat_tests}
use Rattle.collection_keys.specs.Collections.{Pairs, part, joined, without, is_ascending}
use Rattle.collection_keys.proofs.Joining.{without_none}
use Rattle.collection_keys.proofs.Parts.{none_behind, ascending-tail}

insert-cons : (p : ℕ × ℕ) (ps : Pairs) (n : ℕ) (q : ℕ × ℕ) → insert (p ∷ ps) (1 + n) q ≡ p ∷ insert ps n q
insert-cons p ps n q = rw (one-add n) refl

remove-cons : (p : ℕ × ℕ) (ps : Pairs) (n : ℕ) → remove (p ∷ ps) (1 + n) ≡ p ∷ remove ps n
remove-cons p ps n = rw (one-add n) refl

-- a pair is joined behind the conditions below its own
pub joined-is : (k : Pairs) (c i : ℕ) → joined k c i ≡ insert k (prefix_len (λ p. nat_lt p.0 c) k) (c, i)
joined-is [] c i = refl
joined-is (p ∷ ps) c i = grind (arith, nat_tests, joined-is ps c i, insert-cons p ps (prefix_len (λ (q : ℕ × ℕ). nat_lt q.0 c) ps) (c, i))

without_at : (k : Pairs) (c : ℕ) → is_ascending k ≡ true → position_or_len (λ p. p.0 == c) k < length k
    → without k c ≡ remove k (position_or_len (λ p. p.0 == c) k)
without_at [] c ascending found = absurd (omega arith)
without_at (p ∷ ps) c ascending found =
    grind (arith, nat_tests, without_at ps c (ascending-tail p ps ascending), remove-cons p ps (position_or_len (λ (q : ℕ × ℕ). q.0 == c) ps), without_none ps c, none_behind p ps c)

-- where the first that passes stands
pub position_is : (test : ℕ × ℕ → Bool) (k : Pairs) (place : ℕ) → position test k ≡ Some place → (position_or_len test k ≡ place) × (place < length k)
position_is test k place found = grind (arith, nat_tests)

-- a condition is taken out at its place
pub without-is : (k : Pairs) (c place : ℕ) → is_ascending k ≡ true → position (λ p. p.0 == c) k ≡ Some place → without k c ≡ remove k place
without-is k c place ascending found =
    let is = position_is (λ p. p.0 == c) k place found in
    let below : position_or_len (λ (p : ℕ × ℕ). p.0 == c) k < length k = omega (arith, is.0, is.1) in
    without_at k c ascending below ∙ ap (remove k) is.0

-- a condition that has no place isn't there
pub part_nowhere : (k : Pairs) (c : ℕ) → position (λ p. p.0 == c) k ≡ None → part k c ≡ None
part_nowhere [] c nowhere = refl
part_nowhere (p ∷ ps) c nowhere = grind (arith, nat_tests, part_nowhere ps c)

-- what a collection has of a condition is in the first pair of it
part-is : (k : Pairs) (c : ℕ) → part k c ≡ option_map (λ p. p.1) (find (λ p. p.0 == c) k)
part-is [] c = refl
part-is (p ∷ ps) c = grind (arith, nat_tests, part-is ps c)

-- what stands at its place is what the collection has of it
pub part_at : (k : Pairs) (c place : ℕ) (p : ℕ × ℕ) → position (λ p. p.0 == c) k ≡ Some place → slice_get k place ≡ Some p → part k c ≡ Some p.1
part_at k c place p found here =
    let is = position_is (λ p. p.0 == c) k place found in
    part-is k c ∙ ap (option_map (λ p. p.1)) (find_at (λ p. p.0 == c) k ∙ ap (slice_get k) is.0 ∙ here)
