-- Arrays that stand for collections.
use Rattle.std.proofs.Common.{◌≡◌, ◌==◌, nat_lt, position, None, Some, ℕ, ◌+◌, ◌-◌, ◌<◌, ◌≤◌, [], ◌∷◌, ◌++◌, length, take, insert, remove, replicate, refl, ap, sym, ◌∙◌, arith, append_assoc, length-append}
use Rattle.std.proofs.Math.Seq.{take-append-add}
use Rattle.std.proofs.lemmas.List.{take_at, take-replicate, replicate_more, length-replicate}
use Rattle.std.proofs.lemmas.List.Sums.{prefix_len-le-length}
use Rattle.std.proofs.lemmas.List.Edits.{insert-append_left, remove-append_left, length-insert, length-remove}
use Rattle.std.specs.List.{prefix_len}
use Rattle.collection_keys.specs.Collections.{Pairs, part, joined, without, IsPair, IsCollection}
use Rattle.collection_keys.specs.Stored.{filled, IsStored, stored_length}
use Rattle.collection_keys.proofs.Placing.{joined-is, without-is, position_is}
use Rattle.collection_keys.proofs.Sound.{length-joined, IsCollection-joined, IsCollection-without}
use Rattle.collection_keys.specs.declared.collection.TheConstants.{MAX_PAIRS}

-- the front of a filled array is the collection
take-filled : (k : Pairs) (len : ℕ) → length k ≡ len → take len (filled k) ≡ k
take-filled k len long = take_at k (replicate (MAX_PAIRS - length k) (0, 0)) len long

-- a filled array stands for its collection
stored_filled : (k pairs : Pairs) (len : ℕ) → IsCollection k → length k ≡ len → pairs ≡ filled k → IsStored pairs len × (take len pairs ≡ k)
stored_filled k pairs len collection long is =
    let front : take len pairs ≡ k = ap (take len) is ∙ take-filled k len long in
    (record { collection = rw front collection; rest = rw front is; within = rw (← long) collection.few }, front)

-- a pair is put into the array where it is put into the collection
filled-insert : (k : Pairs) (place : ℕ) (p : ℕ × ℕ) → place ≤ length k → length k < MAX_PAIRS
    → take (length (filled k)) (insert (filled k) place p) ≡ filled (insert k place p)
filled-insert k place p within room =
    let rest : Pairs = replicate (MAX_PAIRS - length k) (0, 0) in
    let behind = MAX_PAIRS - length (insert k place p) in
    let longer = length-insert k place p within in
    let long : length (k ++ rest) ≡ length (insert k place p) + behind
    = omega (arith, length-append k rest, length-replicate {A = ℕ × ℕ} (MAX_PAIRS - length k) (0, 0), longer) in
    let fits : behind ≤ MAX_PAIRS - length k = omega (arith, longer) in
    rw (insert-append_left k rest place p within, long)
    (take-append-add (insert k place p) rest behind ∙ ap (λ r. insert k place p ++ r) (take-replicate behind (MAX_PAIRS - length k) (0, 0) fits))

-- a pair is taken out of the array where it is taken out of the collection
filled-remove : (k : Pairs) (place : ℕ) → place < length k → length k ≤ MAX_PAIRS
    → remove (filled k) place ++ (0, 0) ∷ [] ≡ filled (remove k place)
filled-remove k place within few =
    let rest : Pairs = replicate (MAX_PAIRS - length k) (0, 0) in
    let shorter = length-remove k place within in
    let behind : (MAX_PAIRS - length k) + 1 ≡ MAX_PAIRS - length (remove k place) = omega (arith, shorter) in
    rw (remove-append_left k rest place within, append_assoc, replicate_more, behind) refl

-- an array that stands for a collection is that collection filled up
is_filled : (k pairs : Pairs) (len : ℕ) → IsStored pairs len → take len pairs ≡ k → (pairs ≡ filled k) × (length k ≡ len) × IsCollection k
is_filled k pairs len stored view = (
  stored.rest ∙ ap filled view,
  ap (length {A = ℕ × ℕ}) (sym view) ∙ stored_length pairs len stored,
  rw (← view) stored.collection,
)

-- the array with a condition joined stands for the collection with it joined
pub stored-joined : (k pairs news : Pairs) (len place c i : ℕ) → IsStored pairs len → take len pairs ≡ k → len < MAX_PAIRS
    → part k c ≡ None → IsPair (c, i) → place ≡ prefix_len (λ p. nat_lt p.0 c) k → news ≡ take (length pairs) (insert pairs place (c, i))
    → IsStored news (len + 1) × (take (len + 1) news ≡ joined k c i)
stored-joined k pairs news len place c i stored view room none pair at is =
    let was = is_filled k pairs len stored view in
    let within : place ≤ length k = rw at (prefix_len-le-length (λ p. nat_lt p.0 c) k) in
    let less : length k < MAX_PAIRS = omega (arith, was.1, room) in
    let now : news ≡ filled (joined k c i)
    = is ∙ ap (λ ps. take (length ps) (insert ps place (c, i))) was.0 ∙ filled-insert k place (c, i) within less
    ∙ ap filled (ap (λ n. insert k n (c, i)) at ∙ sym (joined-is k c i)) in
    stored_filled (joined k c i) news (len + 1) (IsCollection-joined k c i was.2 none less pair) (omega (arith, length-joined k c i, was.1)) now

-- the array without a condition stands for the collection without it
pub stored-without : (k pairs news : Pairs) (len place c : ℕ) → IsStored pairs len → take len pairs ≡ k
    → position (λ p. p.0 == c) k ≡ Some place → news ≡ remove pairs place ++ (0, 0) ∷ []
    → IsStored news (len - 1) × (take (len - 1) news ≡ without k c)
stored-without k pairs news len place c stored view at is =
    let was = is_filled k pairs len stored view in
    let below = (position_is (λ p. p.0 == c) k place at).1 in
    let out : without k c ≡ remove k place = without-is k c place was.2.ascending at in
    let now : news ≡ filled (without k c)
    = is ∙ ap (λ ps. remove ps place ++ (0, 0) ∷ []) was.0 ∙ filled-remove k place below was.2.few ∙ ap filled (sym out) in
    let long : length (without k c) ≡ len - 1 = rw out (omega (arith, length-remove k place below, was.1)) in
    stored_filled (without k c) news (len - 1) (IsCollection-without k c was.2) long now
