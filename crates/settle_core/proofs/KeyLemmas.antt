-- Keys pair by pair, and partitions.
use Rattle.std.proofs.Common.{◌≡◌, ◌==◌, ℕ, ◌<◌, ◌≤◌, Bool, true, false, List, [], ◌∷◌, length, Option, Some, None, refl, ap, arith}
use Rattle.std.specs.Prelude.{is_some, nat_lt, cond}
use Rattle.std.specs.List.{list_any}
use Rattle.std.proofs.lemmas.Bool.Decides.{nat_tests}
use Rattle.collection_keys.specs.Collections.{Pairs, part, joined, is_ascending}
use Rattle.condition_sets.specs.Sets.{first_overlap}
use Rattle.settle_core.specs.Keys.{is_no_partition}

-- a key has a condition where one of its pairs is of it
pub part-any : (k : Pairs) (c : ℕ) → is_some (part k c) ≡ list_any (λ p. p.0 == c) k
part-any [] c = refl
part-any (p ∷ ps) c = grind (arith, nat_tests, part-any ps c)

-- behind the first of ascending pairs none is of its condition, and it is joined in front of them
pub behind-none : (p : ℕ × ℕ) (ps : Pairs) (c : ℕ) → is_ascending (p ∷ ps) ≡ true → c ≤ p.0 → part ps c ≡ None
behind-none p [] c ascending below = refl
behind-none p (q ∷ ps) c ascending below = grind (arith, nat_tests, behind-none q ps c)

pub joined-front : (p : ℕ × ℕ) (ps : Pairs) → is_ascending (p ∷ ps) ≡ true → joined ps p.0 p.1 ≡ p ∷ ps
joined-front p [] ascending = refl
joined-front p (q ∷ ps) ascending = grind (arith, nat_tests)

pub ascending-behind : (p : ℕ × ℕ) (ps : Pairs) → is_ascending (p ∷ ps) ≡ true → is_ascending ps ≡ true
ascending-behind p [] ascending = refl
ascending-behind p (q ∷ ps) ascending = grind (arith, nat_tests)

some-of : {X : Type 0} (o : Option X) → ((x : X) → o ≡ Some x → ⊥) → is_some o ≡ false
some-of None never = refl
some-of (Some x) never = absurd (never x refl)

-- sets that are two at least and don't meet are a partition
pub partition-is : (sets : List ℕ) → (length sets < 2 → ⊥) → ((place : ℕ) → first_overlap sets ≡ Some place → ⊥) → is_no_partition sets ≡ false
partition-is sets many apart =
    let enough : nat_lt (length sets) 2 ≡ false = few (length sets) many in
    rw enough (some-of (first_overlap sets) apart)
  where
    few : (n : ℕ) → (n < 2 → ⊥) → nat_lt n 2 ≡ false
    few n many = grind (arith, nat_tests)

pub few-are-none : (sets : List ℕ) → length sets < 2 → is_no_partition sets ≡ true
few-are-none sets few = let less : nat_lt (length sets) 2 ≡ true = grind (arith, nat_tests) in rw less refl

pub overlap-is-none : (sets : List ℕ) (place : ℕ) → first_overlap sets ≡ Some place → is_no_partition sets ≡ true
overlap-is-none sets place meets = by (nat_lt (length sets) 2) (ap is_some meets)
  where
    by : (less : Bool) → is_some (first_overlap sets) ≡ true → cond less true (is_some (first_overlap sets)) ≡ true
    by true some = refl
    by false some = some
