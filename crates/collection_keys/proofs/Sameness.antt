-- Equality and order against equal lists of pairs.
use Rattle.std.proofs.Common.{◌≡◌, ℕ, ap, sym, ◌∙◌, Bool, Ordering}
use Rattle.std.specs.Bool.{Decides, IsTrue}
use Rattle.std.specs.declared.cmp.Ordering.TheVariants.{Equal}
use Rattle.std.specs.Ordering.{is_eq}
use Rattle.std.specs.Cmp.{Equal-is}
use Rattle.std.specs.Cmp.Lexicographic.{pointwise_decides}
use Rattle.std.proofs.lemmas.Bool.{and_parts, and_from, eqb-true, eq-eqb}
use Rattle.collection_keys.specs.Collections.{Pairs}
use Rattle.collection_keys.specs.Comparing.{same_pair, same_collection, collection_cmp, collection_ties}

pair_Decides : (p q : ℕ × ℕ) → Decides (same_pair p q) (p ≡ q)
pair_Decides p q = (
  λ h. let both = and_parts _ _ h in λ i. (eqb-true p.0 q.0 both.0 i, eqb-true p.1 q.1 both.1 i),
  λ e. and_from _ _ (eq-eqb p.0 q.0 (ap (λ (r : ℕ × ℕ). r.0) e)) (eq-eqb p.1 q.1 (ap (λ (r : ℕ × ℕ). r.1) e)),
)

-- the equality of collections holds exactly of equal lists
pub same_collection_Decides : (j k : Pairs) → Decides (same_collection j k) (j ≡ k)
same_collection_Decides j k = pointwise_decides pair_Decides j k

-- these alone tie
pub collection_cmp_Equal : (j k : Pairs) → (collection_cmp j k ≡ Equal → j ≡ k) × (j ≡ k → collection_cmp j k ≡ Equal)
collection_cmp_Equal j k = (
  λ tied. (same_collection_Decides j k).0 (collection_ties j k ∙ ap is_eq tied),
  λ same. (Equal-is (collection_cmp j k)).0 (sym (collection_ties j k) ∙ (same_collection_Decides j k).1 same),
)

-- what an answer of `==` says of two collections
pub told_same : (j k : Pairs) (r : Bool) → r ≡ same_collection j k → (IsTrue r → j ≡ k) × (j ≡ k → IsTrue r)
told_same j k r told = rw told (same_collection_Decides j k)

-- and an answer of `cmp`
pub told_tied : (j k : Pairs) (r : Ordering) → r ≡ collection_cmp j k → (r ≡ Equal → j ≡ k) × (j ≡ k → r ≡ Equal)
told_tied j k r told = rw told (collection_cmp_Equal j k)
