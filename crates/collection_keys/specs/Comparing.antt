-- How collections compare, and what a hash is fed of them: what the lists of their pairs do.
use Rattle.std.specs.Prelude.{◌≡◌, ◌==◌, ℕ, ◌++◌, ◌&&◌, Bool, true}
use Rattle.std.specs.declared.cmp.Ordering.{Ordering}
use Rattle.std.specs.Ordering.{ordering_then, nat_cmp, eq_by_cmp}
use Rattle.std.specs.Cmp.{IsEquivalence, IsTotalOrder, on_equiv, and_equiv, on_total, then_total, both_tied, nat_eq_equiv, nat_cmp_total, unsigned_ties, unsigned_Decides}
use Rattle.std.specs.Cmp.Lexicographic.{pointwise, slice_cmp, lists_equiv, lists_total, lists_ties}
use Rattle.std.specs.Hash as fed
use Rattle.std.specs.Hash.{HashWrites, Alike, same_Alike, on_Alike, and-Alike, items_Alike}
use Rattle.collection_keys.specs.Collections.{Pairs}

-- two pairs have the same condition and the same set
abbrev pub same_pair : ℕ × ℕ → ℕ × ℕ → Bool
same_pair p q = (p.0 == q.0) && (p.1 == q.1)

-- two collections have the same pairs
abbrev pub same_collection : Pairs → Pairs → Bool
same_collection j k = pointwise same_pair j k

-- a pair goes by its condition, then by its set
abbrev pub pair_cmp : ℕ × ℕ → ℕ × ℕ → Ordering
pair_cmp p q = ordering_then (nat_cmp p.0 q.0) (nat_cmp p.1 q.1)

-- the first pair that differs decides, and where there is none the shorter list is less
abbrev pub collection_cmp : Pairs → Pairs → Ordering
collection_cmp j k = slice_cmp pair_cmp j k

-- what a hash is fed of a pair: its condition, then its set
abbrev pub fed_pair : ℕ × ℕ → HashWrites
fed_pair p = fed.u16 p.0 ++ fed.u32 p.1

-- what a hash is fed of a collection: how many pairs it has, then each
abbrev pub fed_collection : Pairs → HashWrites
fed_collection k = fed.slice fed_pair k

pair_equiv : IsEquivalence same_pair
pair_equiv = and_equiv (on_equiv (λ p. p.0) nat_eq_equiv) (on_equiv (λ p. p.1) nat_eq_equiv)

pair_total : IsTotalOrder pair_cmp
pair_total = then_total (on_total (λ p. p.0) nat_cmp_total) (on_total (λ p. p.1) nat_cmp_total)

pair_ties : (p q : ℕ × ℕ) → same_pair p q ≡ eq_by_cmp pair_cmp p q
pair_ties p q = both_tied _ _ (nat_cmp p.0 q.0) (nat_cmp p.1 q.1) (unsigned_ties p.0 q.0) (unsigned_ties p.1 q.1)

pair_alike : Alike same_pair fed_pair
pair_alike =
    and-Alike (on_Alike (λ p. p.0) (same_Alike fed.u16 unsigned_Decides)) (on_Alike (λ p. p.1) (same_Alike fed.u32 unsigned_Decides))

-- the equality of collections is an equivalence
pub collection_equiv : IsEquivalence same_collection
collection_equiv = lists_equiv pair_equiv

-- the order of collections is total
pub collection_total : IsTotalOrder collection_cmp
collection_total = lists_total pair_total

-- two collections tie exactly where they have the same pairs
pub collection_ties : (j k : Pairs) → same_collection j k ≡ eq_by_cmp collection_cmp j k
collection_ties = lists_ties pair_cmp pair_ties

-- a hash is fed alike of two collections that have the same pairs
pub collection_fed : (j k : Pairs) → same_collection j k ≡ true → fed_collection j ≡ fed_collection k
collection_fed = (items_Alike pair_alike).fed
