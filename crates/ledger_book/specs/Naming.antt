-- Which collections a commit gives a name, and in which order.
use Rattle.std.specs.Prelude.{◌≡◌, ◌==◌, ◌&&◌, ⊤, Bool, true, false, not, List, [], ◌∷◌, if◌then◌else◌}
use Rattle.std.specs.List.{list_any}
use Rattle.std.specs.Ordering.{is_lt}
use Rattle.collection_keys.specs.Collections.{Pairs}
use Rattle.collection_keys.specs.Comparing.{same_collection, collection_cmp}
use Rattle.ledger_book.specs.Postings.{credits, debits}
use Rattle.ledger_book.specs.declared.posting.Posting.{Posting}

-- a posting whose position ends with another amount than it began with
abbrev pub is_change : List Posting → Posting → Bool
is_change ps p = not (credits ps p.account p.collection == debits ps p.account p.collection)

-- whether a collection has a posting that changes an amount
abbrev pub is_changed : List Posting → Pairs → Bool
is_changed ps k = list_any (λ p. same_collection k p.collection && is_change ps p) ps

-- whether a collection is among these
abbrev pub has : List Pairs → Pairs → Bool
has ks k = list_any (same_collection k) ks

-- a collection put into its place in an ascending list
abbrev pub placed : Pairs → List Pairs → List Pairs
placed k [] = k ∷ []
placed k (j ∷ js) = if is_lt (collection_cmp k j) then k ∷ j ∷ js else j ∷ placed k js

-- whether a posting's collection gets a name, where `old` are the names and `found` those that come
abbrev pub is_new : List Pairs → List Posting → List Pairs → Posting → Bool
is_new old ps found p = is_change ps p && (not (has old p.collection) && not (has found p.collection))

abbrev pub named_from : List Pairs → List Posting → List Pairs → List Posting → List Pairs
named_from old all found [] = found
named_from old all found (p ∷ ps) = named_from old all (if is_new old all found p then placed p.collection found else found) ps

-- the collections of postings that change an amount and that have no name, each once, ascending
abbrev pub new_names : List Pairs → List Posting → List Pairs
new_names old ps = named_from old ps [] ps

-- each of these is less than the next
abbrev pub are_ascending : List Pairs → Bool
are_ascending [] = true
are_ascending (k ∷ []) = true
are_ascending (j ∷ k ∷ ks) = is_lt (collection_cmp j k) && are_ascending (k ∷ ks)

-- none of these stands twice
abbrev pub AreApart : List Pairs → Type 0
AreApart [] = ⊤
AreApart (k ∷ ks) = (has ks k ≡ false) × AreApart ks

-- these are no names yet, and none stands twice
pub record AreFresh (old : List Pairs) (ks : List Pairs) : Type 0 where
  pub absent : (k : Pairs) → has ks k ≡ true → has old k ≡ false
  pub once : AreApart ks
