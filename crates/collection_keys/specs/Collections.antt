-- Collections: which index set of which condition a share is of.
-- Source: Gnosis Conditional Tokens, developer documentation. No hash stands for a collection here: it is its pairs.
use Rattle.std.specs.Prelude.{◌≡◌, ◌==◌, ℕ, ◌+◌, ◌<◌, ◌≤◌, ◌^◌, ◌&&◌, Bool, true, not, nat_lt, if◌then◌else◌, List, [], ◌∷◌, length, filter, All, Option, Some, None}
use Rattle.condition_sets.specs.declared.names.TheConstants.{MAX_CONDITION}
use Rattle.collection_keys.specs.declared.collection.TheConstants.{MAX_PAIRS}

-- a collection: its conditions, in ascending order, each with the bits of its index set
abbrev pub Pairs : Type 0
Pairs = List (ℕ × ℕ)

-- the empty collection, whose position is cash
abbrev pub root : Pairs
root = []

-- the index set that a collection has of a condition
abbrev pub part : Pairs → ℕ → Option ℕ
part [] condition = None
part (p ∷ ps) condition = if p.0 == condition then Some p.1 else part ps condition

-- a condition with its set is put in its place
abbrev pub joined : Pairs → ℕ → ℕ → Pairs
joined [] condition set = (condition, set) ∷ []
joined (p ∷ ps) condition set = if nat_lt p.0 condition then p ∷ joined ps condition set else (condition, set) ∷ p ∷ ps

-- the same without a condition
abbrev pub without : Pairs → ℕ → Pairs
without k condition = filter (λ p. not (p.0 == condition)) k

-- the conditions ascend, so that none stands twice
abbrev pub is_ascending : Pairs → Bool
is_ascending [] = true
is_ascending (p ∷ []) = true
is_ascending (p ∷ q ∷ ps) = nat_lt p.0 q.0 && is_ascending (q ∷ ps)

-- a condition's number, and an index set that is neither empty nor has every bit
pub record IsPair (p : ℕ × ℕ) : Type 0 where
  pub condition : p.0 ≤ MAX_CONDITION
  pub some : 0 < p.1
  pub not_all : p.1 + 1 < 2 ^ 32

-- what each collection of the program is
pub record IsCollection (k : Pairs) : Type 0 where
  pub ascending : is_ascending k ≡ true
  pub pairs : All IsPair k
  pub few : length k ≤ MAX_PAIRS
