-- How a collection is stored: its pairs in an array, filled up with (0, 0) behind the last.
use Rattle.std.specs.Prelude.{◌≡◌, ℕ, ◌-◌, ◌≤◌, ◌++◌, length, take, replicate}
use Rattle.std.proofs.Common.{ap, arith, length-append, length-take}
use Rattle.std.proofs.lemmas.List.{length-replicate}
use Rattle.collection_keys.specs.Collections.{Pairs, IsCollection}
use Rattle.collection_keys.specs.declared.collection.TheConstants.{MAX_PAIRS}

-- the pairs of a collection, and (0, 0) at each place behind them
abbrev pub filled : Pairs → Pairs
filled k = k ++ replicate (MAX_PAIRS - length k) (0, 0)

-- an array and a length stand for a collection
pub record IsStored (pairs : Pairs) (len : ℕ) : Type 0 where
  pub collection : IsCollection (take len pairs)
  pub rest : pairs ≡ filled (take len pairs)
  pub within : len ≤ MAX_PAIRS

length-filled : (k : Pairs) → MAX_PAIRS ≤ length (filled k)
length-filled k = omega (arith, length-append k (replicate (MAX_PAIRS - length k) (0, 0)), length-replicate {A = ℕ × ℕ} (MAX_PAIRS - length k) (0, 0))

-- as many pairs stand for the collection as the length says
pub stored_length : (pairs : Pairs) (len : ℕ) → IsStored pairs len → length (take len pairs) ≡ len
stored_length pairs len stored =
    omega (arith, length-take {A = ℕ × ℕ} len pairs, length-filled (take len pairs), ap (length {A = ℕ × ℕ}) stored.rest, stored.within)
