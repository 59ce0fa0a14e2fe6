-- What stands in the bytes of a journal behind the payloads of a list: a payload more, the end, or a place where it breaks off.
use Rattle.std.specs.Prelude.{◌≡◌, ◌≢◌, ◌⊎◌, ℕ, ◌<◌, List, ◌∷◌, [], ◌++◌, length, take, All}
use Rattle.journal_store.specs.Format.{header, IsBatch, batch_bytes, open_gates, payloads}
use Rattle.journal_store.specs.Stands.{HasGates, Stands}
use Rattle.journal_store.specs.declared.limits.TheConstants.{VERSION}

-- A payload more: the open gate at a place has a whole batch behind it that holds the payload, and what stands before
-- the payload, in this batch and in those before it, is the list.
pub record Follows (list : List (List ℕ)) (payload : List ℕ) (place : ℕ) (image : List ℕ) : Type 0 where
  pub before : List (List (List ℕ))
  pub told : List (List ℕ)
  pub waiting : List (List ℕ)
  pub gate : ℕ
  pub rest : List ℕ
  pub formed : All IsBatch before
  pub batch : IsBatch (told ++ payload ∷ waiting)
  pub bytes : image ≡ header VERSION ++ open_gates (before ++ (told ++ payload ∷ waiting) ∷ []) ++ gate ∷ rest
  pub listed : list ≡ payloads before ++ told
  pub placed : place ≡ length (header VERSION ++ open_gates before)

-- The end: a closed gate stands behind the batches of the list.
pub record Ends (list : List (List ℕ)) (image : List ℕ) : Type 0 where
  pub batches : List (List (List ℕ))
  pub gate : ℕ
  pub rest : List ℕ
  pub gates : HasGates batches gate rest image
  pub listed : list ≡ payloads batches

-- It breaks off: the bytes are more than 17, and the open gate at a place stands behind the batches of the list, with no
-- whole batch and one more byte behind it.
pub record Breaks (list : List (List ℕ)) (place : ℕ) (image : List ℕ) : Type 0 where
  pub batches : List (List (List ℕ))
  pub rest : List ℕ
  pub formed : All IsBatch batches
  pub bytes : image ≡ header VERSION ++ open_gates batches ++ 1 ∷ rest
  pub long : 17 < length image
  pub torn : (batch : List (List ℕ)) (gate : ℕ) (more : List ℕ) → IsBatch batch → rest ≡ batch_bytes batch ++ gate ∷ more → ⊥
  pub listed : list ≡ payloads batches
  pub placed : place ≡ length (header VERSION ++ open_gates batches)

-- no journal: more than 17 bytes, which don't begin with the header
pub record IsForeign (bytes : List ℕ) : Type 0 where
  pub long : 17 < length bytes
  pub other : take 16 bytes ≢ header VERSION

-- an image stands for whatever list the bytes stand for
abbrev pub StandsAs : List ℕ → List ℕ → Type 0
StandsAs bytes image = (list : List (List ℕ)) → Stands bytes list → Stands image list

-- Of two payloads that follow lists in one journal: they are one and the same, or one of them stands in the list of the
-- other, behind its own.
abbrev pub OneFollows : List (List ℕ) → List ℕ → ℕ → List (List ℕ) → List ℕ → ℕ → Type 0
OneFollows list payload place other next elsewhere =
    ((list ≡ other) × (payload ≡ next) × (place ≡ elsewhere))
    ⊎ (((more : List (List ℕ)) × (other ≡ list ++ payload ∷ more)) ⊎ ((more : List (List ℕ)) × (list ≡ other ++ next ∷ more)))
