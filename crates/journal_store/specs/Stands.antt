-- What list of payloads an image stands for.
use Rattle.std.specs.Prelude.{◌≡◌, ◌≢◌, ◌⊎◌, ℕ, ◌≤◌, true, List, ◌∷◌, [], ◌++◌, length, All, Result, OnOk, ◌+◌}
use Rattle.journal_disk.specs.Drive.{Drive, IsStored}
use Rattle.journal_store.specs.Format.{header, IsBatch, batch_bytes, open_gates, payloads}
use Rattle.journal_store.specs.declared.limits.TheConstants.{VERSION}

-- the header, open gates each with its batch, a closed gate, and any bytes behind it
pub record HasGates (batches : List (List (List ℕ))) (gate : ℕ) (rest image : List ℕ) : Type 0 where
  pub formed : All IsBatch batches
  pub closed : gate ≢ 1
  pub bytes : image ≡ header VERSION ++ open_gates batches ++ gate ∷ rest

-- An image stands for a list of payloads: at most 17 bytes for the empty one, and a journal for those of its batches.
abbrev pub Stands : List ℕ → List (List ℕ) → Type 0
Stands image list =
    ((length image ≤ 17) × (list ≡ []))
    ⊎ ((batches : List (List (List ℕ))) × (gate : ℕ) × (rest : List ℕ) × HasGates batches gate rest image × (list ≡ payloads batches))

-- an image stands for a list, or for the list with a batch behind it
abbrev pub StandsForEither : List (List ℕ) → List (List ℕ) → List ℕ → Type 0
StandsForEither list batch image = Stands image list ⊎ Stands image (list ++ batch)

-- an honest disk has a journal of this list stored, whose closed gate is at this place
pub record StoresAt (place : ℕ) (list : List (List ℕ)) (drive : Drive) : Type 0 where
  pub batches : List (List (List ℕ))
  pub gate : ℕ
  pub rest : List ℕ
  pub honest : drive.honest ≡ true
  pub stored : IsStored drive
  pub gates : HasGates batches gate rest drive.bytes
  pub listed : list ≡ payloads batches
  pub placed : place ≡ length (header VERSION ++ open_gates batches)

-- A batch is put behind a list: at each moment since it began each image stands for the list, or for the list with the
-- whole batch; and where it succeeded the disk has the longer one stored.
pub record Appends {T E : Type 0} (place : ℕ) (list batch : List (List ℕ)) (result : Result T E) (old new : Drive) : Type 0 where
  pub image : (image : List ℕ) → new.image image → StandsForEither list batch image
  pub since : (moment : ℕ) (image : List ℕ) → moment ≤ old.moment → new.image_since moment image → old.image_since moment image ⊎ StandsForEither list batch image
  pub stored : OnOk result (StoresAt (place + 1 + length (batch_bytes batch)) (list ++ batch) new)

-- an honest disk of at most 17 bytes, on which nothing is pending
pub record IsFresh (drive : Drive) : Type 0 where
  pub honest : drive.honest ≡ true
  pub stored : IsStored drive
  pub short : length drive.bytes ≤ 17

-- An empty journal is made: at each moment since it began each image stands for the empty list, and where it succeeded
-- the disk has that stored.
pub record Makes {T E : Type 0} (result : Result T E) (old new : Drive) : Type 0 where
  pub image : (image : List ℕ) → new.image image → Stands image []
  pub since : (moment : ℕ) (image : List ℕ) → moment ≤ old.moment → new.image_since moment image → old.image_since moment image ⊎ Stands image []
  pub stored : OnOk result (StoresAt 16 [] new)
