-- What contracts see of a reader of a journal.
use Rattle.std.specs.Prelude.{◌≡◌, ◌≢◌, ◌⊎◌, ℕ, ◌+◌, ◌*◌, ◌<◌, ◌≤◌, ⊤, Bool, true, false, List, ◌∷◌, [], ◌++◌, length, drop, All, Result, Ok, Err, Vec, vec_capacity}
use Rattle.std.specs.declared.alloc.Global.{Global}
use Rattle.journal_disk.specs.Drive.{Drive, IsStored}
use Rattle.journal_store.specs.Format.{header, empty_bytes, IsPayload, IsBatch, body, open_gates, payloads}
use Rattle.journal_store.specs.Found.{Follows, Ends, Breaks}
use Rattle.journal_store.specs.declared.limits.TheConstants.{MAX_PAYLOAD, MAX_PAYLOADS, VERSION}
use Rattle.journal_store.specs.declared.outcome.Next.{Next}
use Rattle.journal_store.specs.declared.outcome.Next.TheVariants.{Payload, End}
use Rattle.journal_store.specs.declared.outcome.NextFault.{NextFault}
use Rattle.journal_store.specs.declared.outcome.NextFault.TheVariants.{Disk, Cut}

-- bytes of a disk that were read and not yet used: the place of the first, the bytes, and whether the disk ends behind them
pub record Unread : Type 0 where
  pub place : ℕ
  pub bytes : List ℕ
  pub is_last : Bool

-- its disk, what was read of it and not yet used, how many payloads of the present batch wait, the gate of that batch,
-- the payload told last, how many were told, and whether the end was told
pub record ReaderView (D : Type 0) : Type 0 where
  pub disk : D
  pub unread : Unread
  pub waiting : ℕ
  pub place : ℕ
  pub payload : List ℕ
  pub count : ℕ
  pub is_ended : Bool

-- the unread bytes are those of the disk from their place on, up to its end or to bytes beyond
pub record IsFrontOf (image : List ℕ) (unread : Unread) : Type 0 where
  pub beyond : List ℕ
  pub front : drop unread.place image ≡ unread.bytes ++ beyond
  pub last : unread.is_last ≡ true → beyond ≡ []

-- The list is that of the payloads of the batches without those that wait. Where any wait they are the last ones of the
-- last batch, and the place is that of its gate.
abbrev pub IsUpTo : List (List ℕ) → ℕ → List (List (List ℕ)) → List (List ℕ) → Type 0
IsUpTo list place batches [] = list ≡ payloads batches
IsUpTo list place batches (p ∷ ps) =
    (before : List (List (List ℕ))) × (told : List (List ℕ))
    × (batches ≡ before ++ (told ++ p ∷ ps) ∷ []) × (list ≡ payloads before ++ told) × (place ≡ length (header VERSION ++ open_gates before))

-- After the payloads of a list a reader stands in the bytes behind whole batches, or in the last of them, whose further
-- payloads wait; these are unread, and wholly in the window. Behind the batches is the next gate, closed if the end was told.
pub record StandsIn (list : List (List ℕ)) (image : List ℕ) (unread : Unread) (waiting place : ℕ) (is_ended : Bool) : Type 0 where
  pub batches : List (List (List ℕ))
  pub ahead : List (List ℕ)
  pub gate : ℕ
  pub rest : List ℕ
  pub formed : All IsBatch batches
  pub bytes : image ≡ header VERSION ++ open_gates batches ++ gate ∷ rest
  pub listed : IsUpTo list place batches ahead
  pub fine : All IsPayload ahead
  pub waits : waiting ≡ length ahead
  pub window : IsFrontOf image unread
  pub here : drop unread.place image ≡ body ahead ++ gate ∷ rest
  pub placed : unread.place + length (body ahead) ≡ length (header VERSION ++ open_gates batches)
  pub held : length (body ahead) ≤ length unread.bytes
  pub closed : is_ended ≡ true → gate ≢ 1

-- a journal that was opened is an empty one, or has more than its bytes
abbrev pub IsWhole : List ℕ → Type 0
IsWhole bytes = (17 < length bytes) ⊎ (bytes ≡ empty_bytes)

-- The reader has told the payloads of this list: an honest disk has a journal stored that begins with them.
pub record HasTold {D : Type 0} (drive : D → Drive) (list : List (List ℕ)) (reader : ReaderView D) : Type 0 where
  pub honest : (drive reader.disk).honest ≡ true
  pub stored : IsStored (drive reader.disk)
  pub counted : reader.count ≡ length list
  pub whole : IsWhole (drive reader.disk).bytes
  pub stands : StandsIn list (drive reader.disk).bytes reader.unread reader.waiting reader.place reader.is_ended

-- what stands at a gate, for a reader that has told this list
abbrev pub Enters : {D : Type 0} → (D → Drive) → List (List ℕ) → Result Bool NextFault → ReaderView D → Type 0
Enters drive list (Ok true) reader = HasTold drive list reader
Enters drive list (Ok false) reader = Ends list (drive reader.disk).bytes × HasTold drive list reader
Enters drive list (Err (Cut place)) reader = Breaks list place (drive reader.disk).bytes
Enters drive list (Err Disk) reader = ⊤

-- what a call of `next` tells over a reader that has told this list
abbrev pub Tells : {D : Type 0} → (D → Drive) → List (List ℕ) → Result Next NextFault → ReaderView D → Type 0
Tells drive list (Ok Payload) reader = Follows list reader.payload reader.place (drive reader.disk).bytes × HasTold drive (list ++ reader.payload ∷ []) reader
Tells drive list (Ok End) reader = Ends list (drive reader.disk).bytes × HasTold drive list reader
Tells drive list (Err (Cut place)) reader = Breaks list place (drive reader.disk).bytes
Tells drive list (Err Disk) reader = ⊤

-- A payload takes at most 519 bytes with its batch's gate and size, and 514 where these were read, so that places stay
-- small. None waits at the end, and there is room for any payload.
pub record HasSafeNumbers (place waiting count : ℕ) (is_ended : Bool) (payload : Vec ℕ Global) : Type 0 where
  pub small : place + 514 * waiting ≤ 16 + 519 * (count + waiting)
  pub few : waiting ≤ MAX_PAYLOADS
  pub ended : is_ended ≡ true → waiting ≡ 0
  pub room : MAX_PAYLOAD ≤ vec_capacity payload
