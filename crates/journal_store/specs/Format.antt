-- The bytes of a journal.
use Rattle.std.specs.Prelude.{ℕ, ◌≤◌, List, ◌∷◌, [], ◌++◌, length, codes, All}
use Rattle.std.specs.List.{flat_map}
use Rattle.byteorder.specs.Endian.{big_bytes}
use Rattle.journal_store.specs.declared.limits.TheConstants.{MAX_PAYLOAD, MAX_PAYLOADS, VERSION}

-- the header, whose last byte is the version
unfoldable pub header : ℕ → List ℕ
header version = codes "ctx-journal-v00" ++ version ∷ []

-- the bytes of an empty journal: the header and a closed gate
abbrev pub empty_bytes : List ℕ
empty_bytes = header VERSION ++ 0 ∷ []

-- a payload has 1 to 512 bytes, and a batch 1 to 64 payloads
pub record IsPayload (payload : List ℕ) : Type 0 where
  pub at_least : 1 ≤ length payload
  pub at_most : length payload ≤ MAX_PAYLOAD

pub record IsBatch (batch : List (List ℕ)) : Type 0 where
  pub at_least : 1 ≤ length batch
  pub at_most : length batch ≤ MAX_PAYLOADS
  pub payloads : All IsPayload batch

-- a payload: its length in two bytes, the highest first, and its bytes
unfoldable pub payload_bytes : List ℕ → List ℕ
payload_bytes payload = big_bytes 2 (length payload) ++ payload

-- the payloads of a batch, one after another
abbrev pub body : List (List ℕ) → List ℕ
body batch = flat_map payload_bytes batch

-- a batch: the length of its body in four bytes, and its body
unfoldable pub batch_bytes : List (List ℕ) → List ℕ
batch_bytes batch = big_bytes 4 (length (body batch)) ++ body batch

-- an open gate is the byte 1, and a batch stands behind it
abbrev pub open_gates : List (List (List ℕ)) → List ℕ
open_gates batches = flat_map (λ batch. 1 ∷ batch_bytes batch) batches

-- all payloads of batches, in their order
abbrev pub payloads : List (List (List ℕ)) → List (List ℕ)
payloads batches = flat_map (λ batch. batch) batches
