-- The payloads in the bytes of a batch.
use Rattle.std.specs.Prelude.{◌≡◌, ℕ, zero, suc, ◌+◌, ◌≤◌, List, [], ◌∷◌, ◌++◌, take, drop, All, Vec, vec_capacity}
use Rattle.std.specs.declared.alloc.Global.{Global}
use Rattle.byteorder.specs.Endian.{big_number}
use Rattle.journal_store.specs.Format.{IsPayload, batch_bytes}
use Rattle.journal_store.specs.declared.limits.TheConstants.{MAX_BATCH, MAX_PAYLOADS}

-- so many payloads, read one after another
abbrev pub payloads_in : ℕ → List ℕ → List (List ℕ)
payloads_in zero bytes = []
payloads_in (suc n) bytes = take (big_number 2 bytes) (drop 2 bytes) ∷ payloads_in n (drop (big_number 2 bytes) (drop 2 bytes))

-- the bytes are those of the payloads that stand in them, with a closed gate behind, and there is room for a full batch
pub record IsReady (count : ℕ) (bytes : Vec ℕ Global) : Type 0 where
  pub formed : bytes.items ≡ batch_bytes (payloads_in count (drop 4 bytes.items)) ++ 0 ∷ []
  pub payloads : All IsPayload (payloads_in count (drop 4 bytes.items))
  pub few : count ≤ MAX_PAYLOADS
  pub room : MAX_BATCH + 1 ≤ vec_capacity bytes
