-- Payloads, batches and gates in front of bytes.
use Rattle.std.specs.Prelude.{◌≡◌, ℕ, List, ◌∷◌, ◌++◌, length, All}
use Rattle.journal_store.specs.Format.{IsPayload, IsBatch, body, batch_bytes}
use Rattle.journal_store.specs.declared.gate.Gate.{Gate}
use Rattle.journal_store.specs.declared.gate.Gate.TheVariants.{Closed, Open, Torn}

-- the bytes are so many payloads and nothing else
pub record HasPayloads (count : ℕ) (bytes : List ℕ) : Type 0 where
  pub payloads : List (List ℕ)
  pub fine : All IsPayload payloads
  pub long : length payloads ≡ count
  pub are : bytes ≡ body payloads

-- a whole batch of so many payloads is in front of the bytes, with one byte more
pub record HasBatch (count : ℕ) (bytes : List ℕ) : Type 0 where
  pub batch : List (List ℕ)
  pub gate : ℕ
  pub rest : List ℕ
  pub is : IsBatch batch
  pub long : length batch ≡ count
  pub are : bytes ≡ batch_bytes batch ++ gate ∷ rest

-- no whole batch is in front of the bytes with one byte more
abbrev pub HasNoBatch : List ℕ → Type 0
HasNoBatch bytes = (batch : List (List ℕ)) (gate : ℕ) (more : List ℕ) → IsBatch batch → bytes ≡ batch_bytes batch ++ gate ∷ more → ⊥

-- what stands at the gate in front of the bytes
abbrev pub IsGate : Gate → List ℕ → Type 0
IsGate Closed bytes = (behind : List ℕ) → bytes ≡ 1 ∷ behind → ⊥
IsGate (Open count) bytes = (behind : List ℕ) × (bytes ≡ 1 ∷ behind) × HasBatch count behind
IsGate Torn bytes = (behind : List ℕ) × (bytes ≡ 1 ∷ behind) × HasNoBatch behind
