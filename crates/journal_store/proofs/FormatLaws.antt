-- Laws of the bytes of a journal.
use Rattle.std.proofs.Common.{◌≡◌, ℕ, List, [], ◌∷◌, ◌++◌, refl, ◌∙◌, ap, length, append-nil}
use Rattle.std.proofs.lemmas.Grind.{flat_map-append}
use Rattle.journal_store.specs.Format.{header, batch_bytes, open_gates, payloads}

pub length-header : (version : ℕ) → length (header version) ≡ 16
unfolding header
length-header version = refl

-- one batch more
pub opened-more : (batches : List (List (List ℕ))) (batch : List (List ℕ)) → open_gates (batches ++ batch ∷ []) ≡ open_gates batches ++ (1 ∷ batch_bytes batch)
opened-more batches batch = flat_map-append (λ b. 1 ∷ batch_bytes b) batches (batch ∷ []) ∙ ap (λ (xs : List ℕ). open_gates batches ++ xs) (append-nil (1 ∷ batch_bytes batch))

pub payloads-more : (batches : List (List (List ℕ))) (batch : List (List ℕ)) → payloads (batches ++ batch ∷ []) ≡ payloads batches ++ batch
payloads-more batches batch = flat_map-append (λ b. b) batches (batch ∷ []) ∙ ap (λ (xs : List (List ℕ)). payloads batches ++ xs) (append-nil batch)
