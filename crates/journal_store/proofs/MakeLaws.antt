-- What making an empty journal leaves at each moment.
use Rattle.std.proofs.Common.{◌≡◌, ◌⊎◌, ℕ, ◌+◌, ◌-◌, ◌≤◌, List, [], ◌∷◌, ◌++◌, Ok, Err, refl, sym, ◌∙◌, ap, arith, inl, inr, length, drop, length-append, append-nil}
use Rattle.std.specs.Prelude.{Result, OnOk, replicate}
use Rattle.std.proofs.lemmas.List.{length-replicate}
use Rattle.std.proofs.lemmas.List.Elements.{All-nil}
use Rattle.std.proofs.Math.ListN.{drop_of_length-le}
use Rattle.journal_disk.specs.Drive.{Drive}
use Rattle.journal_disk.specs.Images.{IsTorn, grown, overlaid}
use Rattle.journal_disk.specs.Steps.{GoesOn, Keeps}
use Rattle.journal_store.specs.Format.{header, empty_bytes, IsBatch}
use Rattle.journal_store.proofs.FormatLaws.{length-header}
use Rattle.journal_store.specs.Stands.{Stands, IsFresh, Makes}
use Rattle.journal_store.specs.declared.limits.TheConstants.{VERSION}

pub length-empty : length empty_bytes ≡ 17
length-empty = omega (arith, length-append (header VERSION) (0 ∷ []), length-header VERSION)

-- each part of writing them is short
short-image : (d : Drive) (image : List ℕ) → IsFresh d → IsTorn 0 (length empty_bytes) d.bytes image → Stands image []
short-image d image fresh torn = inl (omega (arith, torn.at_most, fresh.short, length-empty), refl)

early_or : {A B C : Type 0} → A ⊎ B → (B → C) → A ⊎ C
early_or (inl early) onward = inl early
early_or (inr torn) onward = inr (onward torn)

-- overlaid-empty whole, nothing else is left
pub overlaid-empty : (bytes : List ℕ) → length bytes ≤ 17 → overlaid 0 empty_bytes bytes ≡ empty_bytes
overlaid-empty bytes short =
    let pad : List ℕ = replicate (0 + length empty_bytes - length bytes) 0 in
    let none : drop (0 + length empty_bytes) (grown (0 + length empty_bytes) bytes) ≡ [] =
    drop_of_length-le (grown (0 + length empty_bytes) bytes) (omega (arith, length-append bytes pad, length-replicate {A = ℕ} (0 + length empty_bytes - length bytes) 0, length-empty, short)) in
    ap (λ (xs : List ℕ). empty_bytes ++ xs) none ∙ append-nil empty_bytes

pub makes : {T E : Type 0} (result : Result T E) (old new : Drive) → IsFresh old → GoesOn old new → Keeps (IsTorn 0 (length empty_bytes)) (overlaid 0 empty_bytes old.bytes) result old new → Makes result old new
makes (Ok x) old new fresh goes keeps = record {
  image = λ image now. short-image old image fresh (keeps.image image now);
  since = λ moment image early since. early_or (keeps.since moment image early since) (λ torn. short-image old image fresh torn);
  stored = record {
    batches = [];
    gate = 0;
    rest = [];
    honest = goes.honest ∙ fresh.honest;
    stored = keeps.stored;
    gates = record {
      formed = All-nil IsBatch;
      closed = λ (same : 0 ≡ 1). omega (arith, same);
      bytes = keeps.bytes ∙ (overlaid-empty old.bytes fresh.short ∙ ap (λ (xs : List ℕ). xs ++ 0 ∷ []) (sym (append-nil (header VERSION))));
    };
    listed = refl;
    placed = omega (arith, length-append (header VERSION) [], length-header VERSION);
  };
}
makes (Err e) old new fresh goes keeps = record {
  image = λ image now. short-image old image fresh (keeps.image image now);
  since = λ moment image early since. early_or (keeps.since moment image early since) (λ torn. short-image old image fresh torn);
  stored = tt;
}

-- the bytes of an empty journal are there where making it succeeded
pub made-bytes : {T E : Type 0} (result : Result T E) (old new : Drive) → IsFresh old → Keeps (IsTorn 0 (length empty_bytes)) (overlaid 0 empty_bytes old.bytes) result old new → OnOk result (new.bytes ≡ empty_bytes)
made-bytes (Ok x) old new fresh keeps = keeps.bytes ∙ overlaid-empty old.bytes fresh.short
made-bytes (Err e) old new fresh keeps = tt
