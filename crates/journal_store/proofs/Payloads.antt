-- What was written of payloads is what is read.
use Rattle.std.proofs.Common.{◌≡◌, ℕ, zero, suc, ◌^◌, ◌<◌, List, [], ◌∷◌, ◌++◌, refl, sym, ◌∙◌, ap, arith, length, take, drop, append_assoc}
use Rattle.std.specs.Prelude.{All}
use Rattle.std.proofs.lemmas.List.Elements.{All-head, All-tail}
use Rattle.std.proofs.lemmas.List.Concat.{flat_map-cons}
use Rattle.std.proofs.Math.Seq.{take-append_seam, drop-append_seam}
use Rattle.byteorder.specs.Endian.{big_bytes, big_number}
use Rattle.byteorder.specs.Numbers.{big_number-reads_back, length-bytes_high_first}
use Rattle.journal_store.specs.Batches.{payloads_in}
use Rattle.journal_store.specs.Format.{IsPayload, payload_bytes, body}

one-more : (bytes p rest : List ℕ) (n : ℕ) → big_number 2 bytes ≡ length p → drop 2 bytes ≡ p ++ rest → payloads_in (suc n) bytes ≡ p ∷ payloads_in n rest
one-more bytes p rest n long behind =
    (λ i. take (long i) (behind i) ∷ payloads_in n (drop (long i) (behind i))) ∙ (λ i. take-append_seam p rest i ∷ payloads_in n (drop-append_seam p rest i))

-- what was written is what is read, whatever follows
pub read-back : (batch : List (List ℕ)) (rest : List ℕ) → All IsPayload batch → payloads_in (length batch) (body batch ++ rest) ≡ batch
unfolding payload_bytes
read-back [] rest fine = refl
read-back (p ∷ ps) rest fine =
    let size : List ℕ = big_bytes 2 (length p) in
    let two : length size ≡ 2 = length-bytes_high_first 2 (length p) in
    let small : length p < 256 ^ 2 = omega (arith, (All-head IsPayload p ps fine).at_most) in
    let bytes : body (p ∷ ps) ++ rest ≡ size ++ (p ++ (body ps ++ rest)) =
    ap (λ (xs : List ℕ). xs ++ rest) (flat_map-cons payload_bytes p ps) ∙ (append_assoc (size ++ p) (body ps) rest ∙ append_assoc size p (body ps ++ rest)) in
    let long = ap (big_number 2) bytes ∙ big_number-reads_back 2 (length p) (p ++ (body ps ++ rest)) small in
    let behind = ap (drop 2) bytes ∙ (ap (λ (n : ℕ). drop n (size ++ (p ++ (body ps ++ rest)))) (sym two) ∙ drop-append_seam size (p ++ (body ps ++ rest))) in
    one-more (body (p ∷ ps) ++ rest) p (body ps ++ rest) (length ps) long behind ∙ ap (λ (qs : List (List ℕ)). p ∷ qs) (read-back ps rest (All-tail IsPayload p ps fine))

pub length-payloads_in : (n : ℕ) (bytes : List ℕ) → length (payloads_in n bytes) ≡ n
length-payloads_in zero bytes = refl
length-payloads_in (suc n) bytes = ap suc (length-payloads_in n (drop (big_number 2 bytes) (drop 2 bytes)))
