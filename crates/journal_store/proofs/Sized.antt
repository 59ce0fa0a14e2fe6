-- How many bytes payloads and batches take.
use Rattle.std.proofs.Common.{◌≡◌, ℕ, ◌+◌, ◌*◌, ◌≤◌, List, [], ◌∷◌, ap, arith, length, length-append}
use Rattle.std.specs.Prelude.{All}
use Rattle.std.proofs.lemmas.List.Concat.{flat_map-cons}
use Rattle.std.proofs.lemmas.List.Elements.{All-head, All-tail}
use Rattle.byteorder.specs.Endian.{big_bytes}
use Rattle.byteorder.specs.Numbers.{length-bytes_high_first}
use Rattle.journal_store.specs.Format.{IsPayload, payload_bytes, body, batch_bytes}
use Rattle.journal_store.specs.declared.limits.TheConstants.{MAX_PAYLOAD}

-- each payload takes at most so many bytes
pub length-payload : (p : List ℕ) → length (payload_bytes p) ≡ 2 + length p
unfolding payload_bytes
length-payload p = omega (arith, length-append (big_bytes 2 (length p)) p, length-bytes_high_first 2 (length p))

pub body-within : (ps : List (List ℕ)) → All IsPayload ps → length (body ps) ≤ length ps * (2 + MAX_PAYLOAD)
body-within [] fine = omega arith
body-within (p ∷ ps) fine =
    omega (arith, body-within ps (All-tail IsPayload p ps fine), ap length (flat_map-cons payload_bytes p ps), length-append (payload_bytes p) (body ps), length-payload p, (All-head IsPayload p ps fine).at_most)

pub length-batch : (ps : List (List ℕ)) → length (batch_bytes ps) ≡ 4 + length (body ps)
unfolding batch_bytes
length-batch ps = omega (arith, length-append (big_bytes 4 (length (body ps))) (body ps), length-bytes_high_first 4 (length (body ps)))
