-- Batches whose bytes are ready.
use Rattle.std.proofs.Common.{◌≡◌, ℕ, ◌+◌, ◌≤◌, List, [], ◌∷◌, ◌++◌, refl, sym, ◌∙◌, ap, subst, arith, length, drop, append_assoc, append-nil}
use Rattle.std.specs.Prelude.{All, Vec, vec_capacity}
use Rattle.std.specs.declared.alloc.Global.{Global}
use Rattle.std.proofs.lemmas.Grind.{flat_map-append}
use Rattle.std.proofs.lemmas.List.Elements.{All-append, All-cons, All-nil}
use Rattle.std.proofs.Math.Seq.{drop-append_seam}
use Rattle.byteorder.specs.Endian.{big_bytes}
use Rattle.byteorder.specs.Numbers.{length-bytes_high_first}
use Rattle.journal_store.specs.Batches.{payloads_in, IsReady}
use Rattle.journal_store.proofs.Payloads.{read-back}
use Rattle.journal_store.specs.Format.{IsPayload, payload_bytes, body, batch_bytes}
use Rattle.journal_store.specs.declared.limits.TheConstants.{MAX_BATCH, MAX_PAYLOADS}

body-more : (ps : List (List ℕ)) (p : List ℕ) → body (ps ++ p ∷ []) ≡ body ps ++ payload_bytes p
body-more ps p = flat_map-append payload_bytes ps (p ∷ []) ∙ ap (λ (xs : List ℕ). body ps ++ xs) (append-nil (payload_bytes p))

-- the bytes with a payload more
pub bytes-more : (ps : List (List ℕ)) (p items : List ℕ) → items ≡ big_bytes 4 (length (body ps ++ payload_bytes p)) ++ (body ps ++ payload_bytes p) ++ 0 ∷ [] → items ≡ batch_bytes (ps ++ p ∷ []) ++ 0 ∷ []
unfolding batch_bytes
bytes-more ps p items is = is ∙ ap (λ (xs : List ℕ). big_bytes 4 (length xs) ++ xs ++ 0 ∷ []) (sym (body-more ps p))

pub bytes-of : (ps : List (List ℕ)) (items : List ℕ) → items ≡ batch_bytes ps ++ 0 ∷ [] → items ≡ big_bytes 4 (length (body ps)) ++ body ps ++ 0 ∷ []
unfolding batch_bytes
bytes-of ps items is = is

-- the payloads that stand in the bytes
pub ready-payloads : (ps : List (List ℕ)) (items : List ℕ) (n : ℕ) → All IsPayload ps → length ps ≡ n → items ≡ batch_bytes ps ++ 0 ∷ [] → payloads_in n (drop 4 items) ≡ ps
ready-payloads ps items n fine long is =
    let head : List ℕ = big_bytes 4 (length (body ps)) in
    let four : length head ≡ 4 = length-bytes_high_first 4 (length (body ps)) in
    let behind : drop 4 items ≡ body ps ++ 0 ∷ [] =
    ap (drop 4) (bytes-of ps items is ∙ append_assoc head (body ps) (0 ∷ [])) ∙ (ap (λ (k : ℕ). drop k (head ++ (body ps ++ 0 ∷ []))) (sym four) ∙ drop-append_seam head (body ps ++ 0 ∷ [])) in
    ap (payloads_in n) behind ∙ (ap (λ (k : ℕ). payloads_in k (body ps ++ 0 ∷ [])) (sym long) ∙ read-back ps (0 ∷ []) fine)

pub ready : (ps : List (List ℕ)) (bytes : Vec ℕ Global) (n : ℕ) → All IsPayload ps → length ps ≡ n → n ≤ MAX_PAYLOADS → bytes.items ≡ batch_bytes ps ++ 0 ∷ [] → MAX_BATCH + 1 ≤ vec_capacity bytes → IsReady n bytes
ready ps bytes n fine long few is room =
    let same = ready-payloads ps bytes.items n fine long is in
    record {
      formed = is ∙ ap (λ (qs : List (List ℕ)). batch_bytes qs ++ 0 ∷ []) (sym same);
      payloads = subst (All IsPayload) (sym same) fine;
      few = few;
      room = room;
    }

pub ready-none : (bytes : Vec ℕ Global) → bytes.items ≡ 0 ∷ 0 ∷ 0 ∷ 0 ∷ 0 ∷ [] → MAX_BATCH + 1 ≤ vec_capacity bytes → IsReady 0 bytes
unfolding batch_bytes
ready-none bytes is room = ready [] bytes 0 (All-nil IsPayload) refl (omega arith) is room

pub fine-more : (ps : List (List ℕ)) (p : List ℕ) → All IsPayload ps → IsPayload p → All IsPayload (ps ++ p ∷ [])
fine-more ps p fine one = All-append IsPayload ps (p ∷ []) fine (All-cons IsPayload p [] one (All-nil IsPayload))
