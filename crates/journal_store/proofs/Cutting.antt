-- Payloads and batches cut off the front of bytes.
use Rattle.std.proofs.Common.{◌≡◌, ℕ, ◌+◌, ◌^◌, ◌<◌, ◌≤◌, List, [], ◌∷◌, ◌++◌, refl, sym, ◌∙◌, ap, arith, length, take, drop, get_or, length-append, length-take, append_assoc, append-nil}
use Rattle.std.specs.Prelude.{All}
use Rattle.std.proofs.lemmas.List.{length-drop, take-append-drop, take-append-le}
use Rattle.std.proofs.lemmas.List.Concat.{flat_map-cons}
use Rattle.std.proofs.lemmas.List.Elements.{All-head, All-tail, All-append, All-cons, All-nil}
use Rattle.std.proofs.lemmas.Grind.{flat_map-append}
use Rattle.std.proofs.Math.Seq.{take-append_seam, drop-append_seam}
use Rattle.byteorder.specs.Endian.{big_bytes, big_number}
use Rattle.byteorder.specs.Numbers.{big_number-reads_back, length-bytes_high_first}
use Rattle.journal_store.specs.Cut.{HasPayloads, HasBatch}
use Rattle.journal_store.specs.Format.{IsPayload, IsBatch, payload_bytes, body, batch_bytes}
use Rattle.journal_store.proofs.Sized.{length-payload}
use Rattle.journal_store.proofs.Unique.{same-payload, same-body, short-body}
use Rattle.journal_store.proofs.Numbers.{spelt-two, spelt-four}

-- the front of equal bytes, where one part is at least as long as the other
pub longer-front : (xs ys us vs : List ℕ) → xs ++ us ≡ ys ++ vs → length ys ≤ length xs → xs ≡ ys ++ drop (length ys) xs
longer-front xs ys us vs same long =
    let first : take (length ys) xs ≡ ys = sym (take-append-le (length ys) xs us long) ∙ (ap (take (length ys)) same ∙ take-append_seam ys vs) in
    sym (take-append-drop (length ys) xs) ∙ ap (λ (zs : List ℕ). zs ++ drop (length ys) xs) first

pub some-first : (xs : List ℕ) → 1 ≤ length xs → (x : ℕ) × (rest : List ℕ) × (xs ≡ x ∷ rest)
some-first [] long = absurd (omega arith)
some-first (x ∷ xs) long = (x, xs, refl)

-- the number that bytes begin with
read-number : (width n : ℕ) (bytes rest : List ℕ) → n < 256 ^ width → bytes ≡ big_bytes width n ++ rest → big_number width bytes ≡ n
read-number width n bytes rest small are = ap (big_number width) are ∙ big_number-reads_back width n rest small

-- bytes with their number in front
sized : (width m n : ℕ) (bytes behind inner rest : List ℕ) → bytes ≡ big_bytes width m ++ behind → n ≡ m → n ≡ length inner → behind ≡ inner ++ rest → bytes ≡ (big_bytes width (length inner) ++ inner) ++ rest
sized width m n bytes behind inner rest are number long split =
    let size = sym number ∙ long in
    are ∙ ((λ i. big_bytes width (size i) ++ split i) ∙ sym (append_assoc (big_bytes width (length inner)) inner rest))

-- what a payload in front tells
pub payload-number : (bytes p us : List ℕ) → IsPayload p → bytes ≡ payload_bytes p ++ us → big_number 2 bytes ≡ length p
unfolding payload_bytes
payload-number bytes p us is are =
    read-number 2 (length p) bytes (p ++ us) (omega (arith, is.at_most)) (are ∙ append_assoc (big_bytes 2 (length p)) p us)

pub payload-room : (bytes p us : List ℕ) → bytes ≡ payload_bytes p ++ us → length bytes ≡ 2 + length p + length us
payload-room bytes p us are = omega (arith, ap length are, length-append (payload_bytes p) us, length-payload p)

-- a payload that is cut by its number
pub cut-payload : (bytes p behind : List ℕ) (n : ℕ) → ((i : ℕ) → get_or bytes i 0 < 256) → n ≡ big_number 2 bytes → 2 + n ≤ length bytes → p ≡ take n (drop 2 bytes) → behind ≡ drop n (drop 2 bytes)
    → bytes ≡ payload_bytes p ++ behind
unfolding payload_bytes
cut-payload bytes p behind n small number room is rest =
    let long : n ≡ length p = omega (arith, ap length is, length-take n (drop 2 bytes), length-drop 2 bytes, room) in
    let split : drop 2 bytes ≡ p ++ behind = sym (take-append-drop n (drop 2 bytes)) ∙ (λ i. sym is i ++ sym rest i) in
    sized 2 (big_number 2 bytes) n bytes (drop 2 bytes) p behind (spelt-two bytes small (omega (arith, room))) number long split

-- Payloads in front of bytes that are payloads are the first of them.
pub record Forced (ps qs : List (List ℕ)) (rest : List ℕ) : Type 0 where
  pub behind : List (List ℕ)
  pub fine : All IsPayload behind
  pub are : rest ≡ body behind

pub forced : (ps qs : List (List ℕ)) (rest : List ℕ) → All IsPayload ps → All IsPayload qs → body qs ≡ body ps ++ rest → Forced ps qs rest
forced [] qs rest fine good same = record { behind = qs; fine = good; are = sym same }
forced (p ∷ ps) [] rest fine good same =
    absurd (omega (arith, ap length same, length-append (body (p ∷ ps)) rest, ap length (flat_map-cons payload_bytes p ps), length-append (payload_bytes p) (body ps), length-payload p))
forced (p ∷ ps) (q ∷ qs) rest fine good same =
    let whole : payload_bytes q ++ body qs ≡ payload_bytes p ++ (body ps ++ rest) =
    sym (flat_map-cons payload_bytes q qs) ∙ (same ∙ (ap (λ (xs : List ℕ). xs ++ rest) (flat_map-cons payload_bytes p ps) ∙ append_assoc (payload_bytes p) (body ps) rest)) in
    let both = same-payload q p (body qs) (body ps ++ rest) (All-head IsPayload q qs good) (All-head IsPayload p ps fine) whole in
    let later = forced ps qs rest (All-tail IsPayload p ps fine) (All-tail IsPayload q qs good) both.1 in
    record { behind = later.behind; fine = later.fine; are = later.are }

-- so many payloads were cut off the bytes, and the rest is left
pub record HasFront (count : ℕ) (bytes rest : List ℕ) : Type 0 where
  pub payloads : List (List ℕ)
  pub fine : All IsPayload payloads
  pub long : length payloads ≡ count
  pub are : bytes ≡ body payloads ++ rest

pub front-none : (bytes : List ℕ) → HasFront 0 bytes bytes
front-none bytes = record { payloads = []; fine = All-nil IsPayload; long = refl; are = refl }

pub front-more : (count : ℕ) (bytes rest p later : List ℕ) → HasFront count bytes rest → IsPayload p → rest ≡ payload_bytes p ++ later → HasFront (count + 1) bytes later
front-more count bytes rest p later front is are =
    let ps = front.payloads in
    let more : body (ps ++ p ∷ []) ≡ body ps ++ payload_bytes p = flat_map-append payload_bytes ps (p ∷ []) ∙ ap (λ (xs : List ℕ). body ps ++ xs) (append-nil (payload_bytes p)) in
    record {
      payloads = ps ++ p ∷ [];
      fine = All-append IsPayload ps (p ∷ []) front.fine (All-cons IsPayload p [] is (All-nil IsPayload));
      long = omega (arith, length-append ps (p ∷ []), front.long);
      are = front.are ∙ (ap (λ (xs : List ℕ). body ps ++ xs) are ∙ (sym (append_assoc (body ps) (payload_bytes p) later) ∙ ap (λ (xs : List ℕ). xs ++ later) (sym more)));
    }

pub front-all : (count : ℕ) (bytes rest : List ℕ) → HasFront count bytes rest → length rest ≡ 0 → HasPayloads count bytes
front-all count bytes [] front none = record { payloads = front.payloads; fine = front.fine; long = front.long; are = front.are ∙ append-nil (body front.payloads) }
front-all count bytes (x ∷ xs) front none = absurd (omega (arith, none))

first-none : (ps : List (List ℕ)) → All IsPayload ps → (rest : List ℕ) → 1 ≤ length rest → ((p us : List ℕ) → IsPayload p → rest ≡ payload_bytes p ++ us → ⊥) → rest ≡ body ps → ⊥
first-none [] fine rest some none are = omega (arith, ap length are)
first-none (p ∷ ps) fine rest some none are = none p (body ps) (All-head IsPayload p ps fine) (are ∙ flat_map-cons payload_bytes p ps)

-- no payload is in front of what is left, so the bytes are no payloads
pub front-broken : (count : ℕ) (bytes rest : List ℕ) → HasFront count bytes rest → 1 ≤ length rest → ((p us : List ℕ) → IsPayload p → rest ≡ payload_bytes p ++ us → ⊥)
    → (qs : List (List ℕ)) → All IsPayload qs → bytes ≡ body qs → ⊥
front-broken count bytes rest front some none qs good same =
    let later = forced front.payloads qs rest front.fine good (sym same ∙ front.are) in
    first-none later.behind later.fine rest some none later.are

-- what a batch in front tells
pub record Batched (ps : List (List ℕ)) (bytes : List ℕ) : Type 0 where
  pub number : big_number 4 bytes ≡ length (body ps)
  pub room : 4 + big_number 4 bytes < length bytes
  pub inner : take (big_number 4 bytes) (drop 4 bytes) ≡ body ps

pub batched : (ps : List (List ℕ)) (gate : ℕ) (more bytes : List ℕ) → IsBatch ps → bytes ≡ batch_bytes ps ++ gate ∷ more → Batched ps bytes
unfolding batch_bytes
batched ps gate more bytes is are =
    let size : List ℕ = big_bytes 4 (length (body ps)) in
    let four : length size ≡ 4 = length-bytes_high_first 4 (length (body ps)) in
    let whole : bytes ≡ size ++ (body ps ++ gate ∷ more) = are ∙ append_assoc size (body ps) (gate ∷ more) in
    let number : big_number 4 bytes ≡ length (body ps) = read-number 4 (length (body ps)) bytes (body ps ++ gate ∷ more) (short-body ps is) whole in
    let behind : drop 4 bytes ≡ body ps ++ gate ∷ more = ap (drop 4) whole ∙ (ap (λ (k : ℕ). drop k (size ++ (body ps ++ gate ∷ more))) (sym four) ∙ drop-append_seam size (body ps ++ gate ∷ more)) in
    record {
      number = number;
      room = omega (arith, number, ap length whole, length-append size (body ps ++ gate ∷ more), length-append (body ps) (gate ∷ more), four);
      inner = (λ i. take (number i) (behind i)) ∙ take-append_seam (body ps) (gate ∷ more);
    }

-- a batch that is cut by its number
pub cut-batch : (bytes : List ℕ) (count n : ℕ) → ((i : ℕ) → get_or bytes i 0 < 256) → n ≡ big_number 4 bytes → 4 + n < length bytes → HasPayloads count (take n (drop 4 bytes)) → 1 ≤ count → count ≤ 64 → HasBatch count bytes
unfolding batch_bytes
cut-batch bytes count n small number room has some few =
    let ps = has.payloads in
    let behind : List ℕ = drop 4 bytes in
    let rest = some-first (drop n behind) (omega (arith, length-drop n behind, length-drop 4 bytes, room)) in
    let long : n ≡ length (body ps) = omega (arith, ap length has.are, length-take n behind, length-drop 4 bytes, room) in
    let split : behind ≡ body ps ++ rest.0 ∷ rest.1 = sym (take-append-drop n behind) ∙ (λ i. has.are i ++ rest.2 i) in
    record {
      batch = ps;
      gate = rest.0;
      rest = rest.1;
      is = record { at_least = omega (arith, has.long, some); at_most = omega (arith, has.long, few); payloads = has.fine };
      long = has.long;
      are = sized 4 (big_number 4 bytes) n bytes behind (body ps) (rest.0 ∷ rest.1) (spelt-four bytes small (omega (arith, room))) number long split;
    }

pub batch-counted : (count : ℕ) (bytes inner : List ℕ) → HasPayloads count inner → inner ≡ take (big_number 4 bytes) (drop 4 bytes) → (ps : List (List ℕ)) (gate : ℕ) (more : List ℕ) → IsBatch ps → bytes ≡ batch_bytes ps ++ gate ∷ more
    → count ≡ length ps
batch-counted count bytes inner has same ps gate more is are =
    let b = batched ps gate more bytes is are in
    sym has.long ∙ ap length (same-body has.payloads ps has.fine is.payloads (sym has.are ∙ (same ∙ b.inner)))
