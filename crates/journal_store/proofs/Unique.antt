-- An image stands for at most one list.
use Rattle.std.proofs.Common.{◌≡◌, ℕ, ◌^◌, ◌<◌, ◌≤◌, List, [], ◌∷◌, ◌++◌, refl, sym, ◌∙◌, ap, arith, inl, inr, length, take, drop, length-append, append_assoc}
use Rattle.std.specs.Prelude.{◌≢◌, All}
use Rattle.std.proofs.lemmas.List.Concat.{flat_map-cons}
use Rattle.std.proofs.lemmas.List.Elements.{All-head, All-tail}
use Rattle.std.proofs.Math.Seq.{take-append_seam, drop-append_seam}
use Rattle.byteorder.specs.Endian.{big_bytes, big_number}
use Rattle.byteorder.specs.Numbers.{big_number-reads_back, length-bytes_high_first}
use Rattle.journal_store.specs.Format.{header, IsPayload, IsBatch, payload_bytes, body, batch_bytes, open_gates, payloads}
use Rattle.journal_store.proofs.FormatLaws.{length-header}
use Rattle.journal_store.proofs.Sized.{body-within, length-batch}
use Rattle.journal_store.specs.Stands.{HasGates, Stands}
use Rattle.journal_store.specs.declared.limits.TheConstants.{VERSION}

-- lists whose fronts are as long have the same fronts and the same rests
pub same-front : (xs ys us vs : List ℕ) → length xs ≡ length ys → xs ++ us ≡ ys ++ vs → xs ≡ ys
same-front xs ys us vs long same = sym (take-append_seam xs us) ∙ (ap (take (length xs)) same ∙ (ap (λ (n : ℕ). take n (ys ++ vs)) long ∙ take-append_seam ys vs))

pub same-rest : (xs ys us vs : List ℕ) → length xs ≡ length ys → xs ++ us ≡ ys ++ vs → us ≡ vs
same-rest xs ys us vs long same = sym (drop-append_seam xs us) ∙ (ap (drop (length xs)) same ∙ (ap (λ (n : ℕ). drop n (ys ++ vs)) long ∙ drop-append_seam ys vs))

-- a number in front of bytes is told by them
pub same-number : (width m n : ℕ) (us vs : List ℕ) → m < 256 ^ width → n < 256 ^ width → big_bytes width m ++ us ≡ big_bytes width n ++ vs → m ≡ n
same-number width m n us vs small little same = sym (big_number-reads_back width m us small) ∙ (ap (big_number width) same ∙ big_number-reads_back width n vs little)

pub sized-rest : (width m n : ℕ) (us vs : List ℕ) → big_bytes width m ++ us ≡ big_bytes width n ++ vs → us ≡ vs
sized-rest width m n us vs same = same-rest (big_bytes width m) (big_bytes width n) us vs (length-bytes_high_first width m ∙ sym (length-bytes_high_first width n)) same

-- payloads with bytes behind them are told by their bytes, where as many bytes are theirs
pub same-payload : (p q us vs : List ℕ) → IsPayload p → IsPayload q → payload_bytes p ++ us ≡ payload_bytes q ++ vs → (p ≡ q) × (us ≡ vs)
unfolding payload_bytes
same-payload p q us vs fine good same =
    let whole : big_bytes 2 (length p) ++ (p ++ us) ≡ big_bytes 2 (length q) ++ (q ++ vs) = sym (append_assoc (big_bytes 2 (length p)) p us) ∙ (same ∙ append_assoc (big_bytes 2 (length q)) q vs) in
    let long = same-number 2 (length p) (length q) (p ++ us) (q ++ vs) (omega (arith, fine.at_most)) (omega (arith, good.at_most)) whole in
    let rest = sized-rest 2 (length p) (length q) (p ++ us) (q ++ vs) whole in
    (same-front p q us vs long rest, same-rest p q us vs long rest)

pub some-bytes : (p : List ℕ) (ps : List (List ℕ)) → body (p ∷ ps) ≡ [] → ⊥
unfolding payload_bytes
some-bytes p ps none = omega (arith, ap length none, ap length (flat_map-cons payload_bytes p ps), length-append (big_bytes 2 (length p) ++ p) (body ps), length-append (big_bytes 2 (length p)) p, length-bytes_high_first 2 (length p))

pub same-body : (ps qs : List (List ℕ)) → All IsPayload ps → All IsPayload qs → body ps ≡ body qs → ps ≡ qs
same-body [] [] fine good same = refl
same-body [] (q ∷ qs) fine good same = absurd (some-bytes q qs (sym same))
same-body (p ∷ ps) [] fine good same = absurd (some-bytes p ps same)
same-body (p ∷ ps) (q ∷ qs) fine good same =
    let both = same-payload p q (body ps) (body qs) (All-head IsPayload p ps fine) (All-head IsPayload q qs good) (sym (flat_map-cons payload_bytes p ps) ∙ (same ∙ flat_map-cons payload_bytes q qs)) in
    ap (λ (x : List ℕ). x ∷ ps) both.0 ∙ ap (λ (xs : List (List ℕ)). q ∷ xs) (same-body ps qs (All-tail IsPayload p ps fine) (All-tail IsPayload q qs good) both.1)

pub short-body : (ps : List (List ℕ)) → IsBatch ps → length (body ps) < 256 ^ 4
short-body ps is = grind (arith, body-within ps is.payloads, is.at_most)

pub same-batch : (ps qs : List (List ℕ)) (us vs : List ℕ) → IsBatch ps → IsBatch qs → batch_bytes ps ++ us ≡ batch_bytes qs ++ vs → (ps ≡ qs) × (us ≡ vs)
unfolding batch_bytes
same-batch ps qs us vs is also same =
    let whole : big_bytes 4 (length (body ps)) ++ (body ps ++ us) ≡ big_bytes 4 (length (body qs)) ++ (body qs ++ vs) =
    sym (append_assoc (big_bytes 4 (length (body ps))) (body ps) us) ∙ (same ∙ append_assoc (big_bytes 4 (length (body qs))) (body qs) vs) in
    let long = same-number 4 (length (body ps)) (length (body qs)) (body ps ++ us) (body qs ++ vs) (short-body ps is) (short-body qs also) whole in
    let rest = sized-rest 4 (length (body ps)) (length (body qs)) (body ps ++ us) (body qs ++ vs) whole in
    (same-body ps qs is.payloads also.payloads (same-front (body ps) (body qs) us vs long rest), same-rest (body ps) (body qs) us vs long rest)

-- the gates tell the batches behind them
pub first-byte : (x y : ℕ) (us vs : List ℕ) → x ∷ us ≡ y ∷ vs → x ≡ y
first-byte x y us vs same = cc

pub later-bytes : (x y : ℕ) (us vs : List ℕ) → x ∷ us ≡ y ∷ vs → us ≡ vs
later-bytes x y us vs same = cc

pub open-first : (b : List (List ℕ)) (bs : List (List (List ℕ))) (xs : List ℕ) → open_gates (b ∷ bs) ++ xs ≡ 1 ∷ (batch_bytes b ++ (open_gates bs ++ xs))
open-first b bs xs =
    ap (λ (ys : List ℕ). ys ++ xs) (flat_map-cons (λ batch. 1 ∷ batch_bytes batch) b bs) ∙ append_assoc (1 ∷ batch_bytes b) (open_gates bs) xs

pub same-gates : (bs cs : List (List (List ℕ))) (g h : ℕ) (us vs : List ℕ) → All IsBatch bs → All IsBatch cs → g ≢ 1 → h ≢ 1 → open_gates bs ++ g ∷ us ≡ open_gates cs ++ h ∷ vs → bs ≡ cs
same-gates [] [] g h us vs fine good shut closed same = refl
same-gates [] (c ∷ cs) g h us vs fine good shut closed same = absurd (shut (first-byte g 1 us (batch_bytes c ++ (open_gates cs ++ h ∷ vs)) (same ∙ open-first c cs (h ∷ vs))))
same-gates (b ∷ bs) [] g h us vs fine good shut closed same = absurd (closed (first-byte h 1 vs (batch_bytes b ++ (open_gates bs ++ g ∷ us)) (sym same ∙ open-first b bs (g ∷ us))))
same-gates (b ∷ bs) (c ∷ cs) g h us vs fine good shut closed same =
    let behind = later-bytes 1 1 (batch_bytes b ++ (open_gates bs ++ g ∷ us)) (batch_bytes c ++ (open_gates cs ++ h ∷ vs)) (sym (open-first b bs (g ∷ us)) ∙ (same ∙ open-first c cs (h ∷ vs))) in
    let both = same-batch b c (open_gates bs ++ g ∷ us) (open_gates cs ++ h ∷ vs) (All-head IsBatch b bs fine) (All-head IsBatch c cs good) behind in
    ap (λ (x : List (List ℕ)). x ∷ bs) both.0 ∙ ap (λ (xs : List (List (List ℕ))). c ∷ xs) (same-gates bs cs g h us vs (All-tail IsBatch b bs fine) (All-tail IsBatch c cs good) shut closed both.1)

-- an image of at most 17 bytes has no open gate
pub none-short : (bs : List (List (List ℕ))) (g : ℕ) (rest image : List ℕ) → HasGates bs g rest image → length image ≤ 17 → payloads bs ≡ []
none-short [] g rest image gates short = refl
none-short (b ∷ bs) g rest image gates short =
    absurd (omega (arith, short, ap length gates.bytes, length-append (header VERSION ++ open_gates (b ∷ bs)) (g ∷ rest), length-append (header VERSION) (open_gates (b ∷ bs)), length-header VERSION, ap length (flat_map-cons (λ batch. 1 ∷ batch_bytes batch) b bs), length-append (1 ∷ batch_bytes b) (open_gates bs), length-batch b))

pub one-list : (image : List ℕ) (list other : List (List ℕ)) → Stands image list → Stands image other → list ≡ other
one-list image list other (inl short) (inl few) = short.1 ∙ sym few.1
one-list image list other (inl short) (inr journal) = short.1 ∙ (sym (none-short journal.0 journal.1 journal.2 image journal.3 short.0) ∙ sym journal.4)
one-list image list other (inr journal) (inl short) = journal.4 ∙ (none-short journal.0 journal.1 journal.2 image journal.3 short.0 ∙ sym short.1)
one-list image list other (inr one) (inr two) =
    let bytes : open_gates one.0 ++ one.1 ∷ one.2 ≡ open_gates two.0 ++ two.1 ∷ two.2 =
    same-rest (header VERSION) (header VERSION) (open_gates one.0 ++ one.1 ∷ one.2) (open_gates two.0 ++ two.1 ∷ two.2) refl (
    sym (append_assoc (header VERSION) (open_gates one.0) (one.1 ∷ one.2)) ∙ (sym one.3.bytes ∙ (two.3.bytes ∙ append_assoc (header VERSION) (open_gates two.0) (two.1 ∷ two.2)))
    ) in
    one.4 ∙ (ap payloads (same-gates one.0 two.0 one.1 two.1 one.2 two.2 one.3.formed two.3.formed one.3.closed two.3.closed bytes) ∙ sym two.4)
