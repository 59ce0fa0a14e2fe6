-- What a reader finds tells the list that an image stands for.
use Rattle.std.proofs.Common.{◌≡◌, ℕ, ◌+◌, ◌≤◌, List, [], ◌∷◌, ◌++◌, refl, sym, ◌∙◌, ap, arith, inl, inr, length, take, length-append, append_assoc, append-nil}
use Rattle.std.specs.Prelude.{◌≢◌, All}
use Rattle.std.proofs.lemmas.Grind.{flat_map-append}
use Rattle.std.proofs.lemmas.List.{append_cancel_left}
use Rattle.std.proofs.lemmas.List.Concat.{flat_map-cons}
use Rattle.std.proofs.lemmas.List.Elements.{All-head, All-tail, All-append, All-cons, All-nil}
use Rattle.std.proofs.Math.Seq.{take-append_seam}
use Rattle.journal_store.specs.Format.{header, empty_bytes, IsBatch, batch_bytes, open_gates, payloads}
use Rattle.journal_store.proofs.FormatLaws.{length-header, payloads-more}
use Rattle.journal_store.specs.Found.{Follows, Ends, Breaks, IsForeign}
use Rattle.journal_store.proofs.Sized.{length-batch}
use Rattle.journal_store.specs.Stands.{HasGates, Stands}
use Rattle.journal_store.proofs.Unique.{same-batch, first-byte, later-bytes, open-first}
use Rattle.journal_store.specs.declared.limits.TheConstants.{VERSION}

pub one-end : (image : List ℕ) (list : List (List ℕ)) → Ends list image → Stands image list
one-end image list ends = inr (ends.batches, ends.gate, ends.rest, ends.gates, ends.listed)

-- an empty journal stands for the empty list
pub empty-stands : Stands empty_bytes []
empty-stands = inl (omega (arith, length-append (header VERSION) (0 ∷ []), length-header VERSION), refl)

pub no-list : (image : List ℕ) (list : List (List ℕ)) → IsForeign image → Stands image list → ⊥
no-list image list foreign (inl short) = omega (arith, foreign.long, short.0)
no-list image list foreign (inr journal) =
    let bytes : image ≡ header VERSION ++ (open_gates journal.0 ++ journal.1 ∷ journal.2) = journal.3.bytes ∙ append_assoc (header VERSION) (open_gates journal.0) (journal.1 ∷ journal.2) in
    foreign.other (ap (take 16) bytes ∙ (ap (λ (n : ℕ). take n (header VERSION ++ (open_gates journal.0 ++ journal.1 ∷ journal.2))) (sym (length-header VERSION)) ∙ take-append_seam (header VERSION) (open_gates journal.0 ++ journal.1 ∷ journal.2)))

-- the batches that bytes begin with are the first of all
record Leads (batches whole : List (List (List ℕ))) (gate : ℕ) (behind rest : List ℕ) : Type 0 where
  later : List (List (List ℕ))
  formed : All IsBatch later
  whole_is : whole ≡ batches ++ later
  behind_is : behind ≡ open_gates later ++ gate ∷ rest

leads : (bs cs : List (List (List ℕ))) (gate : ℕ) (behind rest : List ℕ) → All IsBatch bs → All IsBatch cs → gate ≢ 1 → open_gates bs ++ behind ≡ open_gates cs ++ gate ∷ rest → Leads bs cs gate behind rest
leads [] cs gate behind rest fine good closed same = record { later = cs; formed = good; whole_is = refl; behind_is = same }
leads (b ∷ bs) [] gate behind rest fine good closed same = absurd (closed (first-byte gate 1 rest (batch_bytes b ++ (open_gates bs ++ behind)) (sym same ∙ open-first b bs behind)))
leads (b ∷ bs) (c ∷ cs) gate behind rest fine good closed same =
    let inner = later-bytes 1 1 (batch_bytes b ++ (open_gates bs ++ behind)) (batch_bytes c ++ (open_gates cs ++ gate ∷ rest)) (sym (open-first b bs behind) ∙ (same ∙ open-first c cs (gate ∷ rest))) in
    let both = same-batch b c (open_gates bs ++ behind) (open_gates cs ++ gate ∷ rest) (All-head IsBatch b bs fine) (All-head IsBatch c cs good) inner in
    let more = leads bs cs gate behind rest (All-tail IsBatch b bs fine) (All-tail IsBatch c cs good) closed both.1 in
    record { later = more.later; formed = more.formed; whole_is = λ i. sym both.0 i ∷ more.whole_is i; behind_is = more.behind_is }

-- behind the header
pub inner-bytes : (bs cs : List (List (List ℕ))) (us vs image : List ℕ) → image ≡ header VERSION ++ open_gates bs ++ us → image ≡ header VERSION ++ open_gates cs ++ vs → open_gates bs ++ us ≡ open_gates cs ++ vs
inner-bytes bs cs us vs image one two =
    append_cancel_left (header VERSION) (open_gates bs ++ us) (open_gates cs ++ vs) (sym (append_assoc (header VERSION) (open_gates bs) us) ∙ (sym one ∙ (two ∙ append_assoc (header VERSION) (open_gates cs) vs)))

length-front : (bs : List (List (List ℕ))) (us image : List ℕ) → image ≡ header VERSION ++ open_gates bs ++ us → length image ≡ 16 + (length (open_gates bs) + length us)
length-front bs us image is = omega (arith, ap length is, length-append (header VERSION ++ open_gates bs) us, length-append (header VERSION) (open_gates bs), length-header VERSION)

length-last : (bs : List (List (List ℕ))) (b : List (List ℕ)) → 5 ≤ length (open_gates (bs ++ b ∷ []))
length-last bs b =
    omega (arith, ap length (flat_map-append (λ batch. 1 ∷ batch_bytes batch) bs (b ∷ [])), length-append (open_gates bs) (open_gates (b ∷ [])), ap length (flat_map-cons (λ batch. 1 ∷ batch_bytes batch) b []), length-append (1 ∷ batch_bytes b) [], length-batch b)

-- a payload that follows stands in the list, behind what was told
pub followed : (image : List ℕ) (whole list : List (List ℕ)) (payload : List ℕ) (place : ℕ) → Stands image whole → Follows list payload place image → (rest : List (List ℕ)) × (whole ≡ list ++ payload ∷ rest)
followed image whole list payload place (inl short) f =
    absurd (omega (arith, short.0, length-front (f.before ++ (f.told ++ payload ∷ f.waiting) ∷ []) (f.gate ∷ f.rest) image f.bytes, length-last f.before (f.told ++ payload ∷ f.waiting)))
followed image whole list payload place (inr journal) f =
    let batch : List (List ℕ) = f.told ++ payload ∷ f.waiting in
    let bs : List (List (List ℕ)) = f.before ++ batch ∷ [] in
    let formed = All-append IsBatch f.before (batch ∷ []) f.formed (All-cons IsBatch batch [] f.batch (All-nil IsBatch)) in
    let l = leads bs journal.0 journal.1 (f.gate ∷ f.rest) journal.2 formed journal.3.formed journal.3.closed (inner-bytes bs journal.0 (f.gate ∷ f.rest) (journal.1 ∷ journal.2) image f.bytes journal.3.bytes) in
    let later : List (List ℕ) = payloads l.later in (
      f.waiting ++ later,
      journal.4
          ∙ (ap payloads l.whole_is
          ∙ (flat_map-append (λ (b : List (List ℕ)). b) bs l.later
          ∙ (ap (λ (ps : List (List ℕ)). ps ++ later) (payloads-more f.before batch ∙ sym (append_assoc (payloads f.before) f.told (payload ∷ f.waiting)))
          ∙ (append_assoc (payloads f.before ++ f.told) (payload ∷ f.waiting) later ∙ ap (λ (ps : List (List ℕ)). ps ++ payload ∷ (f.waiting ++ later)) (sym f.listed))))),
    )

-- an open gate with no batch behind it isn't followed by gates and batches
pub first-of : (bs : List (List (List ℕ))) (gate : ℕ) (rest : List ℕ) → (x : ℕ) × (more : List ℕ) × (open_gates bs ++ gate ∷ rest ≡ x ∷ more)
first-of [] gate rest = (gate, rest, refl)
first-of (b ∷ bs) gate rest = (1, batch_bytes b ++ (open_gates bs ++ gate ∷ rest), open-first b bs (gate ∷ rest))

torn-first : (bs : List (List (List ℕ))) (gate : ℕ) (behind rest : List ℕ) → All IsBatch bs → gate ≢ 1
    → ((batch : List (List ℕ)) (next : ℕ) (more : List ℕ) → IsBatch batch → behind ≡ batch_bytes batch ++ next ∷ more → ⊥) → 1 ∷ behind ≡ open_gates bs ++ gate ∷ rest → ⊥
torn-first [] gate behind rest formed closed torn same = closed (sym (first-byte 1 gate behind rest same))
torn-first (b ∷ bs) gate behind rest formed closed torn same =
    let next = first-of bs gate rest in
    torn b next.0 next.1 (All-head IsBatch b bs formed) (later-bytes 1 1 behind (batch_bytes b ++ (open_gates bs ++ gate ∷ rest)) (same ∙ open-first b bs (gate ∷ rest)) ∙ ap (λ (xs : List ℕ). batch_bytes b ++ xs) next.2)

gates-or-torn : (bs : List (List (List ℕ))) (gate : ℕ) (rest image : List ℕ) (list : List (List ℕ)) (place : ℕ) → HasGates bs gate rest image → Breaks list place image → ⊥
gates-or-torn bs gate rest image list place gates broken =
    let l = leads broken.batches bs gate (1 ∷ broken.rest) rest broken.formed gates.formed gates.closed (inner-bytes broken.batches bs (1 ∷ broken.rest) (gate ∷ rest) image broken.bytes gates.bytes) in
    torn-first l.later gate broken.rest rest l.formed gates.closed broken.torn l.behind_is

-- no empty journal has an open gate
pub none-open : (bs : List (List (List ℕ))) (rest image : List ℕ) → image ≡ header VERSION ++ open_gates bs ++ 1 ∷ rest → image ≡ empty_bytes → ⊥
none-open [] rest image are empty =
    let same : 1 ∷ rest ≡ 0 ∷ [] = inner-bytes [] [] (1 ∷ rest) (0 ∷ []) image are (empty ∙ ap (λ (xs : List ℕ). xs ++ 0 ∷ []) (sym (append-nil (header VERSION)))) in
    let first : 1 ≡ 0 = first-byte 1 0 rest [] same in omega (arith, first)
none-open (b ∷ bs) rest image are empty =
    let same : open_gates (b ∷ bs) ++ 1 ∷ rest ≡ 0 ∷ [] = inner-bytes (b ∷ bs) [] (1 ∷ rest) (0 ∷ []) image are (empty ∙ ap (λ (xs : List ℕ). xs ++ 0 ∷ []) (sym (append-nil (header VERSION)))) in
    let first : 1 ≡ 0 = first-byte 1 0 (batch_bytes b ++ (open_gates bs ++ 1 ∷ rest)) [] (sym (open-first b bs (1 ∷ rest)) ∙ same) in omega (arith, first)

pub whole-or-broken : (image : List ℕ) (whole list : List (List ℕ)) (place : ℕ) → Stands image whole → Breaks list place image → ⊥
whole-or-broken image whole list place (inr journal) broken = gates-or-torn journal.0 journal.1 journal.2 image list place journal.3 broken
whole-or-broken image whole list place (inl short) broken = omega (arith, broken.long, short.0)

-- bytes break off at one place
same-torn : (bs cs : List (List (List ℕ))) (us vs : List ℕ) → All IsBatch bs → All IsBatch cs
    → ((batch : List (List ℕ)) (next : ℕ) (more : List ℕ) → IsBatch batch → us ≡ batch_bytes batch ++ next ∷ more → ⊥)
    → ((batch : List (List ℕ)) (next : ℕ) (more : List ℕ) → IsBatch batch → vs ≡ batch_bytes batch ++ next ∷ more → ⊥)
    → open_gates bs ++ 1 ∷ us ≡ open_gates cs ++ 1 ∷ vs → bs ≡ cs
same-torn [] [] us vs fine good torn broken same = refl
same-torn [] (c ∷ cs) us vs fine good torn broken same =
    let next = first-of cs 1 vs in
    absurd (torn c next.0 next.1 (All-head IsBatch c cs good) (later-bytes 1 1 us (batch_bytes c ++ (open_gates cs ++ 1 ∷ vs)) (same ∙ open-first c cs (1 ∷ vs)) ∙ ap (λ (xs : List ℕ). batch_bytes c ++ xs) next.2))
same-torn (b ∷ bs) [] us vs fine good torn broken same =
    let next = first-of bs 1 us in
    absurd (broken b next.0 next.1 (All-head IsBatch b bs fine) (later-bytes 1 1 vs (batch_bytes b ++ (open_gates bs ++ 1 ∷ us)) (sym same ∙ open-first b bs (1 ∷ us)) ∙ ap (λ (xs : List ℕ). batch_bytes b ++ xs) next.2))
same-torn (b ∷ bs) (c ∷ cs) us vs fine good torn broken same =
    let inner = later-bytes 1 1 (batch_bytes b ++ (open_gates bs ++ 1 ∷ us)) (batch_bytes c ++ (open_gates cs ++ 1 ∷ vs)) (sym (open-first b bs (1 ∷ us)) ∙ (same ∙ open-first c cs (1 ∷ vs))) in
    let both = same-batch b c (open_gates bs ++ 1 ∷ us) (open_gates cs ++ 1 ∷ vs) (All-head IsBatch b bs fine) (All-head IsBatch c cs good) inner in
    let more = same-torn bs cs us vs (All-tail IsBatch b bs fine) (All-tail IsBatch c cs good) torn broken both.1 in
    λ i. both.0 i ∷ more i

pub one-break : (image : List ℕ) (list other : List (List ℕ)) (place elsewhere : ℕ) → Breaks list place image → Breaks other elsewhere image → (list ≡ other) × (place ≡ elsewhere)
one-break image list other place elsewhere one two =
    let same = same-torn one.batches two.batches one.rest two.rest one.formed two.formed one.torn two.torn (inner-bytes one.batches two.batches (1 ∷ one.rest) (1 ∷ two.rest) image one.bytes two.bytes) in (
      one.listed ∙ (ap payloads same ∙ sym two.listed),
      one.placed ∙ (ap (λ (bs : List (List (List ℕ))). length (header VERSION ++ open_gates bs)) same ∙ sym two.placed),
    )
