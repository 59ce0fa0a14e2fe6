-- What appending a batch leaves at each moment.
use Rattle.std.proofs.Common.{◌≡◌, ◌⊎◌, ℕ, ◌+◌, ◌-◌, ◌≤◌, List, [], ◌∷◌, ◌++◌, true, Ok, Err, sym, ◌∙◌, ap, subst, arith, inl, inr, length, take, drop, get_or, length-append, length-take, append_assoc, add-one}
use Rattle.std.specs.Prelude.{◌==◌, All, Result, replicate}
use Rattle.std.proofs.lemmas.Bool.{cases_Bool}
use Rattle.std.proofs.lemmas.Bool.Decides.{nat_tests}
use Rattle.std.proofs.lemmas.List.{take-append-drop}
use Rattle.std.proofs.lemmas.List.Elements.{All-append, All-cons, All-nil}
use Rattle.std.proofs.Math.Seq.{drop-cons, drop-append_seam, take-append_seam, get_or-append_seam}
use Rattle.journal_disk.specs.Drive.{Drive, IsStored}
use Rattle.journal_disk.specs.Images.{IsTorn, grown, overlaid}
use Rattle.journal_disk.specs.Laws.{overlaid-torn}
use Rattle.journal_disk.specs.Steps.{GoesOn, Keeps}
use Rattle.journal_store.specs.Format.{header, IsBatch, batch_bytes, open_gates, payloads}
use Rattle.journal_store.proofs.FormatLaws.{opened-more, payloads-more}
use Rattle.journal_store.specs.Stands.{HasGates, Stands, StandsForEither, StoresAt, Appends}
use Rattle.journal_store.proofs.TornLaws.{torn-front, torn-behind}
use Rattle.journal_store.specs.declared.limits.TheConstants.{VERSION}

-- all that stands before the closed gate
abbrev pub front : List (List (List ℕ)) → List ℕ
front batches = header VERSION ++ open_gates batches

-- the same with the gate
cut-gate : (xs : List ℕ) (gate : ℕ) (rest : List ℕ) → xs ++ gate ∷ rest ≡ (xs ++ gate ∷ []) ++ rest
cut-gate xs gate rest = sym (append_assoc xs (gate ∷ []) rest)

length-gate : (xs : List ℕ) (gate : ℕ) → length (xs ++ gate ∷ []) ≡ length xs + 1
length-gate xs gate = length-append xs (gate ∷ [])

-- a write behind the gate leaves all before it, and the gate
pub behind-gate : (batches : List (List (List ℕ))) (gate : ℕ) (rest before image : List ℕ) (count : ℕ) → before ≡ front batches ++ gate ∷ rest
    → IsTorn (length (front batches) + 1) count before image
    → image ≡ front batches ++ gate ∷ drop (length (front batches) + 1) image
behind-gate batches gate rest before image count is torn =
    let xs : List ℕ = front batches ++ gate ∷ [] in
    let long : length xs ≡ length (front batches) + 1 = length-gate (front batches) gate in
    let whole : before ≡ xs ++ rest = is ∙ cut-gate (front batches) gate rest in
    let inside : length (front batches) + 1 ≤ length before = omega (arith, ap length whole, length-append xs rest, long) in
    let same : take (length (front batches) + 1) before ≡ xs = ap (λ (n : ℕ). take n before) (sym long) ∙ (ap (take (length xs)) whole ∙ take-append_seam xs rest) in
    sym (take-append-drop (length (front batches) + 1) image)
    ∙ (ap (λ (ys : List ℕ). ys ++ drop (length (front batches) + 1) image) (torn-front (length (front batches) + 1) count before image inside torn ∙ same)
    ∙ sym (cut-gate (front batches) gate (drop (length (front batches) + 1) image)))

-- the whole of such a write
pub written-behind : (batches : List (List (List ℕ))) (gate : ℕ) (rest before written : List ℕ) → before ≡ front batches ++ gate ∷ rest
    → (tail : List ℕ) × overlaid (length (front batches) + 1) written before ≡ front batches ++ gate ∷ (written ++ tail)
written-behind batches gate rest before written is =
    let xs : List ℕ = front batches ++ gate ∷ [] in
    let place : ℕ = length (front batches) + 1 in
    let long : length xs ≡ place = length-gate (front batches) gate in
    let end : ℕ = place + length written in
    let g : List ℕ = grown end before in
    let pad : List ℕ = replicate (end - length before) 0 in
    let whole : g ≡ xs ++ (rest ++ pad) = ap (λ (ys : List ℕ). ys ++ pad) (is ∙ cut-gate (front batches) gate rest) ∙ append_assoc xs rest pad in
    let first : take place g ≡ xs = ap (λ (n : ℕ). take n g) (sym long) ∙ (ap (take (length xs)) whole ∙ take-append_seam xs (rest ++ pad)) in (
      drop end g,
      append_assoc (take place g) written (drop end g) ∙ (ap (λ (ys : List ℕ). ys ++ (written ++ drop end g)) first ∙ sym (cut-gate (front batches) gate (written ++ drop end g))),
    )

-- a write of the gate alone leaves all before it and behind it
pub at-gate : (batches : List (List (List ℕ))) (gate : ℕ) (rest before image : List ℕ) → before ≡ front batches ++ gate ∷ rest
    → IsTorn (length (front batches)) 1 before image
    → image ≡ front batches ++ get_or image (length (front batches)) 0 ∷ rest
at-gate batches gate rest before image is torn =
    let place : ℕ = length (front batches) in
    let xs : List ℕ = front batches ++ gate ∷ [] in
    let whole : before ≡ xs ++ rest = is ∙ cut-gate (front batches) gate rest in
    let long : length before ≡ place + 1 + length rest = omega (arith, ap length whole, length-append xs rest, length-gate (front batches) gate) in
    let first : take place image ≡ front batches = torn-front place 1 before image (omega (arith, long)) torn ∙ (ap (take place) is ∙ take-append_seam (front batches) (gate ∷ rest)) in
    let last : drop (place + 1) image ≡ rest = torn-behind place 1 before image (omega (arith, long)) torn ∙ (ap (λ (n : ℕ). drop n before) (sym (length-gate (front batches) gate)) ∙ (ap (drop (length xs)) whole ∙ drop-append_seam xs rest)) in
    sym (take-append-drop place image)
    ∙ (ap (λ (ys : List ℕ). ys ++ drop place image) first
    ∙ ap (λ (ys : List ℕ). front batches ++ ys) (drop-cons image place 0 (omega (arith, torn.at_least, long)) ∙ ap (λ (ys : List ℕ). get_or image place 0 ∷ ys) (ap (λ (n : ℕ). drop n image) (sym (add-one place)) ∙ last)))

-- the whole of such a write
pub gate-written : (batches : List (List (List ℕ))) (gate : ℕ) (rest before : List ℕ) → before ≡ front batches ++ gate ∷ rest
    → overlaid (length (front batches)) (1 ∷ []) before ≡ front batches ++ 1 ∷ rest
gate-written batches gate rest before is =
    let place : ℕ = length (front batches) in
    let after : List ℕ = overlaid place (1 ∷ []) before in
    let g : List ℕ = grown (place + 1) before in
    let behind : List ℕ = drop (place + 1) g in
    let long : length (take place g) ≡ place = omega (arith, length-take place g, length-append before (replicate (place + 1 - length before) 0), ap length is, length-append (front batches) (gate ∷ rest)) in
    let there : get_or after place 0 ≡ 1 =
    ap (λ (ys : List ℕ). get_or ys place 0) (append_assoc (take place g) (1 ∷ []) behind)
    ∙ (ap (λ (n : ℕ). get_or (take place g ++ 1 ∷ behind) n 0) (sym long) ∙ get_or-append_seam (take place g) 1 behind 0) in
    at-gate batches gate rest before after is (overlaid-torn place (1 ∷ []) before) ∙ ap (λ (x : ℕ). front batches ++ x ∷ rest) there

-- with a gate that isn't 1 the batch behind it doesn't count, and with one that is 1 it does, whole
more-batches : (batches : List (List (List ℕ))) (batch : List (List ℕ)) → All IsBatch batches → IsBatch batch → All IsBatch (batches ++ batch ∷ [])
more-batches batches batch formed is = All-append IsBatch batches (batch ∷ []) formed (All-cons IsBatch batch [] is (All-nil IsBatch))

pub with-batch : (batches : List (List (List ℕ))) (batch : List (List ℕ)) (tail image : List ℕ) → All IsBatch batches → IsBatch batch → image ≡ front batches ++ 1 ∷ (batch_bytes batch ++ 0 ∷ tail)
    → HasGates (batches ++ batch ∷ []) 0 tail image
with-batch batches batch tail image formed is bytes = record {
  formed = more-batches batches batch formed is;
  closed = λ (same : 0 ≡ 1). omega (arith, same);
  bytes =
      bytes
      ∙ (sym (append_assoc (front batches) (1 ∷ batch_bytes batch) (0 ∷ tail))
      ∙ ap (λ (xs : List ℕ). xs ++ 0 ∷ tail) (append_assoc (header VERSION) (open_gates batches) (1 ∷ batch_bytes batch) ∙ ap (λ (xs : List ℕ). header VERSION ++ xs) (sym (opened-more batches batch))));
}

pub either : (batches : List (List (List ℕ))) (list batch : List (List ℕ)) (x : ℕ) (tail image : List ℕ) → All IsBatch batches → IsBatch batch → list ≡ payloads batches
    → image ≡ front batches ++ x ∷ (batch_bytes batch ++ 0 ∷ tail) → StandsForEither list batch image
either batches list batch x tail image formed is listed bytes =
    elim (cases_Bool (x == 1)) [
      | inl open_gate ↦
          let one : x ≡ 1 = grind (arith, nat_tests, open_gate) in
          let now = bytes ∙ ap (λ (n : ℕ). front batches ++ n ∷ (batch_bytes batch ++ 0 ∷ tail)) one in
          inr (inr (batches ++ batch ∷ [], 0, tail, with-batch batches batch tail image formed is now, ap (λ (ps : List (List ℕ)). ps ++ batch) listed ∙ sym (payloads-more batches batch)))
      | inr closed_gate ↦
          inl (inr (batches, x, batch_bytes batch ++ 0 ∷ tail, record { formed = formed; closed = λ (one : x ≡ 1). grind (arith, nat_tests, closed_gate, one); bytes = bytes }, listed))
    ]

-- at each moment of the first write the disk stands for the list
first-image : (place count : ℕ) (list : List (List ℕ)) (d : Drive) (image : List ℕ) → StoresAt place list d → IsTorn (place + 1) count d.bytes image → Stands image list
first-image place count list d image stores torn =
    let moved = subst (λ (p : ℕ). IsTorn (p + 1) count d.bytes image) stores.placed torn in
    inr (
      stores.batches,
      stores.gate,
      drop (length (front stores.batches) + 1) image,
      record { formed = stores.gates.formed; closed = stores.gates.closed; bytes = behind-gate stores.batches stores.gate stores.rest d.bytes image count stores.gates.bytes moved },
      stores.listed,
    )

early_or : {A B C : Type 0} → A ⊎ B → (B → C) → A ⊎ C
early_or (inl early) onward = inl early
early_or (inr torn) onward = inr (onward torn)

-- the first write failed
pub appends-first : {T E : Type 0} (place count : ℕ) (list batch : List (List ℕ)) (whole : List ℕ) (e : E) (old new : Drive) → StoresAt place list old → Keeps {T = T} (IsTorn (place + 1) count) whole (Err e) old new
    → Appends {T = T} place list batch (Err e) old new
appends-first place count list batch whole e old new stores keeps = record {
  image = λ image now. inl (first-image place count list old image stores (keeps.image image now));
  since = λ moment image early since. early_or (keeps.since moment image early since) (λ torn. inl (first-image place count list old image stores torn));
  stored = tt;
}

-- what the first write leaves where it succeeded
first-bytes : (place : ℕ) (list batch : List (List ℕ)) (old middle : Drive) (stores : StoresAt place list old) → middle.bytes ≡ overlaid (place + 1) (batch_bytes batch ++ 0 ∷ []) old.bytes
    → (tail : List ℕ) × middle.bytes ≡ front stores.batches ++ stores.gate ∷ (batch_bytes batch ++ 0 ∷ tail)
first-bytes place list batch old middle stores bytes =
    let made = written-behind stores.batches stores.gate stores.rest old.bytes (batch_bytes batch ++ 0 ∷ []) stores.gates.bytes in (
      made.0,
      bytes
          ∙ (ap (λ (p : ℕ). overlaid (p + 1) (batch_bytes batch ++ 0 ∷ []) old.bytes) stores.placed
          ∙ (made.1 ∙ ap (λ (xs : List ℕ). front stores.batches ++ stores.gate ∷ xs) (append_assoc (batch_bytes batch) (0 ∷ []) made.0))),
    )

-- at each moment of the second write the disk stands for the list, or for the longer one
second-image : (place : ℕ) (list batch : List (List ℕ)) (old : Drive) (stores : StoresAt place list old) (tail bytes image : List ℕ) → IsBatch batch
    → bytes ≡ front stores.batches ++ stores.gate ∷ (batch_bytes batch ++ 0 ∷ tail) → IsTorn place 1 bytes image → StandsForEither list batch image
second-image place list batch old stores tail bytes image is made torn =
    let moved = subst (λ (p : ℕ). IsTorn p 1 bytes image) stores.placed torn in
    either stores.batches list batch (get_or image (length (front stores.batches)) 0) tail image stores.gates.formed is stores.listed (at-gate stores.batches stores.gate (batch_bytes batch ++ 0 ∷ tail) bytes image made moved)

-- a disk with the batch behind its open gate has the longer list stored
stores-more : (place : ℕ) (list batch : List (List ℕ)) (old middle new : Drive) (stores : StoresAt place list old) (tail : List ℕ) → IsBatch batch
    → middle.bytes ≡ front stores.batches ++ stores.gate ∷ (batch_bytes batch ++ 0 ∷ tail) → new.bytes ≡ overlaid place (1 ∷ []) middle.bytes → new.honest ≡ true → IsStored new
    → StoresAt (place + 1 + length (batch_bytes batch)) (list ++ batch) new
stores-more place list batch old middle new stores tail is made bytes honest stored =
    let now = bytes ∙ (ap (λ (p : ℕ). overlaid p (1 ∷ []) middle.bytes) stores.placed ∙ gate-written stores.batches stores.gate (batch_bytes batch ++ 0 ∷ tail) middle.bytes made) in
    let longer : front (stores.batches ++ batch ∷ []) ≡ front stores.batches ++ (1 ∷ batch_bytes batch) =
    ap (λ (xs : List ℕ). header VERSION ++ xs) (opened-more stores.batches batch) ∙ sym (append_assoc (header VERSION) (open_gates stores.batches) (1 ∷ batch_bytes batch)) in
    record {
      batches = stores.batches ++ batch ∷ [];
      gate = 0;
      rest = tail;
      honest = honest;
      stored = stored;
      gates = with-batch stores.batches batch tail new.bytes stores.gates.formed is now;
      listed = ap (λ (ps : List (List ℕ)). ps ++ batch) stores.listed ∙ sym (payloads-more stores.batches batch);
      placed = omega (arith, stores.placed, ap length longer, length-append (front stores.batches) (1 ∷ batch_bytes batch));
    }

-- an image since a moment before both writes
first-or-second : (place : ℕ) (list batch : List (List ℕ)) (count : ℕ) (old middle new : Drive) → StoresAt place list old → (moment : ℕ) (image : List ℕ) → moment ≤ old.moment → GoesOn old middle
    → (middle.image_since moment image → old.image_since moment image ⊎ IsTorn (place + 1) count old.bytes image)
    → middle.image_since moment image ⊎ IsTorn place 1 middle.bytes image
    → (IsTorn place 1 middle.bytes image → StandsForEither list batch image)
    → old.image_since moment image ⊎ StandsForEither list batch image
first-or-second place list batch count old middle new stores moment image early goes first (inl since) second = early_or (first since) (λ torn. inl (first-image place count list old image stores torn))
first-or-second place list batch count old middle new stores moment image early goes first (inr torn) second = inr (second torn)

-- the first write succeeded, and the second came to an end
pub appends-second : {T E U F : Type 0} (place : ℕ) (list batch : List (List ℕ)) (x : T) (result : Result U F) (old middle new : Drive) → StoresAt place list old → IsBatch batch
    → GoesOn old middle → Keeps {E = E} (IsTorn (place + 1) (length (batch_bytes batch ++ 0 ∷ []))) (overlaid (place + 1) (batch_bytes batch ++ 0 ∷ []) old.bytes) (Ok x) old middle
    → GoesOn middle new → Keeps (IsTorn place 1) (overlaid place (1 ∷ []) middle.bytes) result middle new
    → Appends place list batch result old new
appends-second place list batch x (Ok y) old middle new stores is goes first goes_on second =
    let made = first-bytes place list batch old middle stores first.bytes in
    record {
      image = λ image now. second-image place list batch old stores made.0 middle.bytes image is made.1 (second.image image now);
      since = λ moment image early since. first-or-second place list batch (length (batch_bytes batch ++ 0 ∷ [])) old middle new stores moment image early goes
          (λ since'. first.since moment image early since') (second.since moment image (omega (arith, early, goes.moment)) since)
          (λ torn. second-image place list batch old stores made.0 middle.bytes image is made.1 torn);
      stored = stores-more place list batch old middle new stores made.0 is made.1 second.bytes (goes_on.honest ∙ (goes.honest ∙ stores.honest)) second.stored;
    }
appends-second place list batch x (Err y) old middle new stores is goes first goes_on second =
    let made = first-bytes place list batch old middle stores first.bytes in
    record {
      image = λ image now. second-image place list batch old stores made.0 middle.bytes image is made.1 (second.image image now);
      since = λ moment image early since. first-or-second place list batch (length (batch_bytes batch ++ 0 ∷ [])) old middle new stores moment image early goes
          (λ since'. first.since moment image early since') (second.since moment image (omega (arith, early, goes.moment)) since)
          (λ torn. second-image place list batch old stores made.0 middle.bytes image is made.1 torn);
      stored = tt;
    }
