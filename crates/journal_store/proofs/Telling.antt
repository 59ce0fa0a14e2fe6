-- What a reader has told, after each step.
use Rattle.std.proofs.Common.{◌≡◌, ℕ, ◌+◌, ◌-◌, ◌≤◌, true, false, List, [], ◌∷◌, ◌++◌, sym, ◌∙◌, subst, arith, length, drop, length-append}
use Rattle.journal_disk.specs.Drive.{Drive}
use Rattle.journal_disk.specs.Steps.{GoesOn, Leaves}
use Rattle.journal_store.specs.Cut.{IsGate}
use Rattle.journal_store.specs.declared.gate.Gate.TheVariants.{Closed, Open, Torn}
use Rattle.journal_store.specs.Format.{IsPayload, payload_bytes}
use Rattle.journal_store.specs.Found.{Follows, Ends, Breaks}
use Rattle.journal_store.specs.Reader.{Unread, ReaderView, IsFrontOf, IsWhole, StandsIn, HasTold}
use Rattle.journal_store.proofs.Standing.{AtGate, at-gate, from-gate, refilled, gate-closed, gate-torn, gate-open, ends, payload-told, payload-there}

-- none waits and the end was not told
pub record IsAtGate {D : Type 0} (reader : ReaderView D) : Type 0 where
  pub none : reader.waiting ≡ 0
  pub goes : reader.is_ended ≡ false

stands-at : {D : Type 0} (drive : D → Drive) (list : List (List ℕ)) (r : ReaderView D) → HasTold drive list r → r.waiting ≡ 0 → StandsIn list (drive r.disk).bytes r.unread 0 r.place r.is_ended
stands-at drive list r told none = subst (λ (n : ℕ). StandsIn list (drive r.disk).bytes r.unread n r.place r.is_ended) none told.stands

gate-of : {D : Type 0} (drive : D → Drive) (list : List (List ℕ)) (r : ReaderView D) → HasTold drive list r → r.waiting ≡ 0 → AtGate list (drive r.disk).bytes r.unread
gate-of drive list r told none = at-gate list (drive r.disk).bytes r.unread r.place r.is_ended (stands-at drive list r told none)

-- at a gate the window was filled anew
pub told-again : {D : Type 0} (drive : D → Drive) (list : List (List ℕ)) (r : ReaderView D) (disk : D) (now : Unread) → HasTold drive list r → IsAtGate r → Leaves (drive r.disk) (drive disk) → GoesOn (drive r.disk) (drive disk)
    → now.place ≡ r.unread.place → IsFrontOf (drive r.disk).bytes now → HasTold drive list (record r { disk = disk; unread = now })
told-again drive list r disk now told at leaves goes same front =
    let s = subst (StandsIn list (drive r.disk).bytes r.unread 0 r.place) at.goes (stands-at drive list r told at.none) in
    let again = refilled list (drive r.disk).bytes r.unread now r.place s same front in
    let ended = subst (StandsIn list (drive r.disk).bytes now 0 r.place) (sym at.goes) again in
    let waits = subst (λ (n : ℕ). StandsIn list (drive r.disk).bytes now n r.place r.is_ended) (sym at.none) ended in
    record {
      honest = goes.honest ∙ told.honest;
      stored = λ image there. told.stored image (leaves.image image there) ∙ sym leaves.bytes;
      counted = told.counted;
      whole = subst IsWhole (sym leaves.bytes) told.whole;
      stands = subst (λ (xs : List ℕ). StandsIn list xs now r.waiting r.place r.is_ended) (sym leaves.bytes) waits;
    }

pub front-of : {D : Type 0} (drive : D → Drive) (list : List (List ℕ)) (r : ReaderView D) → HasTold drive list r → IsFrontOf (drive r.disk).bytes r.unread
front-of drive list r told = told.stands.window

pub enters-closed : {D : Type 0} (drive : D → Drive) (list : List (List ℕ)) (r : ReaderView D) → HasTold drive list r → IsAtGate r → (r.unread.is_last ≡ false → 1 ≤ length r.unread.bytes) → IsGate Closed r.unread.bytes
    → Ends list (drive r.disk).bytes × HasTold drive list (record r { is_ended = true })
enters-closed drive list r told at enough is =
    let g = gate-of drive list r told at.none in
    let closed = gate-closed list (drive r.disk).bytes r.unread g enough is in
    let s = from-gate list (drive r.disk).bytes r.unread r.place true g (λ (same : true ≡ true). closed) in (
      ends list (drive r.disk).bytes r.unread g closed,
      record {
        honest = told.honest;
        stored = told.stored;
        counted = told.counted;
        whole = told.whole;
        stands = subst (λ (n : ℕ). StandsIn list (drive r.disk).bytes r.unread n r.place true) (sym at.none) s;
      },
    )

pub enters-open : {D : Type 0} (drive : D → Drive) (list : List (List ℕ)) (r : ReaderView D) (count place : ℕ) (now : Unread) → HasTold drive list r → IsAtGate r → IsGate (Open count) r.unread.bytes → place ≡ r.unread.place
    → now ≡ record { place = r.unread.place + 5; bytes = drop 5 r.unread.bytes; is_last = r.unread.is_last }
    → HasTold drive list (record r { unread = now; waiting = count; place = place })
enters-open drive list r count place now told at is here same =
    let w : Unread = record { place = r.unread.place + 5; bytes = drop 5 r.unread.bytes; is_last = r.unread.is_last } in
    let s = gate-open list (drive r.disk).bytes r.unread count (gate-of drive list r told at.none) is in
    record {
      honest = told.honest;
      stored = told.stored;
      counted = told.counted;
      whole = told.whole;
      stands = subst (λ (u : Unread). StandsIn list (drive r.disk).bytes u count place r.is_ended) (sym same) (
          subst (StandsIn list (drive r.disk).bytes w count place) (sym at.goes) (subst (λ (n : ℕ). StandsIn list (drive r.disk).bytes w count n false) (sym here) s)
          );
    }

pub enters-torn : {D : Type 0} (drive : D → Drive) (list : List (List ℕ)) (r : ReaderView D) (place : ℕ) → HasTold drive list r → IsAtGate r → (r.unread.is_last ≡ false → 32902 ≤ length r.unread.bytes) → IsGate Torn r.unread.bytes → place ≡ r.unread.place
    → Breaks list place (drive r.disk).bytes
enters-torn drive list r place told at enough is here =
    subst (λ (n : ℕ). Breaks list n (drive r.disk).bytes) (sym here) (gate-torn list (drive r.disk).bytes r.unread (gate-of drive list r told at.none) told.whole enough is)

-- a payload was cut off
pub tells-payload : {D : Type 0} (drive : D → Drive) (list : List (List ℕ)) (r : ReaderView D) (now : Unread) (p behind told_last : List ℕ) → HasTold drive list r → 1 ≤ r.waiting → IsPayload p → r.unread.bytes ≡ payload_bytes p ++ behind
    → now ≡ record { place = r.unread.place + (2 + length p); bytes = drop (2 + length p) r.unread.bytes; is_last = r.unread.is_last } → told_last ≡ p
    → Follows list told_last r.place (drive r.disk).bytes × HasTold drive (list ++ told_last ∷ []) (record r { unread = now; waiting = r.waiting - 1; payload = told_last; count = r.count + 1 })
tells-payload drive list r now p behind told_last told some is are same last =
    let both = payload-told list (drive r.disk).bytes r.unread r.waiting r.place r.is_ended p behind some told.stands is are in
    subst (λ (q : List ℕ). Follows list q r.place (drive r.disk).bytes × HasTold drive (list ++ q ∷ []) (record r { unread = now; waiting = r.waiting - 1; payload = q; count = r.count + 1 })) (sym last) (
      both.0,
      record {
        honest = told.honest;
        stored = told.stored;
        counted = omega (arith, told.counted, length-append list (p ∷ []));
        whole = told.whole;
        stands = subst (λ (w : Unread). StandsIn (list ++ p ∷ []) (drive r.disk).bytes w (r.waiting - 1) r.place r.is_ended) (sym same) both.1;
      },
    )

pub tells-none : {D : Type 0} (drive : D → Drive) (list : List (List ℕ)) (r : ReaderView D) → HasTold drive list r → 1 ≤ r.waiting → ((p us : List ℕ) → IsPayload p → r.unread.bytes ≡ payload_bytes p ++ us → ⊥) → ⊥
tells-none drive list r told some none = payload-there list (drive r.disk).bytes r.unread r.waiting r.place r.is_ended some told.stands none
