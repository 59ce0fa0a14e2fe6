-- Where a reader stands in the bytes, and what each of its steps makes of that.
use Rattle.std.proofs.Common.{inl, inr, ◌≡◌, ℕ, ◌+◌, ◌-◌, ◌<◌, ◌≤◌, Bool, true, false, List, [], ◌∷◌, ◌++◌, refl, sym, ◌∙◌, ap, subst, arith, length, drop, length-append, append_assoc, append-nil}
use Rattle.std.specs.Prelude.{◌≢◌, All}
use Rattle.std.proofs.lemmas.List.{length-drop, drop-drop, drop-append-le, drop_at}
use Rattle.std.proofs.lemmas.List.Concat.{flat_map-cons}
use Rattle.std.proofs.lemmas.List.Elements.{All-head, All-tail, All-append, All-cons, All-nil, All-take, All-drop}
use Rattle.std.proofs.Math.Seq.{take-append_seam, drop-append_seam}
use Rattle.byteorder.specs.Endian.{big_bytes}
use Rattle.byteorder.specs.Numbers.{length-bytes_high_first}
use Rattle.journal_store.specs.Cut.{HasNoBatch, IsGate}
use Rattle.journal_store.specs.declared.gate.Gate.TheVariants.{Closed, Open, Torn}
use Rattle.journal_store.specs.Format.{header, IsPayload, IsBatch, payload_bytes, body, batch_bytes, open_gates, payloads}
use Rattle.journal_store.proofs.FormatLaws.{length-header, opened-more, payloads-more}
use Rattle.journal_store.specs.Found.{Follows, Ends, Breaks}
use Rattle.journal_store.specs.Reader.{Unread, IsFrontOf, IsWhole, IsUpTo, StandsIn}
use Rattle.journal_store.proofs.FoundLaws.{none-open}
use Rattle.journal_store.proofs.Sized.{length-payload, length-batch, body-within}
use Rattle.journal_store.proofs.Unique.{same-payload, first-byte, later-bytes}
use Rattle.journal_store.specs.declared.limits.TheConstants.{VERSION}
use Rattle.journal_store.proofs.Cutting.{longer-front}

-- all that stands before the gate
abbrev pub front : List (List (List ℕ)) → List ℕ
front batches = header VERSION ++ open_gates batches

front-more : (batches : List (List (List ℕ))) (batch : List (List ℕ)) → front (batches ++ batch ∷ []) ≡ front batches ++ (1 ∷ batch_bytes batch)
front-more batches batch = ap (λ (xs : List ℕ). header VERSION ++ xs) (opened-more batches batch) ∙ sym (append_assoc (header VERSION) (open_gates batches) (1 ∷ batch_bytes batch))

-- the unread bytes go on by some
pub moved : (image : List ℕ) (w : Unread) (count : ℕ) → count ≤ length w.bytes → IsFrontOf image w → IsFrontOf image (record { place = w.place + count; bytes = drop count w.bytes; is_last = w.is_last })
moved image w count room is = record {
  beyond = is.beyond;
  front = sym (drop-drop count w.place image) ∙ (ap (drop count) is.front ∙ drop-append-le count w.bytes is.beyond room);
  last = is.last;
}

-- a reader that nothing was told by
pub stands-first : (image rest : List ℕ) (gate place : ℕ) (w : Unread) → image ≡ header VERSION ++ gate ∷ rest → w.place ≡ 16 → IsFrontOf image w → StandsIn [] image w 0 place false
stands-first image rest gate place w bytes at window = record {
  batches = [];
  ahead = [];
  gate = gate;
  rest = rest;
  formed = All-nil IsBatch;
  bytes = bytes ∙ ap (λ (xs : List ℕ). xs ++ gate ∷ rest) (sym (append-nil (header VERSION)));
  listed = refl;
  fine = All-nil IsPayload;
  waits = refl;
  window = window;
  here = ap (λ (n : ℕ). drop n image) at ∙ (ap (drop 16) bytes ∙ drop_at (header VERSION) (gate ∷ rest) 16 (length-header VERSION));
  placed = omega (arith, at, length-append (header VERSION) [], length-header VERSION);
  held = omega arith;
  closed = λ (same : false ≡ true). cc;
}

-- a reader behind whole batches, of which none waits
pub record AtGate (list : List (List ℕ)) (image : List ℕ) (w : Unread) : Type 0 where
  pub batches : List (List (List ℕ))
  pub gate : ℕ
  pub rest : List ℕ
  pub formed : All IsBatch batches
  pub bytes : image ≡ front batches ++ gate ∷ rest
  pub listed : list ≡ payloads batches
  pub window : IsFrontOf image w
  pub here : w.bytes ++ window.beyond ≡ gate ∷ rest
  pub placed : w.place ≡ length (front batches)

at-gate-by : (list : List (List ℕ)) (image : List ℕ) (w : Unread) (place : ℕ) (batches : List (List (List ℕ))) (ahead : List (List ℕ)) (gate : ℕ) (rest : List ℕ)
    → 0 ≡ length ahead → All IsBatch batches → image ≡ front batches ++ gate ∷ rest → IsUpTo list place batches ahead → IsFrontOf image w → drop w.place image ≡ body ahead ++ gate ∷ rest
    → w.place + length (body ahead) ≡ length (front batches) → AtGate list image w
at-gate-by list image w place batches [] gate rest none formed bytes listed window here placed = record {
  batches = batches;
  gate = gate;
  rest = rest;
  formed = formed;
  bytes = bytes;
  listed = listed;
  window = window;
  here = sym window.front ∙ here;
  placed = omega (arith, placed);
}
at-gate-by list image w place batches (p ∷ ps) gate rest none formed bytes listed window here placed = absurd (omega (arith, none))

pub at-gate : (list : List (List ℕ)) (image : List ℕ) (w : Unread) (place : ℕ) (ended : Bool) → StandsIn list image w 0 place ended → AtGate list image w
at-gate list image w place ended s = at-gate-by list image w place s.batches s.ahead s.gate s.rest s.waits s.formed s.bytes s.listed s.window s.here s.placed

-- back to where a reader stands
pub from-gate : (list : List (List ℕ)) (image : List ℕ) (w : Unread) (place : ℕ) (ended : Bool) (g : AtGate list image w) → (ended ≡ true → g.gate ≢ 1) → StandsIn list image w 0 place ended
from-gate list image w place ended g closed = record {
  batches = g.batches;
  ahead = [];
  gate = g.gate;
  rest = g.rest;
  formed = g.formed;
  bytes = g.bytes;
  listed = g.listed;
  fine = All-nil IsPayload;
  waits = refl;
  window = g.window;
  here = g.window.front ∙ g.here;
  placed = omega (arith, g.placed);
  held = omega arith;
  closed = closed;
}

-- the window was filled anew
pub refilled : (list : List (List ℕ)) (image : List ℕ) (w now : Unread) (place : ℕ) → StandsIn list image w 0 place false → now.place ≡ w.place → IsFrontOf image now → StandsIn list image now 0 place false
refilled list image w now place s at window =
    let g = at-gate list image w place false s in
    from-gate list image now place false
    (record {
      batches = g.batches;
      gate = g.gate;
      rest = g.rest;
      formed = g.formed;
      bytes = g.bytes;
      listed = g.listed;
      window = window;
      here = sym window.front ∙ (ap (λ (n : ℕ). drop n image) at ∙ (g.window.front ∙ g.here));
      placed = at ∙ g.placed;
    })
    (λ (same : false ≡ true). cc)

gate-first-by : (bytes beyond rest : List ℕ) (gate : ℕ) (last : Bool) → (last ≡ true → beyond ≡ []) → (last ≡ false → 1 ≤ length bytes) → bytes ++ beyond ≡ gate ∷ rest → (behind : List ℕ) × (bytes ≡ gate ∷ behind)
gate-first-by [] beyond rest gate true none enough here = absurd (omega (arith, ap length (none refl), ap length here))
gate-first-by [] beyond rest gate false none enough here = absurd (omega (arith, enough refl))
gate-first-by (x ∷ xs) beyond rest gate last none enough here = (xs, ap (λ (y : ℕ). y ∷ xs) (first-byte x gate (xs ++ beyond) rest here))

-- there is a byte at the gate
gate-first : (list : List (List ℕ)) (image : List ℕ) (w : Unread) (g : AtGate list image w) → (w.is_last ≡ false → 1 ≤ length w.bytes) → (behind : List ℕ) × (w.bytes ≡ g.gate ∷ behind)
gate-first list image w g enough = gate-first-by w.bytes g.window.beyond g.rest g.gate w.is_last g.window.last enough g.here

-- the gate is closed
pub gate-closed : (list : List (List ℕ)) (image : List ℕ) (w : Unread) (g : AtGate list image w) → (w.is_last ≡ false → 1 ≤ length w.bytes) → IsGate Closed w.bytes → g.gate ≢ 1
gate-closed list image w g enough is =
    λ (one : g.gate ≡ 1).
    let first = gate-first list image w g enough in
    is first.0 (first.1 ∙ ap (λ (y : ℕ). y ∷ first.0) one)

pub ends : (list : List (List ℕ)) (image : List ℕ) (w : Unread) (g : AtGate list image w) → g.gate ≢ 1 → Ends list image
ends list image w g closed = record {
  batches = g.batches;
  gate = g.gate;
  rest = g.rest;
  gates = record { formed = g.formed; closed = closed; bytes = g.bytes };
  listed = g.listed;
}

-- the gate is open, and what is behind it
open-behind : (list : List (List ℕ)) (image : List ℕ) (w : Unread) (g : AtGate list image w) (behind : List ℕ) → w.bytes ≡ 1 ∷ behind → (g.gate ≡ 1) × (behind ++ g.window.beyond ≡ g.rest)
open-behind list image w g behind are =
    let whole : 1 ∷ (behind ++ g.window.beyond) ≡ g.gate ∷ g.rest = ap (λ (xs : List ℕ). xs ++ g.window.beyond) (sym are) ∙ g.here in
    (sym (first-byte 1 g.gate (behind ++ g.window.beyond) g.rest whole), later-bytes 1 g.gate (behind ++ g.window.beyond) g.rest whole)

-- no batch is in the window, so none is on the disk
torn-on-disk : (behind beyond rest : List ℕ) (last : Bool) → HasNoBatch behind → behind ++ beyond ≡ rest → (last ≡ true → beyond ≡ []) → (last ≡ false → 32901 ≤ length behind) → HasNoBatch rest
torn-on-disk behind beyond rest true none same ends enough = λ batch gate more is are.
    none batch gate more is (sym (append-nil behind) ∙ (ap (λ (xs : List ℕ). behind ++ xs) (sym (ends refl)) ∙ (same ∙ are)))
torn-on-disk behind beyond rest false none same ends enough = λ batch gate more is are.
    let piece : List ℕ = batch_bytes batch ++ gate ∷ [] in
    let long : length piece ≤ length behind = omega (arith, enough refl, length-append (batch_bytes batch) (gate ∷ []), length-batch batch, body-within batch is.payloads, is.at_most) in
    let whole : behind ++ beyond ≡ piece ++ more = same ∙ (are ∙ sym (append_assoc (batch_bytes batch) (gate ∷ []) more)) in
    none batch gate (drop (length piece) behind) is (longer-front behind piece beyond more whole long ∙ append_assoc (batch_bytes batch) (gate ∷ []) (drop (length piece) behind))

long-of : (batches : List (List (List ℕ))) (rest image : List ℕ) → IsWhole image → image ≡ header VERSION ++ open_gates batches ++ 1 ∷ rest → 17 < length image
long-of batches rest image (inl long) are = long
long-of batches rest image (inr empty) are = absurd (none-open batches rest image are empty)

pub gate-torn : (list : List (List ℕ)) (image : List ℕ) (w : Unread) (g : AtGate list image w) → IsWhole image → (w.is_last ≡ false → 32902 ≤ length w.bytes) → IsGate Torn w.bytes → Breaks list w.place image
gate-torn list image w g whole enough is =
    let behind = is.0 in
    let both = open-behind list image w g behind is.1 in
    let are = g.bytes ∙ ap (λ (x : ℕ). front g.batches ++ x ∷ g.rest) both.0 in
    record {
      batches = g.batches;
      rest = g.rest;
      formed = g.formed;
      bytes = are;
      long = long-of g.batches g.rest image whole are;
      torn = torn-on-disk behind g.window.beyond g.rest w.is_last is.2 both.1 g.window.last (λ more. omega (arith, enough more, ap length is.1));
      listed = g.listed;
      placed = g.placed;
    }

-- all payloads of a batch wait
up-to-first : (list : List (List ℕ)) (place : ℕ) (batches : List (List (List ℕ))) (batch : List (List ℕ)) → 1 ≤ length batch → list ≡ payloads batches → place ≡ length (front batches)
    → IsUpTo list place (batches ++ batch ∷ []) batch
up-to-first list place batches [] some listed placed = absurd (omega (arith, some))
up-to-first list place batches (p ∷ ps) some listed placed = (batches, [], refl, listed ∙ sym (append-nil (payloads batches)), placed)

-- what stands behind an open gate and the size of its batch
behind-size : (batch : List (List ℕ)) (xs : List ℕ) → drop 5 (1 ∷ (batch_bytes batch ++ xs)) ≡ body batch ++ xs
unfolding batch_bytes
behind-size batch xs =
    let size : List ℕ = big_bytes 4 (length (body batch)) in
    ap (drop 4) (append_assoc size (body batch) xs) ∙ drop_at size (body batch ++ xs) 4 (length-bytes_high_first 4 (length (body batch)))

pub gate-open : (list : List (List ℕ)) (image : List ℕ) (w : Unread) (count : ℕ) (g : AtGate list image w) → IsGate (Open count) w.bytes
    → StandsIn list image (record { place = w.place + 5; bytes = drop 5 w.bytes; is_last = w.is_last }) count w.place false
gate-open list image w count g is =
    let behind = is.0 in
    let has = is.2 in
    let both = open-behind list image w g behind is.1 in
    let rest : List ℕ = has.rest ++ g.window.beyond in
    let bytes : g.rest ≡ batch_bytes has.batch ++ has.gate ∷ rest =
    sym both.1 ∙ (ap (λ (xs : List ℕ). xs ++ g.window.beyond) has.are ∙ append_assoc (batch_bytes has.batch) (has.gate ∷ has.rest) g.window.beyond) in
    let long : length w.bytes ≡ 1 + (length (batch_bytes has.batch) + (1 + length has.rest)) = omega (arith, ap length is.1, ap length has.are, length-append (batch_bytes has.batch) (has.gate ∷ has.rest)) in
    let window = moved image w 5 (omega (arith, long, length-batch has.batch)) g.window in
    let here : drop w.place image ≡ 1 ∷ (batch_bytes has.batch ++ has.gate ∷ rest) = g.window.front ∙ (g.here ∙ (λ i. both.0 i ∷ bytes i)) in
    record {
      batches = g.batches ++ has.batch ∷ [];
      ahead = has.batch;
      gate = has.gate;
      rest = rest;
      formed = All-append IsBatch g.batches (has.batch ∷ []) g.formed (All-cons IsBatch has.batch [] has.is (All-nil IsBatch));
      bytes = g.bytes ∙ ((λ i. front g.batches ++ both.0 i ∷ bytes i)
          ∙ (sym (append_assoc (front g.batches) (1 ∷ batch_bytes has.batch) (has.gate ∷ rest)) ∙ ap (λ (xs : List ℕ). xs ++ has.gate ∷ rest) (sym (front-more g.batches has.batch))));
      listed = up-to-first list w.place g.batches has.batch has.is.at_least g.listed g.placed;
      fine = has.is.payloads;
      waits = sym has.long;
      window = window;
      here = sym (drop-drop 5 w.place image) ∙ (ap (drop 5) here ∙ behind-size has.batch (has.gate ∷ rest));
      placed = omega (arith, g.placed, ap length (front-more g.batches has.batch), length-append (front g.batches) (1 ∷ batch_bytes has.batch), length-batch has.batch);
      held = omega (arith, long, length-batch has.batch, length-drop 5 w.bytes);
      closed = λ (same : false ≡ true). cc;
    }

-- a list and its last item, of which all has a property
all-front : {X : Type 0} (P : X → Type 0) (xs ys : List X) → All P (xs ++ ys) → All P xs
all-front P xs ys all = subst (All P) (take-append_seam xs ys) (All-take P (length xs) (xs ++ ys) all)

all-last : {X : Type 0} (P : X → Type 0) (xs : List X) (y : X) → All P (xs ++ y ∷ []) → P y
all-last P xs y all = All-head P y [] (subst (All P) (drop-append_seam xs (y ∷ [])) (All-drop P (length xs) (xs ++ y ∷ []) all))

some-ahead : (ahead : List (List ℕ)) (count : ℕ) → 1 ≤ count → count ≡ length ahead → (p : List ℕ) × (ps : List (List ℕ)) × (ahead ≡ p ∷ ps)
some-ahead [] count some long = absurd (omega (arith, some, long))
some-ahead (p ∷ ps) count some long = (p, ps, refl)

-- one payload fewer waits
up-to-more : (list : List (List ℕ)) (place : ℕ) (batches : List (List (List ℕ))) (p : List ℕ) (ps : List (List ℕ)) → IsUpTo list place batches (p ∷ ps) → IsUpTo (list ++ p ∷ []) place batches ps
up-to-more list place batches p [] up =
    ap (λ (xs : List (List ℕ)). xs ++ p ∷ []) up.3 ∙ (append_assoc (payloads up.0) up.1 (p ∷ []) ∙ (sym (payloads-more up.0 (up.1 ++ p ∷ [])) ∙ ap payloads (sym up.2)))
up-to-more list place batches p (q ∷ qs) up = (
  up.0,
  up.1 ++ p ∷ [],
  up.2 ∙ ap (λ (xs : List (List ℕ)). up.0 ++ xs ∷ []) (sym (append_assoc up.1 (p ∷ []) (q ∷ qs))),
  ap (λ (xs : List (List ℕ)). xs ++ p ∷ []) up.3 ∙ append_assoc (payloads up.0) up.1 (p ∷ []),
  up.4,
)

-- a reader before the first of the payloads that wait
pub record AtPayload (list : List (List ℕ)) (image : List ℕ) (w : Unread) (count place : ℕ) (ended : Bool) (p : List ℕ) : Type 0 where
  pub stands : StandsIn list image w count place ended
  pub later : List (List ℕ)
  pub ahead : stands.ahead ≡ p ∷ later

at-payload : (list : List (List ℕ)) (image : List ℕ) (w : Unread) (count place : ℕ) (ended : Bool) → 1 ≤ count → StandsIn list image w count place ended → (p : List ℕ) × AtPayload list image w count place ended p
at-payload list image w count place ended some s =
    let first = some-ahead s.ahead count some s.waits in
    (first.0, record { stands = s; later = first.1; ahead = first.2 })

body-ahead : (list : List (List ℕ)) (image : List ℕ) (w : Unread) (count place : ℕ) (ended : Bool) (p : List ℕ) (a : AtPayload list image w count place ended p) → body a.stands.ahead ≡ payload_bytes p ++ body a.later
body-ahead list image w count place ended p a = ap body a.ahead ∙ flat_map-cons payload_bytes p a.later

fine-first : (list : List (List ℕ)) (image : List ℕ) (w : Unread) (count place : ℕ) (ended : Bool) (p : List ℕ) (a : AtPayload list image w count place ended p) → All IsPayload (p ∷ a.later)
fine-first list image w count place ended p a = subst (All IsPayload) a.ahead a.stands.fine

payload-here : (list : List (List ℕ)) (image : List ℕ) (w : Unread) (count place : ℕ) (ended : Bool) (p : List ℕ) (a : AtPayload list image w count place ended p)
    → w.bytes ++ a.stands.window.beyond ≡ payload_bytes p ++ (body a.later ++ a.stands.gate ∷ a.stands.rest)
payload-here list image w count place ended p a =
    let s = a.stands in
    sym s.window.front ∙ (s.here ∙ (ap (λ (xs : List ℕ). xs ++ s.gate ∷ s.rest) (body-ahead list image w count place ended p a) ∙ append_assoc (payload_bytes p) (body a.later) (s.gate ∷ s.rest)))

follows : (list : List (List ℕ)) (image : List ℕ) (w : Unread) (count place : ℕ) (ended : Bool) (p : List ℕ) → AtPayload list image w count place ended p → Follows list p place image
follows list image w count place ended p a =
    let s = a.stands in
    let up = subst (IsUpTo list place s.batches) a.ahead s.listed in
    let formed = subst (All IsBatch) up.2 s.formed in
    record {
      before = up.0;
      told = up.1;
      waiting = a.later;
      gate = s.gate;
      rest = s.rest;
      formed = all-front IsBatch up.0 ((up.1 ++ p ∷ a.later) ∷ []) formed;
      batch = all-last IsBatch up.0 (up.1 ++ p ∷ a.later) formed;
      bytes = s.bytes ∙ ap (λ (bs : List (List (List ℕ))). front bs ++ s.gate ∷ s.rest) up.2;
      listed = up.3;
      placed = up.4;
    }

goes-on : (list : List (List ℕ)) (image : List ℕ) (w : Unread) (count place : ℕ) (ended : Bool) (p : List ℕ) → AtPayload list image w count place ended p
    → StandsIn (list ++ p ∷ []) image (record { place = w.place + (2 + length p); bytes = drop (2 + length p) w.bytes; is_last = w.is_last }) (count - 1) place ended
goes-on list image w count place ended p a =
    let s = a.stands in
    let size : ℕ = 2 + length p in
    let long : length (body s.ahead) ≡ size + length (body a.later) =
    omega (arith, ap length (body-ahead list image w count place ended p a), length-append (payload_bytes p) (body a.later), length-payload p) in
    record {
      batches = s.batches;
      ahead = a.later;
      gate = s.gate;
      rest = s.rest;
      formed = s.formed;
      bytes = s.bytes;
      listed = up-to-more list place s.batches p a.later (subst (IsUpTo list place s.batches) a.ahead s.listed);
      fine = All-tail IsPayload p a.later (fine-first list image w count place ended p a);
      waits = omega (arith, s.waits, ap length a.ahead);
      window = moved image w size (omega (arith, s.held, long)) s.window;
      here =
          sym (drop-drop size w.place image)
          ∙ (ap (drop size) (s.window.front ∙ payload-here list image w count place ended p a) ∙ drop_at (payload_bytes p) (body a.later ++ s.gate ∷ s.rest) size (length-payload p));
      placed = omega (arith, s.placed, long);
      held = omega (arith, s.held, long, length-drop size w.bytes);
      closed = s.closed;
    }

-- a payload was cut off the window
pub payload-told : (list : List (List ℕ)) (image : List ℕ) (w : Unread) (count place : ℕ) (ended : Bool) (p behind : List ℕ) → 1 ≤ count → StandsIn list image w count place ended
    → IsPayload p → w.bytes ≡ payload_bytes p ++ behind
    → Follows list p place image × StandsIn (list ++ p ∷ []) image (record { place = w.place + (2 + length p); bytes = drop (2 + length p) w.bytes; is_last = w.is_last }) (count - 1) place ended
payload-told list image w count place ended p behind some s is are =
    let found = at-payload list image w count place ended some s in
    let q = found.0 in
    let a = found.1 in
    let good = All-head IsPayload q a.later (fine-first list image w count place ended q a) in
    let whole : payload_bytes q ++ (body a.later ++ a.stands.gate ∷ a.stands.rest) ≡ payload_bytes p ++ (behind ++ a.stands.window.beyond) =
    sym (payload-here list image w count place ended q a) ∙ (ap (λ (xs : List ℕ). xs ++ a.stands.window.beyond) are ∙ append_assoc (payload_bytes p) behind a.stands.window.beyond) in
    let same = (same-payload q p (body a.later ++ a.stands.gate ∷ a.stands.rest) (behind ++ a.stands.window.beyond) good is whole).0 in
    let at = subst (AtPayload list image w count place ended) same a in
    (follows list image w count place ended p at, goes-on list image w count place ended p at)

-- the payloads that wait are in the window
pub payload-there : (list : List (List ℕ)) (image : List ℕ) (w : Unread) (count place : ℕ) (ended : Bool) → 1 ≤ count → StandsIn list image w count place ended
    → ((p us : List ℕ) → IsPayload p → w.bytes ≡ payload_bytes p ++ us → ⊥) → ⊥
payload-there list image w count place ended some s none =
    let found = at-payload list image w count place ended some s in
    let q = found.0 in
    let a = found.1 in
    let good = All-head IsPayload q a.later (fine-first list image w count place ended q a) in
    let long : length (payload_bytes q) ≤ length w.bytes =
    omega (arith, a.stands.held, ap length (body-ahead list image w count place ended q a), length-append (payload_bytes q) (body a.later)) in
    none q (drop (length (payload_bytes q)) w.bytes) good
    (longer-front w.bytes (payload_bytes q) a.stands.window.beyond (body a.later ++ a.stands.gate ∷ a.stands.rest) (payload-here list image w count place ended q a) long)
