-- Bytes put at a place of a piece, one behind the other.
use Rattle.std.proofs.Common.{◌≡◌, ℕ, ◌+◌, ◌*◌, ◌≤◌, ◌<◌, List, [], ◌∷◌, ◌++◌, length, take, refl, sym, ap, ◌∙◌, append_assoc, append-nil, add-one, get_or, arith}
use Rattle.std.specs.List.{flat_map}
use Rattle.std.proofs.lemmas.List.{take_at, take-take, length-append, length-take-le}
use Rattle.std.proofs.lemmas.List.Concat.{flat_map-cons}
use Rattle.std.proofs.lemmas.Grind.{flat_map-append}
use Rattle.std.proofs.Math.Seq.{take-suc}
use Rattle.std.proofs.lemmas.Slice.{take-put_mid}
use Rattle.std.proofs.Math.Nat.{mul-le-mul_left}
use borrow.Rule.Slice.PartMut.{put_mid}
use Rattle.byteorder.specs.Endian.{big_bytes}
use Rattle.command_words.specs.declared.act.Act.{Act}
use Rattle.act_bytes.specs.Spelling.{kind_of, body_bytes, spelling}
use Rattle.act_bytes.specs.Puts.{Puts}

-- a write to the part of the piece from a place on
pub puts : (at k : ℕ) (old bytes rest new : List ℕ) (end : ℕ) → at ≤ length old → new ≡ bytes ++ rest → end ≡ at + length bytes → Puts old at bytes (put_mid at k old new) end
puts at k old bytes rest new end fits is place =
    let long : at + length new ≡ end + length rest = omega (arith, ap length is, length-append bytes rest) in
    let less : end ≤ at + length new = omega (arith, long) in
    let front : length (take at old ++ bytes) ≡ end = omega (arith, length-append (take at old) bytes, length-take-le at old fits) in
    record {
      front =
          sym (take-take end (at + length new) (put_mid at k old new) less)
          ∙ (ap (take end) (take-put_mid at k old new (at + length new) refl fits ∙ (ap (λ (xs : List ℕ). take at old ++ xs) is ∙ sym (append_assoc (take at old) bytes rest)))
          ∙ take_at (take at old ++ bytes) rest end front);
      place = place;
    }

-- bytes behind others
pub puts-then : (old x now y new : List ℕ) (at end next : ℕ) → Puts old at x now end → Puts now end y new next → Puts old at (x ++ y) new next
puts-then old x now y new at end next one two = record {
  front = two.front ∙ (ap (λ (xs : List ℕ). xs ++ y) one.front ∙ append_assoc (take at old) x y);
  place = omega (arith, one.place, two.place, length-append x y);
}

-- the same, of what two calls wrote
pub then-puts : {old x now y new : List ℕ} {at end next : ℕ} → Puts old at x now end → Puts now end y new next → Puts old at (x ++ y) new next
then-puts {old = old} {x = x} {now = now} {y = y} {new = new} {at = at} {end = end} {next = next} one two = puts-then old x now y new at end next one two

-- items of a length
pub length-items : {A : Type 0} (f : A → List ℕ) (n : ℕ) → ((x : A) → length (f x) ≡ n) → (items : List A) → length (flat_map f items) ≡ n * length items
length-items f n each [] = omega arith
length-items f n each (x ∷ xs) = omega (arith, ap length (flat_map-cons f x xs), length-append (f x) (flat_map f xs), each x, length-items f n each xs)

-- one more item
pub one-more : {A : Type 0} (f : A → List ℕ) (items : List A) (i : ℕ) (x : A) → i < length items → x ≡ get_or items i x → flat_map f (take i items) ++ f x ≡ flat_map f (take (i + 1) items)
one-more f items i x less is =
    let last : flat_map f (get_or items i x ∷ []) ≡ f (get_or items i x) = flat_map-cons f (get_or items i x) [] ∙ append-nil (f (get_or items i x)) in
    let front = flat_map f (take i items) in
    let whole = ap (flat_map f) (take-suc items i x less) ∙ (flat_map-append f (take i items) (get_or items i x ∷ []) ∙ ap (λ (y : List ℕ). front ++ y) last) in
    ap (λ y. front ++ f y) is ∙ rw add-one (sym whole)

-- a loop that has put some of the items has room for one more
pub room-left : {A : Type 0} (f : A → List ℕ) (n most : ℕ) → ((x : A) → length (f x) ≡ n) → (items : List A) (i at end : ℕ) → i < length items
    → at + length (length items ∷ flat_map f items) ≤ most → end ≡ at + length (length items ∷ flat_map f (take i items)) → end + n ≤ most
room-left f n most each items i at end less room place =
    let more : n * (i + 1) ≤ n * length items = mul-le-mul_left n (omega arith) in
    let short : length (flat_map f (take i items)) ≡ n * i = length-items f n each (take i items) ∙ ap (λ (k : ℕ). n * k) (length-take-le i items (omega arith)) in
    omega (arith, room, place, more, short, length-items f n each items)

-- an act at the front of a piece
pub puts-act : (old first second third new : List ℕ) (i j k end : ℕ) (act : Act) (account kind : ℕ) → Puts old 0 (big_bytes 8 act.moment) first i → Puts first i (big_bytes 2 account) second j → Puts second j (kind ∷ []) third k → Puts third k (body_bytes act.command) new end
    → account ≡ act.account → kind ≡ kind_of act.command → take end new ≡ spelling act
unfolding spelling
puts-act old first second third new i j k end act account kind one two three four whose is =
    let front : List ℕ = big_bytes 8 act.moment ++ big_bytes 2 account in
    let head = puts-then old (big_bytes 8 act.moment) first (big_bytes 2 account) second 0 i j one two in
    let more = puts-then old front second (kind ∷ []) third 0 j k head three in
    let whole = puts-then old (front ++ kind ∷ []) third (body_bytes act.command) new 0 k end more four in
    whole.front ∙ (append_assoc front (kind ∷ []) (body_bytes act.command) ∙ (λ t. big_bytes 8 act.moment ++ big_bytes 2 (whose t) ++ is t ∷ body_bytes act.command))
