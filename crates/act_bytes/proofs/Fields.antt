-- A field that is read is the field that was written, and what was written is read again.
use Rattle.std.proofs.Common.{◌≡◌, ℕ, zero, suc, ◌+◌, ◌^◌, ◌<◌, ◌≤◌, Bool, true, false, cond, ltb, List, [], ◌∷◌, ◌++◌, length, get_or, take, drop, Option, Some, None, refl, sym, ap, subst, ◌∙◌, append_assoc, arith, inl, inr}
use Rattle.std.specs.Prelude.{⊤}
use Rattle.std.specs.Int.{Width, w16, w32, w64, byte_len, from_be_bytes, to_be_bytes}
use Rattle.std.specs.List.{flat_map, AllByRecursion}
use Rattle.std.proofs.lemmas.Bool.{cases_lt, ltb-false, le-ltb}
use Rattle.std.proofs.lemmas.Option.{cond_some}
use Rattle.std.proofs.lemmas.List.{take_at, drop_at, take-append-drop, length-append, length-take, get_or-drop, get_or-take, get_or_past}
use Rattle.std.proofs.lemmas.List.Concat.{flat_map-cons}
use Rattle.std.proofs.lemmas.Nat.{be_bytes_2, be_bytes_4, be_bytes_8, from_be_bytes-to_be_bytes_2, from_be_bytes-to_be_bytes_4, from_be_bytes-to_be_bytes_8}
use Rattle.act_bytes.specs.Reading.{◌>>=◌, Field, first_byte, next_number, ◌and◌, made, passed, checked, told, nothing, next_items, counted}

-- each is a byte
abbrev pub IsBytes : List ℕ → Type 0
IsBytes bytes = (i : ℕ) → get_or bytes i 0 < 256

IsBytes-drop : (n : ℕ) (bytes : List ℕ) → IsBytes bytes → IsBytes (drop n bytes)
IsBytes-drop n bytes fits i = rw get_or-drop (fits (n + i))

IsBytes-take : (n : ℕ) (bytes : List ℕ) → IsBytes bytes → IsBytes (take n bytes)
IsBytes-take n bytes fits i =
    elim (cases_lt i n) [
      | inl less ↦ rw (get_or-take n bytes i 0 less) (fits i)
      | inr most ↦ rw (get_or_past (take n bytes) i 0 (omega (arith, length-take n bytes))) (omega arith)
    ]

IsBytes-rest : (byte : ℕ) (bytes : List ℕ) → IsBytes (byte ∷ bytes) → IsBytes bytes
IsBytes-rest byte bytes fits i = fits (suc i)

-- the value of a step that gave one
pub bind_some : {A B : Type 0} (r : Option A) (f : A → Option B) (y : B) → (r >>= f) ≡ Some y → (x : A) × (r ≡ Some x) × (f x ≡ Some y)
bind_some (Some x) f y e = (x, refl, e)
bind_some None f y e = absurd cc

abbrev done : {A : Type 0} → A → Option A
done x = Some x

pub some_is : {A : Type 0} (x y : A) → done x ≡ done y → x ≡ y
some_is x y e = cc

-- what was read from the front, and what is left
pub record Takes (bytes front rest : List ℕ) : Type 0 where
  pub parts : bytes ≡ front ++ rest
  pub rest_fits : IsBytes rest

pub Takes-then : (a x b y c : List ℕ) → Takes a x b → Takes b y c → Takes a (x ++ y) c
Takes-then a x b y c p q = record { parts = p.parts ∙ ap (λ (t : List ℕ). x ++ t) q.parts ∙ sym (append_assoc x y c); rest_fits = q.rest_fits }

-- the laws of a field whose values have these bytes, where they fit
pub record IsField {A : Type 0} (field : Field A) (bytes_of : A → List ℕ) (Fits : A → Type 0) : Type 0 where
  pub takes : (bytes rest : List ℕ) (x : A) → IsBytes bytes → field bytes ≡ Some (x, rest) → Takes bytes (bytes_of x) rest × Fits x
  pub again : (x : A) (rest : List ℕ) → Fits x → field (bytes_of x ++ rest) ≡ Some (x, rest)

-- ---- numbers

first-byte-takes : (bytes rest : List ℕ) (n : ℕ) → IsBytes bytes → first_byte bytes ≡ Some (n, rest) → Takes bytes (n ∷ []) rest × (n < 256)
first-byte-takes [] rest n fits e = absurd cc
first-byte-takes (byte ∷ bytes) rest n fits e =
    subst (λ (x : ℕ × List ℕ). Takes (byte ∷ bytes) (x.0 ∷ []) x.1 × (x.0 < 256)) (some_is (byte, bytes) (n, rest) e) (record { parts = refl; rest_fits = IsBytes-rest byte bytes fits }, fits 0)

pub byte-field : IsField first_byte (λ n. n ∷ []) (λ n. n < 256)
byte-field = record { takes = first-byte-takes; again = λ n rest less. refl }

-- the numbers of a width are those below a limit
pub record IsWide (w : Width) (limit : ℕ) : Type 0 where
  pub len : (n : ℕ) → length (to_be_bytes w n) ≡ byte_len w
  pub back : (bytes : List ℕ) → length bytes ≡ byte_len w → IsBytes bytes → to_be_bytes w (from_be_bytes w bytes) ≡ bytes
  pub again : (n : ℕ) → n < limit → from_be_bytes w (to_be_bytes w n) ≡ n
  pub below : (bytes : List ℕ) → IsBytes bytes → from_be_bytes w bytes < limit

wide16 : IsWide w16 (2 ^ 16)
wide16 = record {
  len = λ n. refl;
  back = λ bytes len fits. be_bytes_2 bytes _ len fits refl;
  again = λ n less. from_be_bytes-to_be_bytes_2 n less;
  below = λ bytes fits. omega (arith, fits 0, fits 1);
}

wide32 : IsWide w32 (2 ^ 32)
wide32 = record {
  len = λ n. refl;
  back = λ bytes len fits. be_bytes_4 bytes _ len fits refl;
  again = λ n less. from_be_bytes-to_be_bytes_4 n less;
  below = λ bytes fits. omega (arith, fits 0, fits 1, fits 2, fits 3);
}

wide64 : IsWide w64 (2 ^ 64)
wide64 = record {
  len = λ n. refl;
  back = λ bytes len fits. be_bytes_8 bytes _ len fits refl;
  again = λ n less. from_be_bytes-to_be_bytes_8 n less;
  below = λ bytes fits. omega (arith, fits 0, fits 1, fits 2, fits 3, fits 4, fits 5, fits 6, fits 7);
}

-- a test that found enough bytes
enough : {A : Type 0} (b : Bool) (x y : A) → cond b None (Some x) ≡ Some y → (b ≡ false) × (x ≡ y)
enough true x y e = absurd cc
enough false x y e = (refl, cc)

number-takes : (w : Width) (limit : ℕ) (wide : IsWide w limit) (bytes rest : List ℕ) (n : ℕ) → IsBytes bytes → next_number w bytes ≡ Some (n, rest) → Takes bytes (to_be_bytes w n) rest × (n < limit)
number-takes w limit wide bytes rest n fits e =
    let g = enough (ltb (length bytes) (byte_len w)) (from_be_bytes w (take (byte_len w) bytes), drop (byte_len w) bytes) (n, rest) e in
    let long : byte_len w ≤ length bytes = ltb-false _ _ g.0 in
    let n-is : from_be_bytes w (take (byte_len w) bytes) ≡ n = ap (λ (p : ℕ × List ℕ). p.0) g.1 in
    let rest-is : drop (byte_len w) bytes ≡ rest = ap (λ (p : ℕ × List ℕ). p.1) g.1 in
    let front : to_be_bytes w n ≡ take (byte_len w) bytes = rw (← n-is) (wide.back (take (byte_len w) bytes) (omega (arith, length-take (byte_len w) bytes)) (IsBytes-take (byte_len w) bytes fits)) in
    (record { parts = rw (front, ← rest-is) (sym (take-append-drop (byte_len w) bytes)); rest_fits = rw (← rest-is) (IsBytes-drop (byte_len w) bytes fits) }, rw (← n-is) (wide.below (take (byte_len w) bytes) (IsBytes-take (byte_len w) bytes fits)))

number-again : (w : Width) (limit : ℕ) (wide : IsWide w limit) (n : ℕ) (rest : List ℕ) → n < limit → next_number w (to_be_bytes w n ++ rest) ≡ Some (n, rest)
number-again w limit wide n rest less =
    let len = wide.len n in
    let long : ltb (length (to_be_bytes w n ++ rest)) (byte_len w) ≡ false = le-ltb _ _ (omega (arith, length-append (to_be_bytes w n) rest)) in
    rw (long, take_at (to_be_bytes w n) rest (byte_len w) len, drop_at (to_be_bytes w n) rest (byte_len w) len, wide.again n less) refl

number-field : (w : Width) (limit : ℕ) → IsWide w limit → IsField (next_number w) (to_be_bytes w) (λ n. n < limit)
number-field w limit wide = record { takes = number-takes w limit wide; again = number-again w limit wide }

pub u16-field : IsField (next_number w16) (to_be_bytes w16) (λ n. n < 2 ^ 16)
u16-field = number-field w16 (2 ^ 16) wide16

pub u32-field : IsField (next_number w32) (to_be_bytes w32) (λ n. n < 2 ^ 32)
u32-field = number-field w32 (2 ^ 32) wide32

pub u64-field : IsField (next_number w64) (to_be_bytes w64) (λ n. n < 2 ^ 64)
u64-field = number-field w64 (2 ^ 64) wide64

-- ---- fields made of others

pub and-field : {A B : Type 0} {first : Field A} {second : Field B} {xs-of : A → List ℕ} {ys-of : B → List ℕ} {Fits : A → Type 0} {Suits : B → Type 0} → IsField first xs-of Fits → IsField second ys-of Suits
    → IsField (first and second) (λ x. xs-of x.0 ++ ys-of x.1) (λ x. Fits x.0 × Suits x.1)
and-field {A = A} {B = B} {first = first} {second = second} {xs-of = xs-of} {ys-of = ys-of} {Fits = Fits} {Suits = Suits} one other = record {
  takes = λ bytes rest x fits e.
      let a = bind_some (first bytes) (λ p. second p.1 >>= λ q. Some ((p.0, q.0), q.1)) (x, rest) e in
      let b = bind_some (second a.0.1) (λ q. Some ((a.0.0, q.0), q.1)) (x, rest) a.2 in
      let s = one.takes bytes a.0.1 a.0.0 fits a.1 in
      let t = other.takes a.0.1 b.0.1 b.0.0 s.0.rest_fits b.1 in
      subst (λ (y : (A × B) × List ℕ). Takes bytes (xs-of y.0.0 ++ ys-of y.0.1) y.1 × (Fits y.0.0 × Suits y.0.1)) (some_is ((a.0.0, b.0.0), b.0.1) (x, rest) b.2) (Takes-then bytes (xs-of a.0.0) a.0.1 (ys-of b.0.0) b.0.1 s.0 t.0, (s.1, t.1));
  again = λ x rest fits.
      ap (first and second) (append_assoc (xs-of x.0) (ys-of x.1) rest) ∙ rw (one.again x.0 (ys-of x.1 ++ rest) fits.0, other.again x.1 rest fits.1) refl;
}

-- a value that was read passed the test
passed-is : {A : Type 0} (test : A → Bool) (x y : A × List ℕ) → (passed test x.0 >>= λ z. Some (z, x.1)) ≡ Some y → (test x.0 ≡ true) × (x ≡ y)
passed-is {A = A} test x y e =
    let a = bind_some (passed test x.0) (λ z. Some (z, x.1)) y e in
    let is = cond_some (test x.0) x.0 a.0 a.1 in
    (is.0, ap (λ (z : A). (z, x.1)) is.1 ∙ some_is (a.0, x.1) y a.2)

pub checked-field : {A : Type 0} (test : A → Bool) {field : Field A} {bytes-of : A → List ℕ} {Fits : A → Type 0} → IsField field bytes-of Fits → IsField (checked test field) bytes-of (λ x. Fits x × (test x ≡ true))
checked-field {A = A} test {field = field} {bytes-of = bytes-of} {Fits = Fits} law = record {
  takes = λ bytes rest x fits e.
      let a = bind_some (field bytes) (λ p. passed test p.0 >>= λ y. Some (y, p.1)) (x, rest) e in
      let is = passed-is test a.0 (x, rest) a.2 in
      let t = law.takes bytes a.0.1 a.0.0 fits a.1 in
      subst (λ (y : A × List ℕ). Takes bytes (bytes-of y.0) y.1 × (Fits y.0 × (test y.0 ≡ true))) is.1 (t.0, (t.1, is.0));
  again = λ x rest fits. let is = fits.1 in rw (law.again x rest fits.0, is) refl;
}

-- words and the numbers that stand for them
pub record IsWord {A B : Type 0} (tell : A → Option B) (back : B → A) (Fits : A → Type 0) : Type 0 where
  pub right : (x : A) (y : B) → tell x ≡ Some y → back y ≡ x
  pub left : (y : B) → tell (back y) ≡ Some y
  pub room : (y : B) → Fits (back y)

pub told-field : {A B : Type 0} (tell : A → Option B) (back : B → A) {field : Field A} {bytes-of : A → List ℕ} {Fits : A → Type 0} → IsWord tell back Fits → IsField field bytes-of Fits → IsField (told tell field) (λ y. bytes-of (back y)) (λ y. ⊤)
told-field {B = B} tell back {field = field} {bytes-of = bytes-of} word law = record {
  takes = λ bytes rest y fits e.
      let a = bind_some (field bytes) (λ p. tell p.0 >>= λ z. Some (z, p.1)) (y, rest) e in
      let b = bind_some (tell a.0.0) (λ z. Some (z, a.0.1)) (y, rest) a.2 in
      let t = law.takes bytes a.0.1 a.0.0 fits a.1 in
      let text = ap bytes-of (sym (word.right a.0.0 b.0 b.1)) in
      subst (λ (z : B × List ℕ). Takes bytes (bytes-of (back z.0)) z.1 × ⊤) (some_is (b.0, a.0.1) (y, rest) b.2) (subst (λ (front : List ℕ). Takes bytes front a.0.1) text t.0, tt);
  again = λ y rest fits. let is = word.left y in rw (law.again (back y) rest (word.room y), is) refl;
}

nothing-takes : (bytes rest : List ℕ) (x : ⊤) → IsBytes bytes → nothing bytes ≡ Some (x, rest) → Takes bytes [] rest × ⊤
nothing-takes bytes rest x fits e = (subst (λ (y : ⊤ × List ℕ). Takes bytes [] y.1) (some_is (tt, bytes) (x, rest) e) (record { parts = refl; rest_fits = fits }), tt)

pub nothing-field : IsField nothing (λ x. []) (λ x. ⊤)
nothing-field = record { takes = nothing-takes; again = λ x rest fits. refl }

-- so many of a kind
items-take : {A : Type 0} {item : Field A} {bytes-of : A → List ℕ} {Fits : A → Type 0} → IsField item bytes-of Fits → (n : ℕ) (bytes rest : List ℕ) (xs : List A) → IsBytes bytes → next_items item n bytes ≡ Some (xs, rest)
    → Takes bytes (flat_map bytes-of xs) rest × (length xs ≡ n) × AllByRecursion Fits xs
unfolding next_items
items-take {A = A} {item = item} {bytes-of = bytes-of} {Fits = Fits} law zero bytes rest xs fits e =
    subst (λ (y : List A × List ℕ). Takes bytes (flat_map bytes-of y.0) y.1 × (length y.0 ≡ 0) × AllByRecursion Fits y.0) (some_is ([], bytes) (xs, rest) e) (record { parts = refl; rest_fits = fits }, refl, tt)
items-take {A = A} {item = item} {bytes-of = bytes-of} {Fits = Fits} law (suc n) bytes rest xs fits e =
    let a = bind_some (item bytes) (λ first. next_items item n first.1 >>= λ others. Some (first.0 ∷ others.0, others.1)) (xs, rest) e in
    let b = bind_some (next_items item n a.0.1) (λ others. Some (a.0.0 ∷ others.0, others.1)) (xs, rest) a.2 in
    let one = law.takes bytes a.0.1 a.0.0 fits a.1 in
    let more = items-take law n a.0.1 b.0.1 b.0.0 one.0.rest_fits b.1 in
    let whole = Takes-then bytes (bytes-of a.0.0) a.0.1 (flat_map bytes-of b.0.0) b.0.1 one.0 more.0 in
    subst (λ (y : List A × List ℕ). Takes bytes (flat_map bytes-of y.0) y.1 × (length y.0 ≡ suc n) × AllByRecursion Fits y.0) (some_is (a.0.0 ∷ b.0.0, b.0.1) (xs, rest) b.2) (rw flat_map-cons whole, ap suc more.1, (one.1, more.2))

items-again : {A : Type 0} {item : Field A} {bytes-of : A → List ℕ} {Fits : A → Type 0} → IsField item bytes-of Fits → (xs : List A) (rest : List ℕ) → AllByRecursion Fits xs → next_items item (length xs) (flat_map bytes-of xs ++ rest) ≡ Some (xs, rest)
unfolding next_items
items-again law [] rest fits = refl
items-again {item = item} {bytes-of = bytes-of} law (x ∷ xs) rest fits =
    let regrouped : flat_map bytes-of (x ∷ xs) ++ rest ≡ bytes-of x ++ (flat_map bytes-of xs ++ rest) = ap (λ (y : List ℕ). y ++ rest) (flat_map-cons bytes-of x xs) ∙ append_assoc (bytes-of x) (flat_map bytes-of xs) rest in
    ap (next_items item (suc (length xs))) regrouped ∙ rw (law.again x (flat_map bytes-of xs ++ rest) fits.0, items-again law xs rest fits.1) refl

pub counted-field : {A : Type 0} {item : Field A} {bytes-of : A → List ℕ} {Fits : A → Type 0} → IsField item bytes-of Fits
    → IsField (counted item) (λ xs. length xs ∷ flat_map bytes-of xs) (λ xs. (length xs < 256) × AllByRecursion Fits xs)
counted-field {A = A} {item = item} {bytes-of = bytes-of} {Fits = Fits} law = record {
  takes = λ bytes rest xs fits e.
      let a = bind_some (first_byte bytes) (λ count. next_items item count.0 count.1) (xs, rest) e in
      let s = byte-field.takes bytes a.0.1 a.0.0 fits a.1 in
      let t = items-take law a.0.0 a.0.1 rest xs s.0.rest_fits a.2 in
      let whole = Takes-then bytes (a.0.0 ∷ []) a.0.1 (flat_map bytes-of xs) rest s.0 t.0 in
      (subst (λ (n : ℕ). Takes bytes (n ∷ flat_map bytes-of xs) rest) (sym t.1) whole, (omega (arith, t.1, s.1), t.2));
  again = λ xs rest fits. items-again law xs rest fits.1;
}

-- what is made of the values of a field
pub made-takes : {A B : Type 0} {field : Field A} {bytes-of : A → List ℕ} {Fits : A → Type 0} (f : A → B) → IsField field bytes-of Fits → (bytes rest : List ℕ) (y : B) → IsBytes bytes → made f field bytes ≡ Some (y, rest)
    → (x : A) × (f x ≡ y) × Takes bytes (bytes-of x) rest
made-takes {B = B} {field = field} {bytes-of = bytes-of} f law bytes rest y fits e =
    let a = bind_some (field bytes) (λ x. Some (f x.0, x.1)) (y, rest) e in
    let t = law.takes bytes a.0.1 a.0.0 fits a.1 in
    let same = some_is (f a.0.0, a.0.1) (y, rest) a.2 in
    (a.0.0, ap (λ (z : B × List ℕ). z.0) same, subst (λ (r : List ℕ). Takes bytes (bytes-of a.0.0) r) (ap (λ (z : B × List ℕ). z.1) same) t.0)

pub made-again : {A B : Type 0} {field : Field A} {bytes-of : A → List ℕ} {Fits : A → Type 0} (f : A → B) → IsField field bytes-of Fits → (x : A) (rest : List ℕ) → Fits x → made f field (bytes-of x ++ rest) ≡ Some (f x, rest)
made-again f law x rest fits = rw (law.again x rest fits) refl
