-- What is held is worth what was paid less what was taken, position by position.
use Rattle.std.proofs.Common.{◌≡◌, ℕ, zero, suc, ◌+◌, ◌-◌, ◌*◌, ◌<◌, ◌≤◌, Bool, true, false, cond, not, List, [], ◌∷◌, length, refl, ap, sym, ◌∙◌, arith, inl, inr, mul-le-mul_right}
use Rattle.std.specs.Prelude.{◌==◌, ◌&&◌, ◌||◌, filter, nat_lt, sum_by}
use Rattle.std.proofs.lemmas.Bool.{and_from, and_parts, cases_Bool, cond-false, cond-true, eq-eqb, eqb-true, not_from_false, not_from_true, ltb-false, ltb-true, or_from, or_right}
use Rattle.std.proofs.lemmas.List.Filters.{sum_by-filter_both}
use Rattle.std.proofs.lemmas.List.Sums.{count_by-le-length, length-filter, sum_by-cons}
use Rattle.collection_keys.proofs.Sameness.{same_collection_Decides}
use Rattle.collection_keys.specs.Collections.{Pairs}
use Rattle.collection_keys.specs.Comparing.{same_collection}
use Rattle.ledger_book.specs.Entries.{AreEntries, PositionsApart, has_position}
use Rattle.ledger_book.specs.Postings.{IsFunded, credits, debits}
use Rattle.ledger_book.specs.declared.posting.Posting.{Posting}
use Rattle.coverage_law.specs.Need.{paid_worth, taken_worth, need, held_worth}

-- what a posting moves, in what it is worth
abbrev valued : (Pairs → ℕ) → (Posting → ℕ) → Posting → ℕ
valued value f p = f p * value p.collection

-- whether a posting is to one position
abbrev is_at : ℕ → Pairs → Posting → Bool
is_at a k p = (p.account == a) && same_collection p.collection k

-- whether it is to another
abbrev is_off : ℕ → Pairs → Posting → Bool
is_off a k p = not (is_at a k p)

-- what it moves there
abbrev moved_at : (Posting → ℕ) → ℕ → Pairs → Posting → ℕ
moved_at f a k p = cond (p.account == a) (cond (same_collection p.collection k) (f p) 0) 0

-- a posting to a position has its account and its collection
same-position : (a : ℕ) (k : Pairs) (p : Posting) → is_at a k p ≡ true → (p.account ≡ a) × (p.collection ≡ k)
same-position a k p at =
    let both = and_parts (p.account == a) (same_collection p.collection k) at in
    (eqb-true p.account a both.0, (same_collection_Decides p.collection k).0 both.1)

-- each posting is to its own position
own-position : (p : Posting) → is_at p.account p.collection p ≡ true
own-position p = and_from _ _ (eq-eqb p.account p.account refl) ((same_collection_Decides p.collection p.collection).1 refl)

-- a posting to a position moves all its amount there
moved_at-yes : (b c : Bool) (x : ℕ) → (b && c) ≡ true → cond b (cond c x 0) 0 ≡ x
moved_at-yes true true x both = refl
moved_at-yes true false x both = cc
moved_at-yes false c x both = cc

-- and one to another moves nothing there
moved_at-no : (b c : Bool) (x : ℕ) → (b && c) ≡ false → cond b (cond c x 0) 0 ≡ 0
moved_at-no true true x both = cc
moved_at-no true false x both = refl
moved_at-no false c x both = refl

-- ---- the postings to one position

-- they move what all postings move there, in its collection
in-own : (value : Pairs → ℕ) (f : Posting → ℕ) (a : ℕ) (k : Pairs) (ps : List Posting)
    → sum_by (valued value f) (filter (is_at a k) ps) ≡ sum_by (moved_at f a k) ps * value k
in-own value f a k [] = omega arith
in-own value f a k (p ∷ ps) =
    let rest = in-own value f a k ps in
    let right : sum_by (moved_at f a k) (p ∷ ps) * value k ≡ (moved_at f a k p + sum_by (moved_at f a k) ps) * value k = ap (λ (n : ℕ). n * value k) (sum_by-cons (moved_at f a k) p ps) in
    elim (cases_Bool (is_at a k p)) [
      | inl at ↦
          let left : sum_by (valued value f) (filter (is_at a k) (p ∷ ps)) ≡ valued value f p + sum_by (valued value f) (filter (is_at a k) ps)
          = ap (sum_by (valued value f)) (cond-true (is_at a k p) (p ∷ filter (is_at a k) ps) (filter (is_at a k) ps) at) ∙ sum_by-cons (valued value f) p (filter (is_at a k) ps) in
          let collection = (same-position a k p at).1 in
          let moved = moved_at-yes (p.account == a) (same_collection p.collection k) (f p) at in
          let here : valued value f p ≡ moved_at f a k p * value k = λ i. sym moved i * value (collection i) in
          omega (arith, left, right, here, rest)
      | inr off ↦
          let left : sum_by (valued value f) (filter (is_at a k) (p ∷ ps)) ≡ sum_by (valued value f) (filter (is_at a k) ps)
          = ap (sum_by (valued value f)) (cond-false (is_at a k p) (p ∷ filter (is_at a k) ps) (filter (is_at a k) ps) off) in
          let here : moved_at f a k p * value k ≡ 0 = ap (λ (n : ℕ). n * value k) (moved_at-no (p.account == a) (same_collection p.collection k) (f p) off) ∙ omega arith in
          omega (arith, left, right, here, rest)
    ]

-- ---- the postings to all other positions

-- a posting to that position is left out
off-left : (f : Posting → ℕ) (a : ℕ) (k : Pairs) (p : Posting) (ps : List Posting) → is_at a k p ≡ true → sum_by f (filter (is_off a k) (p ∷ ps)) ≡ sum_by f (filter (is_off a k) ps)
off-left f a k p ps at = ap (sum_by f) (cond-false (is_off a k p) (p ∷ filter (is_off a k) ps) (filter (is_off a k) ps) (not_from_true _ at))

-- and any other is kept
off-kept : (f : Posting → ℕ) (a : ℕ) (k : Pairs) (p : Posting) (ps : List Posting) → is_at a k p ≡ false → sum_by f (filter (is_off a k) (p ∷ ps)) ≡ f p + sum_by f (filter (is_off a k) ps)
off-kept f a k p ps off =
    ap (sum_by f) (cond-true (is_off a k p) (p ∷ filter (is_off a k) ps) (filter (is_off a k) ps) (not_from_false _ off)) ∙ sum_by-cons f p (filter (is_off a k) ps)

-- what they move at another position is all that is moved there
at-other : (f : Posting → ℕ) (a : ℕ) (k : Pairs) (b : ℕ) (j : Pairs) → ((p : Posting) → is_at a k p ≡ true → is_at b j p ≡ false) → (ps : List Posting)
    → sum_by (moved_at f b j) (filter (is_off a k) ps) ≡ sum_by (moved_at f b j) ps
at-other f a k b j apart [] = refl
at-other f a k b j apart (p ∷ ps) =
    let rest = at-other f a k b j apart ps in
    let all = sum_by-cons (moved_at f b j) p ps in
    elim (cases_Bool (is_at a k p)) [
      | inl at ↦ omega (arith, rest, all, off-left (moved_at f b j) a k p ps at, moved_at-no (p.account == b) (same_collection p.collection j) (f p) (apart p at))
      | inr off ↦ omega (arith, rest, all, off-kept (moved_at f b j) a k p ps off)
    ]

-- and at the one that is left out nothing
at-own : (f : Posting → ℕ) (a : ℕ) (k : Pairs) (ps : List Posting) → sum_by (moved_at f a k) (filter (is_off a k) ps) ≡ 0
at-own f a k [] = refl
at-own f a k (p ∷ ps) =
    let rest = at-own f a k ps in
    elim (cases_Bool (is_at a k p)) [
      | inl at ↦ omega (arith, rest, off-left (moved_at f a k) a k p ps at)
      | inr off ↦ omega (arith, rest, off-kept (moved_at f a k) a k p ps off, moved_at-no (p.account == a) (same_collection p.collection k) (f p) off)
    ]

-- whether two positions are the same one
abbrev is_same : ℕ → Pairs → ℕ → Pairs → Bool
is_same a k b j = (a == b) && same_collection k j

-- at that position nothing is left
off-same : (f : Posting → ℕ) (a : ℕ) (k : Pairs) (ps : List Posting) (b : ℕ) (j : Pairs) → is_same a k b j ≡ true → sum_by (moved_at f b j) (filter (is_off a k) ps) ≡ 0
off-same f a k ps b j same =
    let both = and_parts (a == b) (same_collection k j) same in
    let account : a ≡ b = eqb-true a b both.0 in
    let collection : k ≡ j = (same_collection_Decides k j).0 both.1 in
    (λ i. sum_by (moved_at f (sym account i) (sym collection i)) (filter (is_off a k) ps)) ∙ at-own f a k ps

-- and at any other all that was there
off-other : (f : Posting → ℕ) (a : ℕ) (k : Pairs) (ps : List Posting) (b : ℕ) (j : Pairs) → is_same a k b j ≡ false → sum_by (moved_at f b j) (filter (is_off a k) ps) ≡ sum_by (moved_at f b j) ps
off-other f a k ps b j other =
    let apart : (p : Posting) → is_at a k p ≡ true → is_at b j p ≡ false
    = λ p at. let same = same-position a k p at in (λ i. (same.0 i == b) && same_collection (same.1 i) j) ∙ other in
    at-other f a k b j apart ps

-- ---- all positions together

-- what is moved in all is what is moved at one position, and the rest
with-others : (value : Pairs → ℕ) (f : Posting → ℕ) (a : ℕ) (k : Pairs) (ps : List Posting)
    → sum_by (valued value f) ps ≡ sum_by (moved_at f a k) ps * value k + sum_by (valued value f) (filter (is_off a k) ps)
with-others value f a k ps =
    let all : sum_by (valued value f) (filter (is_at a k) ps) + sum_by (valued value f) (filter (is_off a k) ps) ≡ sum_by (valued value f) ps
    = sum_by-filter_both (is_at a k) (is_off a k) (λ p. refl) (valued value f) ps in
    omega (arith, all, in-own value f a k ps)

-- one kind of amounts is within another at each position
abbrev IsWithin : (Posting → ℕ) → (Posting → ℕ) → List Posting → Type 0
IsWithin f g ps = (a : ℕ) (k : Pairs) → sum_by (moved_at f a k) ps ≤ sum_by (moved_at g a k) ps

-- so it is without one of the positions
IsWithin-off : (f g : Posting → ℕ) (a : ℕ) (k : Pairs) (ps : List Posting) → IsWithin f g ps → IsWithin f g (filter (is_off a k) ps)
IsWithin-off f g a k ps within b j =
    elim (cases_Bool (is_same a k b j)) [
      | inl same ↦ omega (arith, off-same f a k ps b j same)
      | inr other ↦ omega (arith, off-other f a k ps b j other, off-other g a k ps b j other, within b j)
    ]

-- without the first posting's position there are fewer postings
shorter : (p : Posting) (ps : List Posting) → length (filter (is_off p.account p.collection) (p ∷ ps)) ≤ length ps
shorter p ps =
    let out : filter (is_off p.account p.collection) (p ∷ ps) ≡ filter (is_off p.account p.collection) ps = cond-false (is_off p.account p.collection p) _ _ (not_from_true _ (own-position p)) in
    omega (arith, ap length out, length-filter (is_off p.account p.collection) ps, count_by-le-length (is_off p.account p.collection) ps)

-- then it is worth no more in all, for up to so many postings
within-few : (value : Pairs → ℕ) (f g : Posting → ℕ) (n : ℕ) (ps : List Posting) → length ps ≤ n → IsWithin f g ps → sum_by (valued value f) ps ≤ sum_by (valued value g) ps
within-few value f g n [] few within = omega arith
within-few value f g zero (p ∷ ps) few within = absurd (omega arith)
within-few value f g (suc n) (p ∷ ps) few within =
    let a = p.account in
    let k = p.collection in
    let rest = within-few value f g n (filter (is_off a k) (p ∷ ps)) (omega (arith, few, shorter p ps)) (IsWithin-off f g a k (p ∷ ps) within) in
    let own : sum_by (moved_at f a k) (p ∷ ps) * value k ≤ sum_by (moved_at g a k) (p ∷ ps) * value k = mul-le-mul_right (value k) (within a k) in
    omega (arith, rest, own, with-others value f a k (p ∷ ps), with-others value g a k (p ∷ ps))

-- and for any
within-worth : (value : Pairs → ℕ) (f g : Posting → ℕ) (ps : List Posting) → IsWithin f g ps → sum_by (valued value f) ps ≤ sum_by (valued value g) ps
within-worth value f g ps within = within-few value f g (length ps) ps (omega arith) within

-- where no position falls below 0, no more worth is taken than paid
pub taken-within : (value : Pairs → ℕ) (ps : List Posting) → IsFunded (λ a k. 0) ps → taken_worth value ps ≤ paid_worth value ps
unfolding taken_worth paid_worth
taken-within value ps funded = within-worth value (λ p. p.taken) (λ p. p.paid) ps (λ a k. omega (arith, funded a k))

-- ---- what is held

-- among some positions, where what is held is what was paid beyond what was taken; at all others as much was taken as paid
record IsHeld (held : ℕ → Pairs → ℕ) (positions : List (ℕ × Pairs)) (ps : List Posting) : Type 0 where
  among : (a : ℕ) (k : Pairs) → has_position positions a k ≡ true → debits ps a k + held a k ≡ credits ps a k
  beyond : (a : ℕ) (k : Pairs) → has_position positions a k ≡ false → debits ps a k ≡ credits ps a k

-- without the first position and its postings it is so with the others
IsHeld-rest : (held : ℕ → Pairs → ℕ) (q : ℕ × Pairs) (qs : List (ℕ × Pairs)) (ps : List Posting) → has_position qs q.0 q.1 ≡ false → IsHeld held (q ∷ qs) ps
    → IsHeld held qs (filter (is_off q.0 q.1) ps)
IsHeld-rest held q qs ps apart is = record {
  among = λ a k there. elim (cases_Bool (is_same q.0 q.1 a k)) [
    | inl same ↦
        let both = and_parts (q.0 == a) (same_collection q.1 k) same in
        let account : q.0 ≡ a = eqb-true q.0 a both.0 in
        let collection : q.1 ≡ k = (same_collection_Decides q.1 k).0 both.1 in
        let nowhere : has_position qs a k ≡ false = (λ i. has_position qs (sym account i) (sym collection i)) ∙ apart in
        let clash : true ≡ false = sym there ∙ nowhere in
        cc
    | inr other ↦
        omega (arith, off-other (λ p. p.taken) q.0 q.1 ps a k other, off-other (λ p. p.paid) q.0 q.1 ps a k other, is.among a k (or_right (is_same q.0 q.1 a k) (has_position qs a k) there))
  ];
  beyond = λ a k nowhere. elim (cases_Bool (is_same q.0 q.1 a k)) [
    | inl same ↦ omega (arith, off-same (λ p. p.taken) q.0 q.1 ps a k same, off-same (λ p. p.paid) q.0 q.1 ps a k same)
    | inr other ↦
        omega (arith, off-other (λ p. p.taken) q.0 q.1 ps a k other, off-other (λ p. p.paid) q.0 q.1 ps a k other, is.beyond a k (or_from (is_same q.0 q.1 a k) (has_position qs a k) other nowhere))
  ];
}

-- then what is held is worth what was paid beyond what was taken
held-worth : (value : Pairs → ℕ) (held : ℕ → Pairs → ℕ) (positions : List (ℕ × Pairs)) (ps : List Posting) → PositionsApart positions → IsHeld held positions ps
    → sum_by (valued value (λ p. p.taken)) ps + held_worth value held positions ≡ sum_by (valued value (λ p. p.paid)) ps
held-worth value held [] ps apart is =
    let up = within-worth value (λ p. p.taken) (λ p. p.paid) ps (λ a k. omega (arith, is.beyond a k refl)) in
    let down = within-worth value (λ p. p.paid) (λ p. p.taken) ps (λ a k. omega (arith, is.beyond a k refl)) in
    omega (arith, up, down)
held-worth value held (q ∷ qs) ps apart is =
    let a = q.0 in
    let k = q.1 in
    let rest = held-worth value held qs (filter (is_off a k) ps) apart.1 (IsHeld-rest held q qs ps apart.0 is) in
    let own : is_same a k a k ≡ true = and_from _ _ (eq-eqb a a refl) ((same_collection_Decides k k).1 refl) in
    let here : debits ps a k + held a k ≡ credits ps a k = is.among a k (first own) in
    let worth_here : (debits ps a k + held a k) * value k ≡ credits ps a k * value k = ap (λ (n : ℕ). n * value k) here in
    omega (
      arith,
      rest,
      worth_here,
      with-others value (λ p. p.taken) a k ps,
      with-others value (λ p. p.paid) a k ps,
      sum_by-cons (λ (p : ℕ × Pairs). held p.0 p.1 * value p.1) q qs,
    )
  where
    first : is_same q.0 q.1 q.0 q.1 ≡ true → has_position (q ∷ qs) q.0 q.1 ≡ true
    first own = ap (λ b. b || has_position qs q.0 q.1) own

-- what all holdings are worth is the need
pub held-need : (value : Pairs → ℕ) (ps : List Posting) (positions : List (ℕ × Pairs)) → IsFunded (λ a k. 0) ps → AreEntries (λ a k. credits ps a k - debits ps a k) positions
    → held_worth value (λ a k. credits ps a k - debits ps a k) positions ≡ need value ps
unfolding taken_worth paid_worth
held-need value ps positions funded entries =
    let is : IsHeld (λ a k. credits ps a k - debits ps a k) positions ps
    = record {
      among = λ a k there. omega (arith, funded a k);
      beyond = λ a k nowhere. elim (cases_Bool (nat_lt (debits ps a k) (credits ps a k))) [
        | inl more ↦
            let some : 0 < credits ps a k - debits ps a k = omega (arith, ltb-true _ _ more) in
            let clash : true ≡ false = sym (entries.among a k some) ∙ nowhere in
            cc
        | inr none ↦ omega (arith, ltb-false _ _ none, funded a k)
      ];
    } in
    omega (arith, held-worth value (λ a k. credits ps a k - debits ps a k) positions ps entries.apart is)
