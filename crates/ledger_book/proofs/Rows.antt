-- What is kept for the accounts, when a row changes.
use Rattle.std.proofs.Common.{◌≡◌, ℕ, ◌<◌, ◌≤◌, ◌⊎◌, List, [], ◌∷◌, ◌++◌, true, false, length, get_or, set, take, drop, zero, suc, Some, None, refl, sym, ◌∙◌, ap, subst, arith, inl, inr}
use Rattle.std.specs.BTreeMap.{BTreeMap, is_at}
use Rattle.std.specs.Cmp.{unsigned_ties}
use Rattle.std.specs.Map.{lookup}
use Rattle.std.specs.Option.{is_some, unwrap_or}
use Rattle.std.specs.Ordering.{nat_cmp}
use Rattle.std.specs.Prelude.{◌==◌, ◌&&◌, Option, Result, Ok, Err, OnOk, OnErr}
use Rattle.std.proofs.lemmas.Bool.{cases_Bool, and_parts, eqb-true}
use Rattle.std.proofs.lemmas.Bool.Decides.{nat_tests}
use Rattle.std.proofs.lemmas.List.{append-nil, drop_all, take_all, length-map}
use Rattle.ledger_book.specs.Ledger.{Rows, rows, kept, kept_or_none}
use Rattle.ledger_book.proofs.Carried.{and_second}

-- the row of an account, as it is read
pub kept_read : (ms : List (BTreeMap ℕ ℕ)) (a n : ℕ) (d : BTreeMap ℕ ℕ) → a < length ms → kept (rows ms) a n ≡ lookup (is_at (nat_cmp n)) (get_or ms a d).entries
kept_read [] a n d below = absurd (omega (arith, below))
kept_read (x ∷ ms) zero n d below = refl
kept_read (x ∷ ms) (suc a) n d below = kept_read ms a n d (omega (arith, below))

-- as it is written
pub kept_written : (ms : List (BTreeMap ℕ ℕ)) (a n : ℕ) (m : BTreeMap ℕ ℕ) → a < length ms → kept (rows (set ms a m)) a n ≡ lookup (is_at (nat_cmp n)) m.entries
kept_written [] a n m below = absurd (omega (arith, below))
kept_written (x ∷ ms) zero n m below = refl
kept_written (x ∷ ms) (suc a) n m below = kept_written ms a n m (omega (arith, below))

-- and the row of another
kept_elsewhere : (ms : List (BTreeMap ℕ ℕ)) (a b n : ℕ) (m : BTreeMap ℕ ℕ) → (b == a) ≡ false → kept (rows (set ms a m)) b n ≡ kept (rows ms) b n
kept_elsewhere [] a b n m differ = refl
kept_elsewhere (x ∷ ms) zero zero n m differ = cc
kept_elsewhere (x ∷ ms) zero (suc b) n m differ = refl
kept_elsewhere (x ∷ ms) (suc a) zero n m differ = refl
kept_elsewhere (x ∷ ms) (suc a) (suc b) n m differ = kept_elsewhere ms a b n m (grind (arith, nat_tests, differ))

-- a number other than the one that changes
not_at : (n j : ℕ) → (j == n) ≡ false → is_at (nat_cmp n) j ≡ false
not_at n j differ = let other : (n == j) ≡ false = grind (arith, nat_tests, differ) in sym (unsigned_ties n j) ∙ other

-- a row that changes at one number
pub kept_others : (ms : List (BTreeMap ℕ ℕ)) (a n : ℕ) (d new : BTreeMap ℕ ℕ) → a < length ms
    → ((q : ℕ) → is_at (nat_cmp n) q ≡ false → lookup (is_at (nat_cmp q)) new.entries ≡ lookup (is_at (nat_cmp q)) (get_or ms a d).entries)
    → (b j : ℕ) → ((b == a) && (j == n)) ≡ false → kept (rows (set ms a new)) b j ≡ kept (rows ms) b j
kept_others ms a n d new below same b j apart =
    elim (cases_Bool (b == a)) [
      | inl here ↦
          let own : kept (rows (set ms a new)) a j ≡ kept (rows ms) a j
          = kept_written ms a j new below ∙ same j (not_at n j (and_second (b == a) (j == n) apart here)) ∙ sym (kept_read ms a j d below) in
          subst (λ (c : ℕ). kept (rows (set ms a new)) c j ≡ kept (rows ms) c j) (sym (eqb-true b a here)) own
      | inr differ ↦ kept_elsewhere ms a b j new differ
    ]

-- a row that stays
pub kept_unchanged : (ms : List (BTreeMap ℕ ℕ)) (a : ℕ) (d new : BTreeMap ℕ ℕ) → a < length ms → new.entries ≡ (get_or ms a d).entries
    → (b j : ℕ) → kept (rows (set ms a new)) b j ≡ kept (rows ms) b j
kept_unchanged ms a d new below same b j =
    elim (cases_Bool (b == a)) [
      | inl here ↦
          let own : kept (rows (set ms a new)) a j ≡ kept (rows ms) a j
          = kept_written ms a j new below ∙ ap (lookup (is_at (nat_cmp j))) same ∙ sym (kept_read ms a j d below) in
          subst (λ (c : ℕ). kept (rows (set ms a new)) c j ≡ kept (rows ms) c j) (sym (eqb-true b a here)) own
      | inr differ ↦ kept_elsewhere ms a b j new differ
    ]

-- a row that is put last, with nothing in it
pub kept_grown : (ms : List (BTreeMap ℕ ℕ)) (m : BTreeMap ℕ ℕ) → m.entries ≡ [] → (a n : ℕ) → kept (rows (ms ++ m ∷ [])) a n ≡ kept (rows ms) a n
kept_grown [] m none zero n = ap (lookup (is_at (nat_cmp n))) none
kept_grown [] m none (suc a) n = refl
kept_grown (x ∷ ms) m none zero n = refl
kept_grown (x ∷ ms) m none (suc a) n = kept_grown ms m none a n

-- where an amount is kept, there is a row
pub kept_within : (ms : List (BTreeMap ℕ ℕ)) (a n : ℕ) → is_some (kept (rows ms) a n) ≡ true → a < length ms
kept_within [] a n there = cc
kept_within (x ∷ ms) zero n there = omega arith
kept_within (x ∷ ms) (suc a) n there = omega (arith, kept_within ms a n there)

-- past the rows nothing is kept
pub kept_past : (rs : Rows) (a n : ℕ) → length rs ≤ a → kept_or_none rs a n ≡ 0
kept_past [] a n past = refl
kept_past (r ∷ rs) zero n past = absurd (omega (arith, past))
kept_past (r ∷ rs) (suc a) n past = kept_past rs a n (omega (arith, past))

-- as many rows as accounts
pub length-rows : (ms : List (BTreeMap ℕ ℕ)) → length (rows ms) ≡ length ms
length-rows ms = length-map ms (λ (m : BTreeMap ℕ ℕ). m.entries)

pub longer-rows : (ms ns : List (BTreeMap ℕ ℕ)) → length ms ≤ length ns → length (rows ms) ≤ length (rows ns)
longer-rows ms ns longer = omega (arith, longer, length-rows ms, length-rows ns)

-- a list that is lent whole and given back
pub given_back : (n : ℕ) (xs ys : List (BTreeMap ℕ ℕ)) → length xs ≡ length ys → n ≡ length ys → take n (xs ++ drop (length xs) ys) ≡ xs
given_back n xs ys same at =
    ap (λ (zs : List (BTreeMap ℕ ℕ)). take n (xs ++ zs)) (drop_all (length xs) ys (omega (arith, same))) ∙ ap (take n) (append-nil xs) ∙ take_all n xs (omega (arith, same, at))

-- a call ends well or not
pub either : {T E : Type 0} (r : Result T E) (X Y : Type 0) → OnOk r X → OnErr r Y → X ⊎ Y
either (Ok x) X Y ok err = inl ok
either (Err e) X Y ok err = inr err

-- what holds at one place, and at all others, holds at each
at_each : (P : ℕ → ℕ → Type 0) (a n : ℕ) → P a n → ((b j : ℕ) → ((b == a) && (j == n)) ≡ false → P b j) → (b j : ℕ) → P b j
at_each P a n here others b j =
    elim (cases_Bool ((b == a) && (j == n))) [
      | inl same ↦
          let parts = and_parts (b == a) (j == n) same in
          subst (λ (i : ℕ). P b i) (sym (eqb-true j n parts.1)) (subst (λ (c : ℕ). P c n) (sym (eqb-true b a parts.0)) here)
      | inr apart ↦ others b j apart
    ]

-- what is kept at one place changes
module _ (rs next : Rows) (a n : ℕ) (others : (b j : ℕ) → ((b == a) && (j == n)) ≡ false → kept next b j ≡ kept rs b j) where
  -- where an amount is put there, all places stay
  pub put-stays : (amount : ℕ) → kept next a n ≡ Some amount → (b j : ℕ) → is_some (kept rs b j) ≡ true → is_some (kept next b j) ≡ true
  put-stays amount here =
      at_each (λ b j. is_some (kept rs b j) ≡ true → is_some (kept next b j) ≡ true) a n (λ there. ap is_some here) (λ b j apart there. ap is_some (others b j apart) ∙ there)

  -- a place is made where there was none, or not made
  module _ (none : kept rs a n ≡ None) (made : (kept next a n ≡ Some 0) ⊎ ((b j : ℕ) → kept next b j ≡ kept rs b j)) where
    -- all amounts stay
    pub made-same : (b j : ℕ) → kept_or_none next b j ≡ kept_or_none rs b j
    made-same = at_each (λ b j. kept_or_none next b j ≡ kept_or_none rs b j) a n own (λ b j apart. ap (λ (o : Option ℕ). unwrap_or o 0) (others b j apart))
      where
        own : kept_or_none next a n ≡ kept_or_none rs a n
        own = elim made [
          | inl here ↦ ap (λ (o : Option ℕ). unwrap_or o 0) here ∙ sym (ap (λ (o : Option ℕ). unwrap_or o 0) none)
          | inr same ↦ ap (λ (o : Option ℕ). unwrap_or o 0) (same a n)
        ]

    -- and all places
    pub made-stays : (b j : ℕ) → is_some (kept rs b j) ≡ true → is_some (kept next b j) ≡ true
    made-stays =
        at_each (λ b j. is_some (kept rs b j) ≡ true → is_some (kept next b j) ≡ true) a n
        (λ there. let nowhere : is_some (kept rs a n) ≡ false = ap is_some none in cc)
        (λ b j apart there. ap is_some (others b j apart) ∙ there)
