-- The net of all postings, account by account and in sum.
use Rattle.std.proofs.Common.{◌≡◌, ℕ, ◌+◌, ◌≤◌, List, [], ◌∷◌, ◌++◌, Bool, true, false, refl, sym, subst, arith, inl, inr}
use Rattle.std.specs.List.{list_any}
use Rattle.std.specs.Prelude.{◌==◌, ◌&&◌, cond, not, sum_by}
use Rattle.std.proofs.lemmas.Bool.{cases_Bool, or_parts, or_cases, and_parts, eqb-true}
use Rattle.std.proofs.lemmas.List.Sums.{sum_by-cons}
use Rattle.condition_sets.specs.declared.amount.TheConstants.{MAX_AMOUNT}
use Rattle.collection_keys.specs.Collections.{Pairs}
use Rattle.collection_keys.specs.Comparing.{same_collection}
use Rattle.ledger_book.specs.Ledger.{Position, same_position, sum_below, IsBalanced}
use Rattle.ledger_book.specs.Naming.{has, is_change, new_names}
use Rattle.ledger_book.specs.Postings.{paid_to, taken_from, minted, burnt, credits, debits, IsFunded}
use Rattle.ledger_book.specs.declared.posting.Posting.{Posting}
use Rattle.ledger_book.proofs.Carried.{and_second}
use Rattle.ledger_book.proofs.Fresh.{is_touched, untouched}
use Rattle.ledger_book.proofs.Movements.{nothing_at}
use Rattle.ledger_book.proofs.Positions.{position_Decides, at}
use Rattle.ledger_book.proofs.Sums.{sum_below-same, sum_below-add, sum_below-none, sum_below-more, sum_below-le, sum_below-slack, sum_below-single}

-- a number above each account that is posted to
abbrev accounts_in : List Posting → ℕ
accounts_in ps = sum_by (λ p. p.account + 1) ps

summed : (f : Posting → ℕ) (ps : List Posting) (n : ℕ) → accounts_in ps ≤ n → sum_by f ps ≡ sum_below n (λ a. sum_by (λ p. cond (p.account == a) (f p) 0) ps)
summed f [] n fits = sym (sum_below-none n (λ a. 0) (λ a below. refl))
summed f (p ∷ ps) n fits =
    let here : ℕ → Posting → ℕ = λ a q. cond (q.account == a) (f q) 0 in
    let longer = sum_by-cons (λ (q : Posting). q.account + 1) p ps in
    let rest = summed f ps n (omega (arith, longer, fits)) in
    let each = sum_below-same n (λ a. sum_by (here a) (p ∷ ps)) (λ a. here a p + sum_by (here a) ps) (λ a. sum_by-cons (here a) p ps) in
    let both = sum_below-add n (λ a. here a p) (λ a. sum_by (here a) ps) in
    let one = sum_below-single n p.account (f p) (omega (arith, longer, fits)) in
    omega (arith, sum_by-cons f p ps, rest, each, both, one)

minted_sum : (ps : List Posting) (k : Pairs) (n : ℕ) → accounts_in ps ≤ n → minted ps k ≡ sum_below n (λ a. credits ps a k)
minted_sum ps k n fits = summed (paid_to k) ps n fits

burnt_sum : (ps : List Posting) (k : Pairs) (n : ℕ) → accounts_in ps ≤ n → burnt ps k ≡ sum_below n (λ a. debits ps a k)
burnt_sum ps k n fits = summed (taken_from k) ps n fits

held_sum : (m : ℕ) (held : ℕ → Pairs → ℕ) (supplied : Pairs → ℕ) (k : Pairs) (n : ℕ) → IsBalanced m held supplied → m ≤ n → supplied k ≡ sum_below n (λ a. held a k)
held_sum m held supplied k n balanced fits = omega (arith, balanced.sums k, sum_below-more m n (λ a. held a k) fits (λ a past. balanced.past a k past))

-- no supply falls below 0 where no amount does
pub net_low : (m : ℕ) (held : ℕ → Pairs → ℕ) (supplied : Pairs → ℕ) (ps : List Posting) → IsBalanced m held supplied
    → IsFunded held ps → (k : Pairs) → burnt ps k ≤ supplied k + minted ps k
net_low m held supplied ps balanced funded k =
    let n = m + accounts_in ps in
    omega (
      arith,
      held_sum m held supplied k n balanced (omega arith),
      minted_sum ps k n (omega arith),
      burnt_sum ps k n (omega arith),
      sum_below-add n (λ a. held a k) (λ a. credits ps a k),
      sum_below-le n (λ a. held a k + credits ps a k) (λ a. debits ps a k) (λ a. funded a k),
    )

-- no amount is above the limit where no supply is
pub net_high : (m : ℕ) (held : ℕ → Pairs → ℕ) (supplied : Pairs → ℕ) (ps : List Posting) → IsBalanced m held supplied
    → IsFunded held ps → ((k : Pairs) → supplied k + minted ps k ≤ MAX_AMOUNT + burnt ps k)
    → (a : ℕ) (k : Pairs) → held a k + credits ps a k ≤ MAX_AMOUNT + debits ps a k
net_high m held supplied ps balanced funded admitted a k =
    let n = m + accounts_in ps + (a + 1) in
    omega (
      arith,
      admitted k,
      held_sum m held supplied k n balanced (omega arith),
      minted_sum ps k n (omega arith),
      burnt_sum ps k n (omega arith),
      sum_below-add n (λ b. held b k) (λ b. credits ps b k),
      sum_below-slack n a (λ b. held b k + credits ps b k) (λ b. debits ps b k) (λ b. funded b k) (omega arith),
    )

-- what is balanced stays so when amounts and supplies move by the same postings
pub net_balanced : (m : ℕ) (held next : ℕ → Pairs → ℕ) (supplied given : Pairs → ℕ) (ps : List Posting) → IsBalanced m held supplied
    → ((k : Pairs) → supplied k + minted ps k ≤ MAX_AMOUNT + burnt ps k)
    → ((a : ℕ) (k : Pairs) → m ≤ a → next a k ≡ 0)
    → ((a : ℕ) (k : Pairs) → next a k + debits ps a k ≡ held a k + credits ps a k)
    → ((k : Pairs) → given k + burnt ps k ≡ supplied k + minted ps k) → IsBalanced m next given
net_balanced m held next supplied given ps balanced admitted past amounts supplies =
    let n = m + accounts_in ps in
    record {
      past = past;
      sums = λ k.
          omega (
            arith,
            supplies k,
            held_sum m held supplied k n balanced (omega arith),
            sum_below-more m n (λ a. next a k) (omega arith) (λ a beyond. past a k beyond),
            minted_sum ps k n (omega arith),
            burnt_sum ps k n (omega arith),
            sum_below-add n (λ a. held a k) (λ a. credits ps a k),
            sum_below-add n (λ a. next a k) (λ a. debits ps a k),
            sum_below-same n (λ a. next a k + debits ps a k) (λ a. held a k + credits ps a k) (λ a. amounts a k),
          );
      within = λ k. omega (arith, supplies k, admitted k);
    }

same_from : (m n : ℕ) → not (m == n) ≡ false → m ≡ n
same_from m n same = eqb-true m n (not_false (m == n) same)
  where
    not_false : (b : Bool) → not b ≡ false → b ≡ true
    not_false true is = refl
    not_false false is = cc

-- a position that postings leave as it was, where none of a collection's postings changes an amount
left : (all ps : List Posting) (a : ℕ) (k : Pairs) → is_touched all ps k ≡ false → list_any (λ p. same_position (a, k) (at p)) ps ≡ true → credits all a k ≡ debits all a k
left all [] a k untouched there = cc
left all (p ∷ ps) a k untouched there =
    let parts = or_parts (same_collection k p.collection && is_change all p) (is_touched all ps k) untouched in
    elim (or_cases (same_position (a, k) (at p)) (list_any (λ (q : Posting). same_position (a, k) (at q)) ps) there) [
      | inl here ↦
          let is = (position_Decides (a, k) (at p)).0 here in
          let still = and_second (same_collection k p.collection) (is_change all p) parts.0 (and_parts (a == p.account) (same_collection k p.collection) here).1 in
          subst (λ (q : Position). credits all q.0 q.1 ≡ debits all q.0 q.1) (sym is) (same_from (credits all p.account p.collection) (debits all p.account p.collection) still)
      | inr later ↦ left all ps a k parts.1 later
    ]

-- a collection that has no name, and gets none, has the amounts that it had
pub net_still : (old : List Pairs) (ps : List Posting) (a : ℕ) (k : Pairs) → has (old ++ new_names old ps) k ≡ false → credits ps a k ≡ debits ps a k
net_still old ps a k nowhere =
    elim (cases_Bool (list_any (λ (p : Posting). same_position (a, k) (at p)) ps)) [
      | inl there ↦ left ps ps a k (untouched old ps k nowhere) there
      | inr absent ↦ let none = nothing_at ps a k absent in omega (arith, none.0, none.1)
    ]

-- and the supply
pub net_unnamed : (old : List Pairs) (ps : List Posting) (k : Pairs) → has (old ++ new_names old ps) k ≡ false → minted ps k ≡ burnt ps k
net_unnamed old ps k nowhere =
    let n = accounts_in ps in
    omega (arith, minted_sum ps k n (omega arith), burnt_sum ps k n (omega arith), sum_below-same n (λ a. credits ps a k) (λ a. debits ps a k) (λ a. net_still old ps a k nowhere))
