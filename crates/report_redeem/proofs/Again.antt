-- A set that is named again has nothing left.
use Rattle.std.proofs.Common.{◌≡◌, ℕ, zero, suc, ◌+◌, ◌*◌, ◌/◌, ◌<◌, ◌≤◌, List, [], ◌∷◌, ◌++◌, None, Some, refl, sym, ap, ◌∙◌, subst, arith}
use Rattle.std.proofs.Math.Nat.{zero-div}
use Rattle.std.specs.Prelude.{map, slice_get, sum}
use Rattle.std.proofs.lemmas.Bool.{eq-eqb}
use Rattle.std.proofs.lemmas.List.Sums.{sum_by-append, sum_by-cons}
use Rattle.collection_keys.proofs.Sameness.{same_collection_Decides}
use Rattle.collection_keys.specs.Collections.{Pairs, joined, part}
use Rattle.condition_table.specs.Shares.{numerators_in}
use Rattle.ledger_book.specs.Entries.{held_after}
use Rattle.ledger_book.specs.Postings.{credit, credits, debit, debits, paid_to_account, taken_from_account}
use Rattle.ledger_book.specs.declared.posting.Posting.{Posting}
use Rattle.report_redeem.proofs.Redemptions.{one_behind, part_apart, unpaid-for, untaken}
use Rattle.report_redeem.specs.Redeeming.{Redeemed, postings_for, redeem_sums, redeemed_behind, redeemed_of}

-- nothing is left of a position
abbrev IsEmptied : (ℕ → Pairs → ℕ) → List Posting → ℕ → Pairs → Type 0
IsEmptied held ps a k = held a k + credits ps a k ≤ debits ps a k

-- of nothing nothing is paid
none_paid : (ns : List ℕ) (set amount : ℕ) → amount ≡ 0 → (redeemed_of ns set amount).paid ≡ 0
none_paid ns set amount none = ap (λ n. (n * numerators_in ns set) / sum ns) none ∙ (ap (λ n. n / sum ns) (omega arith) ∙ zero-div (sum ns))

module _ (held : ℕ → Pairs → ℕ) (a : ℕ) (parent : Pairs) (c : ℕ) (ns : List ℕ) (set : ℕ) (free : part parent c ≡ None) where
  -- it stays so, whatever set is redeemed
  stays_emptied : (earlier : List Posting) (r : Redeemed) → IsEmptied held earlier a (joined parent c set) → IsEmptied held (earlier ++ postings_for a parent c r) a (joined parent c set)
  stays_emptied earlier r emptied =
      let k = joined parent c set in
      omega (
        arith,
        emptied,
        unpaid-for a parent c r a k (part_apart parent c set free),
        sum_by-append (paid_to_account a k) earlier (postings_for a parent c r),
        sum_by-append (taken_from_account a k) earlier (postings_for a parent c r),
      )

  -- it is so once the set is redeemed
  emptied_now : (earlier : List Posting) → IsEmptied held (earlier ++ postings_for a parent c (one_behind held a parent c ns earlier set)) a (joined parent c set)
  emptied_now earlier =
      let k = joined parent c set in
      let r : Redeemed = one_behind held a parent c ns earlier set in
      let burnt : taken_from_account a k (debit a k r.burnt) ≡ r.burnt = rw (eq-eqb a a refl, (same_collection_Decides k k).1 refl) refl in
      omega (
        arith,
        burnt,
        untaken a parent r.paid a k,
        unpaid-for a parent c r a k (part_apart parent c set free),
        sum_by-cons (taken_from_account a k) (debit a k r.burnt) (credit a parent r.paid ∷ []),
        sum_by-append (paid_to_account a k) earlier (postings_for a parent c r),
        sum_by-append (taken_from_account a k) earlier (postings_for a parent c r),
      )

  emptied-paid : (earlier : List Posting) (sets : List ℕ) (j : ℕ) → IsEmptied held earlier a (joined parent c set) → slice_get sets j ≡ Some set
      → slice_get (map (λ r. r.paid) (redeemed_behind held a parent c ns earlier sets)) j ≡ Some 0
  emptied-paid earlier [] j emptied there = cc
  emptied-paid earlier (x ∷ xs) zero emptied there =
      let same : x ≡ set = cc in
      let left : held_after held earlier a (joined parent c x) ≡ 0 = rw same (omega (arith, emptied)) in
      ap (λ (n : ℕ). Some n) (none_paid ns x (held_after held earlier a (joined parent c x)) left)
  emptied-paid earlier (x ∷ xs) (suc j) emptied there =
      let r : Redeemed = one_behind held a parent c ns earlier x in
      emptied-paid (earlier ++ postings_for a parent c r) xs j (stays_emptied earlier r emptied) there

  again-paid : (earlier : List Posting) (sets : List ℕ) (i j : ℕ) → i < j → slice_get sets i ≡ Some set → slice_get sets j ≡ Some set
      → slice_get (map (λ r. r.paid) (redeemed_behind held a parent c ns earlier sets)) j ≡ Some 0
  again-paid earlier [] i j behind first there = cc
  again-paid earlier (x ∷ xs) i zero behind first there = absurd (omega arith)
  again-paid earlier (x ∷ xs) zero (suc j) behind first there =
      let same : x ≡ set = cc in
      let emptied = subst (λ (n : ℕ). IsEmptied held (earlier ++ postings_for a parent c (one_behind held a parent c ns earlier n)) a (joined parent c set)) (sym same) (emptied_now earlier) in
      emptied-paid (earlier ++ postings_for a parent c (one_behind held a parent c ns earlier x)) xs j emptied there
  again-paid earlier (x ∷ xs) (suc i) (suc j) behind first there =
      again-paid (earlier ++ postings_for a parent c (one_behind held a parent c ns earlier x)) xs i j (omega arith) first there

  -- where a set is named again, 0 is paid
  pub named_again-paid : (sets : List ℕ) (i j : ℕ) → i < j → slice_get sets i ≡ Some set → slice_get sets j ≡ Some set → slice_get (redeem_sums held a parent c ns sets) j ≡ Some 0
  named_again-paid sets i j behind first there = again-paid [] sets i j behind first there
