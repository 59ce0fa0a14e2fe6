-- How far net amounts are from 0 after one posting more.
use Rattle.std.proofs.Common.{ℕ, ◌+◌, ◌≤◌, List, [], ◌∷◌, ◌++◌, Bool, true, false, arith}
use Rattle.std.specs.Prelude.{ℤ, pos, negsuc, nat_abs, suc, cond}
use Rattle.std.proofs.lemmas.List.Sums.{sum_by_push}
use Rattle.collection_keys.specs.Collections.{Pairs}
use Rattle.ledger_book.specs.Ledger.{same_position}
use Rattle.ledger_book.specs.Postings.{credit, debit, paid_to_account, taken_from_account, IsNetWithin, AreWithin}
use Rattle.ledger_book.specs.Staging.{signed_posting}
use Rattle.ledger_book.specs.declared.posting.Posting.{Posting}
use Rattle.ledger_book.proofs.Positions.{at, paid_here, taken_here}

cond_le : (c : Bool) (m : ℕ) → cond c m 0 ≤ m
cond_le true m = omega arith
cond_le false m = omega arith

one_more : (most size : ℕ) (ps : List Posting) (p : Posting) (a : ℕ) (k : Pairs) → AreWithin most ps → p.paid + p.taken ≤ size → IsNetWithin (most + size) (ps ++ p ∷ []) a k
one_more most size ps p a k within small =
    let paid = sum_by_push (paid_to_account a k) ps p in
    let taken = sum_by_push (taken_from_account a k) ps p in
    let no_more = cond_le (same_position (at p) (a, k)) p.paid in
    let no_less = cond_le (same_position (at p) (a, k)) p.taken in
    record {
      paid = omega (arith, (within a k).paid, paid, taken, paid_here p a k, no_more, small);
      taken = omega (arith, (within a k).taken, paid, taken, taken_here p a k, no_less, small);
    }

-- a credit, a debit, and a signed change
pub within_credit : (most amount : ℕ) (ps : List Posting) (a : ℕ) (k : Pairs) → AreWithin most ps → IsNetWithin (most + amount) (ps ++ credit a k amount ∷ []) a k
within_credit most amount ps a k within = one_more most amount ps (credit a k amount) a k within (omega arith)

pub within_debit : (most amount : ℕ) (ps : List Posting) (a : ℕ) (k : Pairs) → AreWithin most ps → IsNetWithin (most + amount) (ps ++ debit a k amount ∷ []) a k
within_debit most amount ps a k within = one_more most amount ps (debit a k amount) a k within (omega arith)

pub within_signed : (most : ℕ) (amount : ℤ) (ps : List Posting) (a : ℕ) (k : Pairs) → AreWithin most ps → IsNetWithin (most + nat_abs amount) (ps ++ signed_posting a k amount ∷ []) a k
within_signed most (pos amount) ps a k within = within_credit most amount ps a k within
within_signed most (negsuc below) ps a k within = within_debit most (suc below) ps a k within

-- what is within one bound is within a larger one
pub within_larger : (most more : ℕ) (ps : List Posting) (a : ℕ) (k : Pairs) → most ≤ more → IsNetWithin most ps a k → IsNetWithin more ps a k
within_larger most more ps a k larger within = record { paid = omega (arith, within.paid, larger); taken = omega (arith, within.taken, larger) }
