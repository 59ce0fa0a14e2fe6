use Rattle.std.proofs.Common.{◌≡◌, ◌≤◌, ℕ, true, length, take}
use Rattle.std.specs.Map.{keys_of}
use Rattle.ledger_book.specs.Ledger.{rows, kept, amount_in, are_placed}
use Rattle.ledger_book.proofs.Movements.{AreAmountsCarried}
use Rattle.ledger_book.proofs.carrying.post_all.Given as goal

abbrev pub invariant-loop-place : goal.invariant-loop-place
invariant-loop-place l = record {
  carried : AreAmountsCarried (amount_in (rows l.fn.accounts) (keys_of l.supplies.entries)) (amount_in (rows l.accounts) (keys_of l.supplies.entries)) l.postings (take l.place l.postings);
  placed : are_placed (rows l.accounts) (keys_of l.supplies.entries) l.postings ≡ true;
  behind : (a n : ℕ) → length l.supplies.entries ≤ n → kept (rows l.accounts) a n ≡ kept (rows l.fn.accounts) a n;
}
