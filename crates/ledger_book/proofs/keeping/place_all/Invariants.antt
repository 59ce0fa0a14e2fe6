use Rattle.std.proofs.Common.{◌≡◌, ◌≤◌, ℕ, true, length, take}
use Rattle.std.specs.Map.{keys_of}
use Rattle.ledger_book.specs.Ledger.{rows, kept_or_none, are_placed}
use Rattle.ledger_book.proofs.keeping.place_all.Given as goal

abbrev pub invariant-loop-posting : goal.invariant-loop-posting
invariant-loop-posting l = record {
  same : (a n : ℕ) → kept_or_none (rows l.accounts.items) a n ≡ kept_or_none (rows l.fn.accounts.items) a n;
  longer : length l.fn.accounts.items ≤ length l.accounts.items;
  placed : are_placed (rows l.accounts.items) (keys_of l.supplies.entries) (take l.posting-index l.postings) ≡ true;
}
