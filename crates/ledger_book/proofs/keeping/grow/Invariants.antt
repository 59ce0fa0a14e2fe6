use Rattle.std.proofs.Common.{◌≡◌, ◌+◌, ◌-◌, ◌≤◌, ℕ, length}
use Rattle.ledger_book.specs.Ledger.{rows, kept}
use Rattle.ledger_book.proofs.keeping.grow.Given as goal

abbrev pub invariant-loop-account : goal.invariant-loop-account
invariant-loop-account l = record {
  same : (a n : ℕ) → kept (rows l.accounts.items) a n ≡ kept (rows l.fn.accounts.items) a n;
  longer : length l.fn.accounts.items ≤ length l.accounts.items;
}

abbrev pub decreases-loop-account : goal.decreases-loop-account
decreases-loop-account l = l.account-inside.0 + 1 - length l.accounts.items
