-- What is within a bound is within a larger one.
use Rattle.std.proofs.Common.{ℕ, ◌≤◌, List, arith}
use Rattle.ledger_book.specs.Postings.{AreWithin}
use Rattle.ledger_book.specs.declared.posting.Posting.{Posting}

pub within_larger : (most more : ℕ) (ps : List Posting) → most ≤ more → AreWithin most ps → AreWithin more ps
within_larger most more ps larger within a k = let here = within a k in record { paid = omega arith; taken = omega arith }
