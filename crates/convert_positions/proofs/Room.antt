-- Bounds of net amounts.
use Rattle.std.proofs.Common.{◌≡◌, ℕ, ◌+◌, ◌*◌, ◌≤◌, List, arith}
use Rattle.std.proofs.Math.Nat.{mul-le-mul_right}
use Rattle.ledger_book.specs.Postings.{AreWithin}
use Rattle.ledger_book.specs.declared.posting.Posting.{Posting}

-- what is within a bound is within a larger one
pub within_larger : (most more : ℕ) (ps : List Posting) → most ≤ more → AreWithin most ps → AreWithin more ps
within_larger most more ps larger within a k = let here = within a k in record { paid = omega arith; taken = omega arith }

-- so many amounts and one more are that many and one
pub one_more : (n amount : ℕ) → n * amount + amount ≡ (n + 1) * amount
one_more n amount = grind arith

-- so few amounts are no more than that many
pub few_times : (n most amount : ℕ) → n ≤ most → n * amount ≤ most * amount
few_times n most amount few = mul-le-mul_right amount few
