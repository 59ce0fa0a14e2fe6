use Rattle.std.proofs.Common.{◌+◌, ◌++◌, ◌∷◌, [], arith}
use Rattle.std.specs.Prelude.{nat_abs}
use Rattle.ledger_book.specs.Postings.{credit, debit}
use Rattle.ledger_book.specs.Staging.{signed_posting}
use Rattle.ledger_book.specs.declared.staged.TheConstants.{MAX_POSTED}
use Rattle.ledger_book.proofs.Room.{within_credit, within_debit, within_signed, within_larger}
use Rattle.ledger_book.proofs.laws.net_amounts_grow_by_each_posting.Goals as goal

pub returns : goal.returns
returns c = record {
  none = λ a k. record { paid = omega arith; taken = omega arith };
  credit = λ most amount ps a k within fits. within_larger (most + amount) MAX_POSTED (ps ++ credit a k amount ∷ []) a k fits (within_credit most amount ps a k within);
  debit = λ most amount ps a k within fits. within_larger (most + amount) MAX_POSTED (ps ++ debit a k amount ∷ []) a k fits (within_debit most amount ps a k within);
  signed = λ most amount ps a k within fits. within_larger (most + nat_abs amount) MAX_POSTED (ps ++ signed_posting a k amount ∷ []) a k fits (within_signed most amount ps a k within);
}
