use Rattle.std.proofs.Common.{◌≡◌, take}
use Rattle.std.specs.Map.{keys_of}
use Rattle.ledger_book.proofs.Movements.{AreSuppliesCarried}
use Rattle.ledger_book.proofs.carrying.supply_all.Given as goal

abbrev pub invariant-loop-place : goal.invariant-loop-place
invariant-loop-place l = record {
  carried : AreSuppliesCarried l.fn.supplies.entries l.supplies.entries l.postings (take l.place l.postings);
  names : keys_of l.supplies.entries ≡ keys_of l.fn.supplies.entries;
}
