use Rattle.std.proofs.Common.{◌≡◌, ◌≤◌, ◌++◌, length, take}
use Rattle.std.specs.Map.{keys_of}
use Rattle.collection_keys.specs.Collections.{Pairs}
use Rattle.ledger_book.specs.Ledger.{supply_in}
use Rattle.ledger_book.proofs.naming.number_all.Given as goal

abbrev pub invariant-loop-collection : goal.invariant-loop-collection
invariant-loop-collection l = record {
  front : take (length l.fn.supplies.entries) l.supplies.entries ≡ l.fn.supplies.entries;
  longer : length l.fn.supplies.entries ≤ length l.supplies.entries;
  same : (k : Pairs) → supply_in l.supplies.entries k ≡ supply_in l.fn.supplies.entries k;
  names : keys_of l.supplies.entries ≡ keys_of l.fn.supplies.entries ++ take l.collection-index l.coming;
}
