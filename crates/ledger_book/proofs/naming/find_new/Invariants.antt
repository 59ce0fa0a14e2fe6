use Rattle.std.proofs.Common.{◌≡◌, drop}
use Rattle.std.specs.Map.{keys_of}
use Rattle.ledger_book.specs.Naming.{named_from, new_names}
use Rattle.ledger_book.proofs.naming.find_new.Given as goal

abbrev pub invariant-loop-posting : goal.invariant-loop-posting
invariant-loop-posting l =
    named_from (keys_of l.supplies.entries) l.postings l.coming.items (drop l.posting-index l.postings) ≡ new_names (keys_of l.supplies.entries) l.postings
