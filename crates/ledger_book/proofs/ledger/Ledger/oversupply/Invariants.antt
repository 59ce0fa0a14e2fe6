use Rattle.std.proofs.Common.{◌≡◌, drop}
use Rattle.std.specs.Prelude.{None}
use Rattle.ledger_book.specs.Ledger.{supply_at}
use Rattle.ledger_book.specs.Staging.{is_above_supply, least_from}
use Rattle.ledger_book.proofs.ledger.Ledger.oversupply.Given as goal

abbrev pub invariant-loop-posting : goal.invariant-loop-posting
invariant-loop-posting l =
    least_from (is_above_supply (supply_at l.self) l.postings) l.least (drop l.posting-index l.postings)
    ≡ least_from (is_above_supply (supply_at l.self) l.postings) None l.postings
