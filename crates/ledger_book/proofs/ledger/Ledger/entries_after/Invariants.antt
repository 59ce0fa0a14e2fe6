use Rattle.std.proofs.Common.{◌+◌, ◌≤◌, take}
use Rattle.ledger_book.specs.Entries.{HasEntries, held_after}
use Rattle.ledger_book.specs.Ledger.{amount_at}
use Rattle.ledger_book.proofs.Mixed.{mixed}
use Rattle.ledger_book.proofs.ledger.Ledger.entries_after.Given as goal

abbrev pub invariant-loop-place : goal.invariant-loop-place
invariant-loop-place l = record {
  counted : HasEntries (mixed (amount_at l.self) (held_after (amount_at l.self) l.postings) (take l.place l.postings)) l.entries;
  few : l.entries ≤ l.initial.entries + l.place;
}
