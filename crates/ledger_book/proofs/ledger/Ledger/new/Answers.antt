use Rattle.std.proofs.Common.{rules}
use Rattle.ledger_book.proofs.Counted.{entries_none}
use Rattle.ledger_book.proofs.Held.{sound_none}
use Rattle.ledger_book.proofs.ledger.Ledger.new.Goals as goal

pub invariant_of-result : goal.invariant_of-result
invariant_of-result c = rw (c.new.ensures.items, c.new-2.ensures.empty) (sound_none, search rules, entries_none, search rules)
