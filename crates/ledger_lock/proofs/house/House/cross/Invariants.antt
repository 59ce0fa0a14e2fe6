use Rattle.std.proofs.Common.{◌≡◌}
use Rattle.ledger_lock.proofs.Crossings.{IsAmid}
use Rattle.ledger_lock.proofs.house.House.cross.Given as goal

abbrev pub invariant-loop-turns : goal.invariant-loop-turns
invariant-loop-turns l = record {
  amid : IsAmid l.fn.self.limits l.market l.now l.turns l.fn.self.history l.self.history;
  limits : l.self.limits ≡ l.fn.self.limits;
}
