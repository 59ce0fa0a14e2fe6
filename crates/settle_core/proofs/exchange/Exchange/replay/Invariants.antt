use Rattle.std.proofs.Common.{◌≡◌, take}
use Rattle.settle_core.proofs.exchange.Exchange.replay.Given as goal

abbrev pub invariant-loop-act : goal.invariant-loop-act
invariant-loop-act l = record { history : l.exchange.history ≡ take l.act-index l.acts; limits : l.exchange.limits ≡ l.fn.limits }
