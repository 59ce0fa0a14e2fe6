use Rattle.std.proofs.Common.{◌≡◌, take}
use Rattle.settle_core.specs.Matches.{parts_in}
use Rattle.settle_core.specs.Orders.{placed}
use Rattle.settle_core.proofs.exchange.Exchange.parts_of.Given as goal

abbrev pub invariant-loop-maker : goal.invariant-loop-maker
invariant-loop-maker l = l.parts.items ≡ parts_in (placed l.self.history) (take l.maker-index l.makers)
