use Rattle.std.proofs.Common.{◌≡◌, ◌+◌, [], take, drop}
use Rattle.settle_core.specs.OrderRules.{repeated_from}
use Rattle.settle_core.proofs.rules.first_repeated.Given as goal

abbrev pub invariant-loop-index : goal.invariant-loop-index
invariant-loop-index l = repeated_from [] 1 l.makers ≡ repeated_from (take l.index l.makers) (l.index + 1) (drop l.index l.makers)
