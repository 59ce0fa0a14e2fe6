use Rattle.std.proofs.Common.{◌≡◌, take}
use Rattle.std.specs.Prelude.{All}
use Rattle.condition_sets.specs.Sets.{IsProper}
use Rattle.settle_core.proofs.keys.index_sets.Given as goal

abbrev pub invariant-loop-set : goal.invariant-loop-set
invariant-loop-set l = record { value : l.parts.items ≡ take l.set-index l.sets; proper : All (IsProper l.facts.slots) l.parts.items }
