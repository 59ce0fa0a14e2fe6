use Rattle.std.proofs.Common.{take}
use Rattle.exchange_top.specs.Holds.{SpellAll}
use Rattle.exchange_top.proofs.storing.spell_all.Given as goal

abbrev pub invariant-loop-act : goal.invariant-loop-act
invariant-loop-act l = SpellAll l.batch (take l.act-index l.acts)
