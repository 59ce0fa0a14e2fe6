use Rattle.std.proofs.Common.{arith, take}
use Rattle.std.proofs.lemmas.List.{length-take}
use Rattle.std.proofs.lemmas.Slice.Zip.{AllZip-long}
use Rattle.act_bytes.specs.Spelling.{Spells}
use Rattle.exchange_top.proofs.storing.spell_all.Goals as goal

pub put-requires-clause-room : goal.put-requires-clause-room
put-requires-clause-room c =
    let acts = c.args.acts.now in
    omega (arith, AllZip-long Spells c.loop-act.batch (take c.loop-act.act-index acts) c.loop-act.invariant, length-take c.loop-act.act-index acts)
