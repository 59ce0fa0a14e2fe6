use Rattle.std.proofs.Common.{take}
use Rattle.exchange_top.proofs.Recoveries.{spell-more}
use Rattle.exchange_top.proofs.storing.put.Goals as goal

pub returns : goal.returns
returns c = λ acts all. rw c.push.ensures (spell-more c.args.batch.now acts (take c.write_act-len.result c.write_act-len.new.into) c.args.act.now all c.write_act-len.ensures.spells)
