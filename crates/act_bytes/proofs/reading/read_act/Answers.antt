use Rattle.std.proofs.Common.{arith}
use Rattle.act_bytes.proofs.Unique.{is-spelled, is-none}
use Rattle.act_bytes.proofs.reading.read_act.Goals as goal

pub returns-in-Ok-clause-some : goal.returns-in-Ok-clause-some
returns-in-Ok-clause-some c = is-spelled c.args.bytes.now c.in-Ok.act (λ i. omega (arith, c.type_inv.bytes i)) c.in-Ok.ensures

pub returns-in-Err-NoAct-clause-none : goal.returns-in-Err-NoAct-clause-none
returns-in-Err-NoAct-clause-none c = is-none c.args.bytes.now (rw c.in-Err-NoAct.field-0-is at c.in-Err-NoAct.ensures)
