use Rattle.act_bytes.proofs.Putting.{then-puts}
use Rattle.act_bytes.proofs.pieces.put_fill.Goals as goal

pub returns : goal.returns
returns c = rw (← c.get.ensures) (then-puts c.put_u32-end.ensures c.put_u64.ensures)
