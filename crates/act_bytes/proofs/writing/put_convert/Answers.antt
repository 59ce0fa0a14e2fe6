use Rattle.act_bytes.proofs.Putting.{then-puts}
use Rattle.act_bytes.proofs.writing.put_convert.Goals as goal

pub returns : goal.returns
returns c = rw (← c.get.ensures.value) (then-puts (then-puts c.put_u16-end.ensures c.put_u32-end.ensures) c.put_u64.ensures)
