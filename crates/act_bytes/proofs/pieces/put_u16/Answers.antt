use Rattle.std.proofs.Common.{◌-◌, ◌+◌, refl, arith}
use Rattle.byteorder.specs.Endian.{big_bytes}
use Rattle.act_bytes.proofs.Putting.{puts}
use Rattle.act_bytes.proofs.pieces.put_u16.Goals as goal

pub returns : goal.returns
returns c = puts c.args.at (512 - c.args.at) c.args.into.now (big_bytes 2 c.args.n) _ c.write_u16.new.buf (c.args.at + 2) (omega arith) c.write_u16.ensures refl
