use Rattle.std.proofs.Common.{◌-◌, ◌+◌, refl, arith}
use Rattle.byteorder.specs.Endian.{big_bytes}
use Rattle.act_bytes.proofs.Putting.{puts}
use Rattle.act_bytes.proofs.pieces.put_u32.Goals as goal

pub returns : goal.returns
returns c = puts c.args.at (512 - c.args.at) c.args.into.now (big_bytes 4 c.args.n) _ c.write_u32.new.buf (c.args.at + 4) (omega arith) c.write_u32.ensures refl
