use Rattle.std.proofs.Common.{refl}
use Rattle.byteorder.specs.Endian.{big_bytes}
use Rattle.act_bytes.specs.Spelling.{sets_bytes}
use Rattle.act_bytes.specs.declared.writing.TheConstants.{MAX_ACT}
use Rattle.act_bytes.proofs.Putting.{room-left}
use Rattle.act_bytes.proofs.pieces.put_sets.Goals as goal

pub put_u32-end-requires : goal.put_u32-end-requires
unfolding sets_bytes
put_u32-end-requires c = room-left (big_bytes 4) 4 MAX_ACT (λ set. refl) c.args.sets.now c.loop-set.set-index c.args.at c.loop-set.end c.loop-set-test.true c.requires.room c.loop-set.invariant.place
