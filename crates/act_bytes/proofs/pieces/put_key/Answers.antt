use Rattle.std.proofs.Common.{◌+◌, ◌≤◌, refl, arith}
use Rattle.act_bytes.specs.Spelling.{pair_bytes, key_bytes}
use Rattle.act_bytes.specs.declared.writing.TheConstants.{MAX_ACT}
use Rattle.act_bytes.proofs.Putting.{room-left}
use Rattle.act_bytes.proofs.pieces.put_key.Goals as goal

pub put_u16-end-requires : goal.put_u16-end-requires
unfolding key_bytes
put_u16-end-requires c =
    let room : c.loop-pair.end + 6 ≤ MAX_ACT = room-left pair_bytes 6 MAX_ACT (λ p. refl) c.args.key.now c.loop-pair.pair-index c.args.at c.loop-pair.end c.loop-pair-test.true c.requires.room c.loop-pair.invariant.place in
    omega arith

pub put_u32-end-requires : goal.put_u32-end-requires
unfolding key_bytes
put_u32-end-requires c =
    let room : c.loop-pair.end + 6 ≤ MAX_ACT = room-left pair_bytes 6 MAX_ACT (λ p. refl) c.args.key.now c.loop-pair.pair-index c.args.at c.loop-pair.end c.loop-pair-test.true c.requires.room c.loop-pair.invariant.place in
    omega (arith, c.put_u16-end.ensures.place)
