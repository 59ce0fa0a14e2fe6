use Rattle.std.proofs.Common.{◌-◌, length, remove, get_or, arith}
use Rattle.std.proofs.lemmas.Slice.{put_mid-rotated}
use Rattle.collection_keys.proofs.Moving.{set_last}
use Rattle.collection_keys.proofs.shifting.take_out.Goals as goal

pub returns : goal.returns
returns c =
    let pairs = c.args.pairs.now in
    let place = c.args.place in
    let turned = put_mid-rotated place (length pairs - place) pairs c.rotate_left.new.self (0, 0) c.requires (omega arith) c.rotate_left.ensures.after in
    rw turned (set_last (remove pairs place) (get_or pairs place (0, 0)) (0, 0))
