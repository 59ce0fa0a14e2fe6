use Rattle.std.proofs.Common.{◌≡◌, ◌-◌, [], length, drop, arith, length-drop}
use Rattle.std.proofs.lemmas.List.{take_rest, append-nil, drop_all}
use Rattle.collection_keys.proofs.Moving.{set-moved}
use Rattle.collection_keys.proofs.shifting.put_at.Goals as goal

pub returns : goal.returns
returns c =
    let pairs = c.args.pairs.now in
    let place = c.args.place in
    let past : drop (length pairs - place) (drop place pairs) ≡ []
    = drop_all (length pairs - place) (drop place pairs) (omega (arith, length-drop place pairs)) in
    rw (c.rotate_right.ensures.after, take_rest pairs place, past, append-nil) (set-moved pairs place c.args.pair c.requires)
