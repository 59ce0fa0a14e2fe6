use Rattle.std.proofs.Common.{◌∷◌, length, take}
use Rattle.std.specs.List.{flat_map}
use Rattle.byteorder.specs.Endian.{big_bytes}
use Rattle.act_bytes.specs.Puts.{Puts}
use Rattle.act_bytes.proofs.pieces.put_sets.Given as goal

abbrev pub invariant-loop-set : goal.invariant-loop-set
invariant-loop-set l = Puts l.fn.into l.fn.at (length l.sets ∷ flat_map (big_bytes 4) (take l.set-index l.sets)) l.into l.end
