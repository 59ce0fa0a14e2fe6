use Rattle.std.proofs.Common.{◌∷◌, length, take}
use Rattle.std.specs.List.{flat_map}
use Rattle.act_bytes.specs.Spelling.{pair_bytes}
use Rattle.act_bytes.specs.Puts.{Puts}
use Rattle.act_bytes.proofs.pieces.put_key.Given as goal

abbrev pub invariant-loop-pair : goal.invariant-loop-pair
invariant-loop-pair l = Puts l.fn.into l.fn.at (length l.key ∷ flat_map pair_bytes (take l.pair-index l.key)) l.into l.end
