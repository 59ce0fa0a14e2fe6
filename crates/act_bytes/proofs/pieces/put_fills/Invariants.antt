use Rattle.std.proofs.Common.{◌∷◌, length, take}
use Rattle.std.specs.List.{flat_map}
use Rattle.act_bytes.specs.Spelling.{fill_bytes}
use Rattle.act_bytes.specs.Puts.{Puts}
use Rattle.act_bytes.proofs.pieces.put_fills.Given as goal

abbrev pub invariant-loop-maker : goal.invariant-loop-maker
invariant-loop-maker l = Puts l.fn.into l.fn.at (length l.fills ∷ flat_map fill_bytes (take l.maker-index l.fills)) l.into l.end
