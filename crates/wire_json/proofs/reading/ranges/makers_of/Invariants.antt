use Rattle.command_words.specs.Ranges.{is_fill}
use Rattle.wire_json.proofs.Lists.{Passed}
use Rattle.wire_json.proofs.reading.ranges.makers_of.Given as goal

abbrev pub invariant-loop-pair : goal.invariant-loop-pair
invariant-loop-pair l = Passed is_fill l.makers l.pair-index l.pairs
