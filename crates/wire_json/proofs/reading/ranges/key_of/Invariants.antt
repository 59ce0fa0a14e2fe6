use Rattle.command_words.specs.Ranges.{is_pair}
use Rattle.wire_json.proofs.Lists.{Passed}
use Rattle.wire_json.proofs.reading.ranges.key_of.Given as goal

abbrev pub invariant-loop-pair : goal.invariant-loop-pair
invariant-loop-pair l = Passed is_pair l.key l.pair-index l.pairs
