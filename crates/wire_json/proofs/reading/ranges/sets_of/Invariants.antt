use Rattle.command_words.specs.Ranges.{is_bits}
use Rattle.wire_json.proofs.Lists.{Passed}
use Rattle.wire_json.proofs.reading.ranges.sets_of.Given as goal

abbrev pub invariant-loop-number : goal.invariant-loop-number
invariant-loop-number l = Passed is_bits l.sets l.number-index l.numbers
