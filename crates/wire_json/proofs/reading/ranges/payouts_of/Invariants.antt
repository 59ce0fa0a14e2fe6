use Rattle.command_words.specs.Ranges.{is_payout}
use Rattle.wire_json.proofs.Lists.{Passed}
use Rattle.wire_json.proofs.reading.ranges.payouts_of.Given as goal

abbrev pub invariant-loop-number : goal.invariant-loop-number
invariant-loop-number l = Passed is_payout l.payouts l.number-index l.numbers
