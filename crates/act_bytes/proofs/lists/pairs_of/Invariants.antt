use Rattle.std.proofs.Common.{◌≡◌, ◌-◌}
use Rattle.act_bytes.specs.Reading.{next_pair, next_items}
use Rattle.act_bytes.proofs.Loop.{with_front}
use Rattle.act_bytes.proofs.lists.pairs_of.Given as goal

abbrev pub invariant-loop : goal.invariant-loop
invariant-loop l = with_front l.pairs.items (next_items next_pair (l.count - l.counter) l.rest) ≡ next_items next_pair l.count l.bytes
