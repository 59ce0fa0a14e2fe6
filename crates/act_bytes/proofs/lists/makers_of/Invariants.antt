use Rattle.std.proofs.Common.{◌≡◌, ◌-◌}
use Rattle.act_bytes.specs.Reading.{next_fill, next_items}
use Rattle.act_bytes.proofs.Loop.{with_front}
use Rattle.act_bytes.proofs.lists.makers_of.Given as goal

abbrev pub invariant-loop : goal.invariant-loop
invariant-loop l = with_front l.makers.items (next_items next_fill (l.count - l.counter) l.rest) ≡ next_items next_fill l.count l.bytes
