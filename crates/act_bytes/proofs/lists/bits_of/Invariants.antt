use Rattle.std.proofs.Common.{◌≡◌, ◌-◌}
use Rattle.std.specs.Int.{w32}
use Rattle.act_bytes.specs.Reading.{next_number, next_items}
use Rattle.act_bytes.proofs.Loop.{with_front}
use Rattle.act_bytes.proofs.lists.bits_of.Given as goal

abbrev pub invariant-loop : goal.invariant-loop
invariant-loop l = with_front l.sets.items (next_items (next_number w32) (l.count - l.counter) l.rest) ≡ next_items (next_number w32) l.count l.bytes
