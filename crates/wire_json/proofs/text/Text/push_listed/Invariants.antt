use Rattle.std.proofs.Common.{◌≡◌, ◌+◌, ◌*◌, ◌≤◌, ◌++◌, length, take}
use Rattle.wire_json.specs.Members.{listed}
use Rattle.wire_json.proofs.text.Text.push_listed.Given as goal

abbrev pub invariant-loop-place : goal.invariant-loop-place
invariant-loop-place l = record { listed_so_far : l.self ≡ l.fn.self ++ listed (take l.place l.numbers); short : length l.self ≤ length l.fn.self + 21 * l.place }
