use Rattle.std.proofs.Common.{ap}
use Rattle.wire_json.specs.Request.{of_kind}
use Rattle.wire_json.proofs.Lists.{two_in-few, two_in-many}
use Rattle.wire_json.proofs.reading.lists.two_in.Goals as goal

pub returns-in_default : goal.returns-in_default
returns-in_default c = ap of_kind (two_in-few _ c.in_default.len_below)

pub returns-in_default-2 : goal.returns-in_default-2
returns-in_default-2 c = ap of_kind (two_in-many _ c.in_default.len_at_least)
