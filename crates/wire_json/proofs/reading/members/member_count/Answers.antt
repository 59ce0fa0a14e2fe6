use Rattle.std.proofs.Common.{sym, ◌∙◌, ap}
use Rattle.wire_json.specs.Kinds.{count_in}
use Rattle.wire_json.proofs.Lists.{count_of-members_view}
use Rattle.wire_json.proofs.reading.members.member_count.Goals as goal

pub returns-in-Some : goal.returns-in-Some
returns-in-Some c = c.len.ensures.len ∙ (sym (count_of-members_view c.in-Some.members.now.entries) ∙ ap count_in c.in-Some.ensures)
