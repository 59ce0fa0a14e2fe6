use Rattle.std.proofs.Common.{◌≡◌, length, arith}
use Rattle.event_table.proofs.Questions.{distinct-numbers_from, length-numbers_from}
use Rattle.event_table.proofs.events.Events.make.Goals as goal

pub new-requires-clause-some : goal.new-requires-clause-some
new-requires-clause-some c =
    let prepared = c.prepare-prepared.result in
    let count : length prepared.items ≡ c.args.questions = rw c.prepare-prepared.ensures.list (length-numbers_from _ _) in
    omega (arith, prepared.ok)

pub new-requires-clause-few : goal.new-requires-clause-few
new-requires-clause-few c =
    let prepared = c.prepare-prepared.result in
    let count : length prepared.items ≡ c.args.questions = rw c.prepare-prepared.ensures.list (length-numbers_from _ _) in
    omega (arith, prepared.ok)

pub new-requires-clause-distinct : goal.new-requires-clause-distinct
new-requires-clause-distinct c = rw c.prepare-prepared.ensures.list (distinct-numbers_from _ _)
