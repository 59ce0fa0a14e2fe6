use Rattle.std.proofs.lemmas.Result.{err_from_is_err_and}
use Rattle.std.specs.Int.{w32}
use Rattle.act_bytes.specs.Reading.{next_number, next_items}
use Rattle.act_bytes.proofs.Loop.{goes_on, ends, is_done}
use Rattle.act_bytes.proofs.lists.bits_of.Goals as goal

pub returns-in_err-set : goal.returns-in_err-set
returns-in_err-set c =
    let p = err_from_is_err_and c.from_residual.result c.from_residual.ensures.1 in
    rw (p.1, p.2) (ends (next_number w32) c.in_err-set.field-0.0 c.loop.sets.items c.args.count c.loop.counter c.loop.rest.now (next_items (next_number w32) c.args.count c.args.bytes.now) c.loop-test.true c.in_err-set.ensures c.loop.invariant)

pub loop-preserved : goal.loop-preserved
loop-preserved c =
    rw c.in_ok-push.ensures.items (goes_on (next_number w32) c.loop.sets.items c.args.count c.loop.counter c.loop.rest.now c.in_ok-set.set c.in_ok-set.after.now (next_items (next_number w32) c.args.count c.args.bytes.now) c.loop-test.true c.in_ok-set.ensures c.loop.invariant)

pub returns : goal.returns
returns c = is_done (next_number w32) c.loop.sets.items c.args.count c.loop.counter c.loop.rest.now (next_items (next_number w32) c.args.count c.args.bytes.now) c.loop-test.false c.loop.invariant
