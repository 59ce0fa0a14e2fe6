use Rattle.std.proofs.Common.{arith}
use Rattle.std.proofs.lemmas.Bool.Decides.{nat_tests}
use Rattle.journal_store.proofs.Cutting.{payload-room, front-more, front-broken}
use Rattle.journal_store.proofs.payload.count_payloads.Goals as goal

pub returns-in-None-clause-none : goal.returns-in-None-clause-none
returns-in-None-clause-none c = front-broken c.loop-rest.count c.args.bytes.now c.loop-rest.rest.now c.loop-rest.invariant.front (grind (arith, nat_tests, c.loop-rest-test.ensures)) c.in-None.ensures.none

pub loop-rest-smaller : goal.loop-rest-smaller
loop-rest-smaller c = omega (arith, payload-room c.loop-rest.rest.now _ c.in-Some.behind.now c.in-Some.ensures.bytes)

pub loop-rest-preserved : goal.loop-rest-preserved
loop-rest-preserved c = record {
  front = front-more c.loop-rest.count c.args.bytes.now c.loop-rest.rest.now _ c.in-Some.behind.now c.loop-rest.invariant.front c.in-Some.ensures.some c.in-Some.ensures.bytes;
  few = omega (arith, c.loop-rest.invariant.few, payload-room c.loop-rest.rest.now _ c.in-Some.behind.now c.in-Some.ensures.bytes);
}
