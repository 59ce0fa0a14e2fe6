use Rattle.std.proofs.Common.{◌∙◌, ℕ, ◌+◌, ◌*◌, ◌++◌, ◌∷◌, [], arith, ap, take}
use Rattle.condition_sets.specs.declared.amount.TheConstants.{MAX_AMOUNT}
use Rattle.ledger_book.specs.Ledger.{amount_at}
use Rattle.report_redeem.proofs.Redemptions.{posted_more, paid_more, unpaid}
use Rattle.report_redeem.proofs.Room.{within_larger}
use Rattle.report_redeem.proofs.redeem.plan_redeem.Goals as goal

pub redeem_one-requires-clause-unpaid : goal.redeem_one-requires-clause-unpaid
redeem_one-requires-clause-unpaid c =
    rw c.loop-set.invariant.postings
    (unpaid (amount_at c.args.l.now) c.args.a c.args.parent.now c.args.c c.args.numerators.now (take c.loop-set.set-index c.args.sets.now) c.args.a c.set-item.result c.requires.free)

pub loop-set-preserved : goal.loop-set-preserved
loop-set-preserved c =
    let held = amount_at c.args.l.now in
    let a = c.args.a in
    let parent = c.args.parent.now in
    let ns = c.args.numerators.now in
    let sets = c.args.sets.now in
    let i = c.loop-set.set-index in
    let set = c.set-item.result in
    let ps = c.loop-set.s.postings in
    let most = i * (2 * MAX_AMOUNT) in
    let posted = posted_more held a parent c.args.c ns sets i set ps c.loop-set-test.true c.set-item.is c.loop-set.invariant.postings in
    let paid = paid_more held a parent c.args.c ns sets i set ps c.loop-set-test.true c.set-item.is c.loop-set.invariant.postings c.loop-set.paid c.loop-set.invariant.paid in
    record {
      postings = c.in_ok-redeem_one.ensures.postings ∙ posted;
      paid = c.in_ok-push.ensures.ok ∙ ap (λ (n : ℕ). c.loop-set.paid ++ n ∷ []) c.in_ok-redeem_one.ensures.paid ∙ paid;
      vault = c.in_ok-redeem_one.ensures.vault ∙ c.loop-set.invariant.vault;
      funded = c.in_ok-redeem_one.ensures.funded;
      within = within_larger (most + 2 * MAX_AMOUNT) ((i + 1) * (2 * MAX_AMOUNT)) c.redeem_one.new.s.postings (omega arith) (c.in_ok-redeem_one.ensures.within most c.loop-set.invariant.within);
    }
