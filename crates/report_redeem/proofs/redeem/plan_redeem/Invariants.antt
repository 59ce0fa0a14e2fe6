use Rattle.std.proofs.Common.{◌≡◌, ◌*◌, take}
use Rattle.condition_sets.specs.declared.amount.TheConstants.{MAX_AMOUNT}
use Rattle.ledger_book.specs.Ledger.{amount_at}
use Rattle.ledger_book.specs.Postings.{AreWithin, IsFunded}
use Rattle.report_redeem.specs.Redeeming.{redeem_postings, redeem_sums}
use Rattle.report_redeem.proofs.redeem.plan_redeem.Given as goal

abbrev pub invariant-loop-set : goal.invariant-loop-set
invariant-loop-set l = record {
  postings : l.s.postings ≡ redeem_postings (amount_at l.l) l.a l.parent l.c l.numerators (take l.set-index l.sets);
  paid : l.paid ≡ redeem_sums (amount_at l.l) l.a l.parent l.c l.numerators (take l.set-index l.sets);
  vault : l.s.vault ≡ l.fn.s.vault;
  funded : IsFunded (amount_at l.l) l.s.postings;
  within : AreWithin (l.set-index * (2 * MAX_AMOUNT)) l.s.postings;
}
