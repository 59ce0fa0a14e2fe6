use Rattle.std.proofs.Common.{List, ℕ, ◌∙◌, ap, arith}
use Rattle.std.specs.BTreeMap.{BTreeMap}
use Rattle.ledger_book.specs.Ledger.{rows, kept}
use Rattle.ledger_book.proofs.Rows.{kept_grown}
use Rattle.ledger_book.proofs.keeping.grow.Goals as goal

pub loop-account-preserved : goal.loop-account-preserved
loop-account-preserved c = record {
  same = λ a n. ap (λ (ms : List (BTreeMap ℕ ℕ)). kept (rows ms) a n) c.in_ok-push.ensures.items ∙ kept_grown c.loop-account.accounts.items c.new-amounts.result c.new-amounts.ensures.empty a n ∙ c.loop-account.invariant.same a n;
  longer = omega (arith, c.loop-account.invariant.longer, c.in_ok-push.ensures.len);
}

pub returns-in_err-push-clause-same : goal.returns-in_err-push-clause-same
returns-in_err-push-clause-same c = λ a n. ap (λ (ms : List (BTreeMap ℕ ℕ)). kept (rows ms) a n) c.in_err-push.ensures.items ∙ c.loop-account.invariant.same a n
