use Rattle.std.proofs.Common.{◌≡◌, ◌<◌, ◌==◌, ◌&&◌, ℕ, false, length, Some, None, sym, ◌∙◌, subst}
use Rattle.std.specs.Prelude.{slice_set}
use Rattle.ledger_book.specs.Ledger.{rows, kept}
use Rattle.ledger_book.proofs.Rows.{kept_read, kept_written, kept_others, kept_unchanged}
use Rattle.ledger_book.proofs.keeping.keep.Goals as goal

pub returns-in-Ok-clause-here : goal.returns-in-Ok-clause-here
returns-in-Ok-clause-here c =
    let at = c.from.ensures ∙ c.account.view_is in
    let fits = subst (λ (i : ℕ). i < length c.args.accounts.now) (sym at) c.requires in
    let written = kept_written c.args.accounts.now c.from.result c.args.number c.insert.new.self fits ∙ c.in-Ok.ensures.updates.1 in
    subst (λ (i : ℕ). kept (rows (slice_set c.args.accounts.now c.from.result c.insert.new.self)) i c.args.number ≡ Some c.args.amount) at written

pub returns-in-Ok-clause-other : goal.returns-in-Ok-clause-other
returns-in-Ok-clause-other c =
    let at = c.from.ensures ∙ c.account.view_is in
    let fits = subst (λ (i : ℕ). i < length c.args.accounts.now) (sym at) c.requires in
    λ a n apart. kept_others c.args.accounts.now c.from.result c.args.number c.index-accounts-from.result c.insert.new.self fits c.in-Ok.ensures.updates.2 a n
    (subst (λ (i : ℕ). ((a == i) && (n == c.args.number)) ≡ false) (sym at) apart)

pub returns-in-Err-clause-other : goal.returns-in-Err-clause-other
returns-in-Err-clause-other c =
    let fits = subst (λ (i : ℕ). i < length c.args.accounts.now) (sym (c.from.ensures ∙ c.account.view_is)) c.requires in
    λ a n apart. kept_unchanged c.args.accounts.now c.from.result c.index-accounts-from.result c.insert.new.self fits c.in-Err.ensures.err a n

pub returns-in-Err-clause-err : goal.returns-in-Err-clause-err
returns-in-Err-clause-err c =
    let fits = subst (λ (i : ℕ). i < length c.args.accounts.now) (sym (c.from.ensures ∙ c.account.view_is)) c.requires in
    λ a n. kept_unchanged c.args.accounts.now c.from.result c.index-accounts-from.result c.insert.new.self fits c.in-Err.ensures.err a n

pub returns-in-Err-clause-absent : goal.returns-in-Err-clause-absent
returns-in-Err-clause-absent c =
    let at = c.from.ensures ∙ c.account.view_is in
    let fits = subst (λ (i : ℕ). i < length c.args.accounts.now) (sym at) c.requires in
    let none = kept_read c.args.accounts.now c.from.result c.args.number c.index-accounts-from.result fits ∙ c.in-Err.ensures.absent in
    subst (λ (i : ℕ). kept (rows c.args.accounts.now) i c.args.number ≡ None) at none
