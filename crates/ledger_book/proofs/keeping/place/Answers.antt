use Rattle.std.proofs.Common.{ℕ, List, ap, ◌∙◌, arith}
use Rattle.std.specs.BTreeMap.{BTreeMap}
use Rattle.std.specs.Option.{is_some, unwrap_or}
use Rattle.std.specs.Prelude.{Option}
use Rattle.ledger_book.specs.Ledger.{rows, kept, kept_or_none}
use Rattle.ledger_book.proofs.Rows.{given_back}
use Rattle.ledger_book.proofs.keeping.place.Goals as goal

pub returns-in_err-grow-clause-same : goal.returns-in_err-grow-clause-same
returns-in_err-grow-clause-same c = λ a n. ap (λ (o : Option ℕ). unwrap_or o 0) (c.grow.ensures.same a n)

pub returns-in_err-grow-clause-stays : goal.returns-in_err-grow-clause-stays
returns-in_err-grow-clause-stays c = λ a n there. ap is_some (c.grow.ensures.same a n) ∙ there

pub returns-clause-same : goal.returns-clause-same
returns-clause-same c =
    let after = c.grow.new.accounts in
    let back = given_back after.len c.place_in.new.accounts after.items (omega arith) (omega arith) in
    λ a n.
    ap (λ (ms : List (BTreeMap ℕ ℕ)). kept_or_none (rows ms) a n) back ∙ c.place_in.ensures.same a n
    ∙ ap (λ (ms : List (BTreeMap ℕ ℕ)). kept_or_none (rows ms) a n) c.deref_mut.ensures.value ∙ ap (λ (o : Option ℕ). unwrap_or o 0) (c.grow.ensures.same a n)

pub returns-clause-stays : goal.returns-clause-stays
returns-clause-stays c =
    let after = c.grow.new.accounts in
    let back = given_back after.len c.place_in.new.accounts after.items (omega arith) (omega arith) in
    λ a n there.
    ap (λ (ms : List (BTreeMap ℕ ℕ)). is_some (kept (rows ms) a n)) back
    ∙ c.place_in.ensures.stays a n (ap (λ (ms : List (BTreeMap ℕ ℕ)). is_some (kept (rows ms) a n)) c.deref_mut.ensures.value ∙ ap is_some (c.grow.ensures.same a n) ∙ there)
