use Rattle.std.proofs.Common.{◌≡◌, ℕ, Some, sym, ◌∙◌}
use Rattle.ledger_book.specs.Ledger.{rows, kept}
use Rattle.ledger_book.proofs.Given.{is_none}
use Rattle.ledger_book.proofs.Rows.{either, made-same, made-stays}
use Rattle.ledger_book.proofs.keeping.place_in.Goals as goal

pub returns-clause-same : goal.returns-clause-same
returns-clause-same c =
    let rs = rows c.args.accounts.now in
    let next = rows c.keep.new.accounts in
    let none = sym c.kept.ensures ∙ is_none c.kept.result (sym c.is_some.ensures ∙ c.if-is_some.false) in
    made-same rs next c.args.account c.args.number c.keep.ensures.other none
    (either c.keep.result (kept next c.args.account c.args.number ≡ Some 0) ((b j : ℕ) → kept next b j ≡ kept rs b j) c.keep.ensures.here c.keep.ensures.err)

pub returns-clause-stays : goal.returns-clause-stays
returns-clause-stays c =
    let rs = rows c.args.accounts.now in
    let next = rows c.keep.new.accounts in
    let none = sym c.kept.ensures ∙ is_none c.kept.result (sym c.is_some.ensures ∙ c.if-is_some.false) in
    made-stays rs next c.args.account c.args.number c.keep.ensures.other none
    (either c.keep.result (kept next c.args.account c.args.number ≡ Some 0) ((b j : ℕ) → kept next b j ≡ kept rs b j) c.keep.ensures.here c.keep.ensures.err)
