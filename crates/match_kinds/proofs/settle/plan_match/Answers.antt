use Rattle.ledger_book.specs.Ledger.{amount_at}
use Rattle.match_kinds.proofs.settle.plan_match.Goals as goal

pub returns-clause-funded : goal.returns-clause-funded
returns-clause-funded c =
    let held = amount_at c.args.l.now in
    c.in_ok-stage_fees.ensures.funded held (c.in_ok-stage_proceeds.ensures.funded held c.in-Ok.ensures.funded)
