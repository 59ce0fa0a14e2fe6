use Rattle.std.proofs.Common.{◌≢◌, ℕ, ◌+◌, ◌-◌, ◌*◌, ◌∙◌, List, [], ◌∷◌, ◌++◌, Option, refl, sym, ap, subst, append_assoc, arith}
use Rattle.std.specs.Prelude.{Err}
use Rattle.std.proofs.lemmas.Result.{err_from_is_err_and}
use Rattle.condition_sets.specs.declared.amount.TheConstants.{MAX_AMOUNT}
use Rattle.ledger_book.specs.Ledger.{amount_at}
use Rattle.ledger_book.specs.Planning.{PlannedBy}
use Rattle.ledger_book.specs.Postings.{credit, debit}
use Rattle.ledger_book.specs.declared.posting.Posting.{Posting}
use Rattle.ledger_book.specs.declared.staged.TheConstants.{MAX_POSTED}
use Rattle.match_kinds.specs.Matching.{IsMaker, maker_fee, paid_asset, taken_asset, taking_by}
use Rattle.match_kinds.proofs.Funding.{front, front_more, funded_more, taker_funded, unfunded_there}
use Rattle.match_kinds.proofs.Room.{within_larger}
use Rattle.match_kinds.proofs.fills.stage_fills.Goals as goal

pub returns-in_err-stage_fill-2-clause-short : goal.returns-in_err-stage_fill-2-clause-short
returns-in_err-stage_fill-2-clause-short c =
    let held = amount_at c.args.l.now in
    let taker = c.args.taker.now in
    let makers = c.args.makers.now in
    let i = c.loop-index.index in
    let m = c.index-makers-index.result in
    let fault = c.in_err-stage_fill-2.field-0.0 in
    let other : m.account ≢ taker.account = (subst (IsMaker taker) (sym c.index-makers-index.is) (c.requires.makers i m c.loop-index-test.true)).other in
    let there = unfunded_there held c.args.market makers taker i m c.loop-index.s.postings c.loop-index-test.true c.index-makers-index.is other c.loop-index.invariant.postings c.loop-index.invariant.so_far (i + 1) fault refl c.in_err-stage_fill-2.ensures.short in
    let first = taker_funded held c.args.market taker makers c.args.s.now.postings c.requires.new c.in_ok-stage_fill.ensures.short in
    let p = err_from_is_err_and c.from_residual-in_err-stage_fill-2.result c.from_residual-in_err-stage_fill-2.ensures.1 in
    rw (p.1, p.2) (subst (λ (o : Option (ℕ × ℕ)). PlannedBy o (Err fault)) (sym first) there)

pub stage_taking-requires-clause-within : goal.stage_taking-requires-clause-within
stage_taking-requires-clause-within c =
    let most : ℕ = MAX_AMOUNT + c.loop-index.index * (2 * MAX_AMOUNT) in
    within_larger (most + c.index-makers-index.result.fill) (MAX_POSTED - MAX_AMOUNT) c.stage_fill-in-loop-index.new.s.postings (omega (arith, c.in_ok-stage_fill-2.ensures.amount)) (c.in_ok-stage_fill-2.ensures.within most c.loop-index.invariant.within)

pub loop-index-preserved : goal.loop-index-preserved
loop-index-preserved c =
    let held = amount_at c.args.l.now in
    let market = c.args.market in
    let taker = c.args.taker.now in
    let makers = c.args.makers.now in
    let i = c.loop-index.index in
    let m = c.index-makers-index.result in
    let most : ℕ = MAX_AMOUNT + i * (2 * MAX_AMOUNT) in
    let other : m.account ≢ taker.account = (subst (IsMaker taker) (sym c.index-makers-index.is) (c.requires.makers i m c.loop-index-test.true)).other in
    let first : Posting = debit taker.account (paid_asset market taker) taker.fill in
    let paid : Posting = debit m.account (paid_asset market m) m.fill in
    let got : Posting = credit m.account (taken_asset market m) (taking_by m - maker_fee m) in
    record {
      postings =
          c.in_ok-stage_taking.ensures.ok
          ∙ ap (λ (ps : List Posting). ps ++ got ∷ []) c.in_ok-stage_fill-2.ensures.ok
          ∙ ap (λ (ps : List Posting). (ps ++ paid ∷ []) ++ got ∷ []) c.loop-index.invariant.postings
          ∙ append_assoc (first ∷ front held market makers i) (paid ∷ []) (got ∷ [])
          ∙ ap (λ (ps : List Posting). first ∷ ps) (front_more held market makers i m c.loop-index-test.true c.index-makers-index.is);
      vault = c.in_ok-stage_taking.ensures.vault ∙ c.in_ok-stage_fill-2.ensures.vault ∙ c.loop-index.invariant.vault;
      so_far = funded_more held market makers taker i m c.loop-index.s.postings c.loop-index-test.true c.index-makers-index.is other c.loop-index.invariant.postings c.loop-index.invariant.so_far (i + 1) c.in_ok-stage_fill-2.ensures.short;
      funded = c.in_ok-stage_taking.ensures.funded held c.in_ok-stage_fill-2.ensures.funded;
      within = within_larger (most + m.fill + MAX_AMOUNT) (MAX_AMOUNT + (i + 1) * (2 * MAX_AMOUNT)) c.stage_taking.new.s.postings (omega (arith, c.in_ok-stage_fill-2.ensures.amount)) (c.in_ok-stage_taking.ensures.within (most + m.fill) (c.in_ok-stage_fill-2.ensures.within most c.loop-index.invariant.within));
    }
