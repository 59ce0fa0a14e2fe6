use Rattle.std.proofs.Common.{◌+◌, ◌*◌, ◌∙◌, ap, arith, ℕ}
use Rattle.collection_keys.specs.Collections.{Pairs}
use Rattle.condition_sets.specs.declared.amount.TheConstants.{MAX_AMOUNT}
use Rattle.condition_sets.specs.declared.names.TheConstants.{OPERATOR}
use Rattle.ledger_book.specs.Postings.{credit}
use Rattle.match_kinds.specs.Matching.{maker_fee, taken_asset}
use Rattle.match_kinds.specs.declared.part.Part.{Part}
use Rattle.match_kinds.proofs.Room.{posted_more, within_larger}
use Rattle.match_kinds.proofs.proceeds.stage_fees.Goals as goal

pub loop-maker-preserved : goal.loop-maker-preserved
loop-maker-preserved c =
    let m = c.maker-item.result in
    let i = c.loop-maker.maker-index in
    let before = c.loop-maker.s.postings in
    let post = λ (x : Part). credit OPERATOR (taken_asset c.args.market x) (maker_fee x) in
    let same = ap (λ (k : Pairs). credit OPERATOR k c.maker_fee.result) c.taken_asset-asset.ensures ∙ ap (λ (n : ℕ). credit OPERATOR (taken_asset c.args.market m) n) c.maker_fee.ensures.value in
    record {
      postings = posted_more post c.args.s.now.postings before _ c.args.makers.now i m (credit OPERATOR c.taken_asset-asset.result c.maker_fee.result) c.loop-maker-test.true c.maker-item.is same (ap (λ s. s.postings) c.in_ok-credit.ensures.ok) c.loop-maker.invariant.postings;
      vault = ap (λ s. s.vault) c.in_ok-credit.ensures.ok ∙ c.loop-maker.invariant.vault;
      funded = λ held funded. c.in_ok-credit.ensures.funded held (c.loop-maker.invariant.funded held funded);
      within = within_larger _ _ c.credit.new.self.postings (omega (arith, c.maker_fee.ensures.amount)) (c.in_ok-credit.ensures.within ((66 + i) * MAX_AMOUNT) c.loop-maker.invariant.within);
    }

pub returns-clause-funded : goal.returns-clause-funded
returns-clause-funded c held funded = c.in_ok-credit-2.ensures.funded held (c.loop-maker.invariant.funded held funded)
