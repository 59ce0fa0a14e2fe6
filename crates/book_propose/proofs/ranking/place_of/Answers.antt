use Rattle.std.proofs.Common.{◌≡◌, length, true, sym, ◌∙◌, ap, arith}
use Rattle.std.proofs.lemmas.List.Sums.{position_or_len_is}
use Rattle.book_propose.specs.Pricing.{comes_before}
use Rattle.book_propose.proofs.ranking.place_of.Goals as goal

pub returns-then-comes_before-clause-value : goal.returns-then-comes_before-clause-value
returns-then-comes_before-clause-value c =
    let before = comes_before c.args.side c.args.candidate.now in
    let other = c.index-others-index.result in
    let first : before other ≡ true = cc in
    sym (position_or_len_is before c.args.others.now c.loop-index.index other (omega arith) (λ k h. c.loop-index.invariant k other (omega arith) h) (λ h. ap before (sym c.index-others-index.is) ∙ first))

pub returns-clause-value : goal.returns-clause-value
returns-clause-value c =
    let before = comes_before c.args.side c.args.candidate.now in
    sym (position_or_len_is before c.args.others.now (length c.args.others.now) c.args.candidate.now (omega arith) (λ k h. c.loop-index.invariant k c.args.candidate.now (omega arith) (omega arith)) (λ h. absurd (omega arith)))
