use Rattle.std.proofs.Common.{arith, ◌∙◌, length, List, ℕ}
use Rattle.std.specs.Prelude.{Contains}
use Rattle.journal_disk.specs.Images.{IsTorn, overlaid}
use Rattle.journal_disk.specs.Memory.{HasFronts}
use Rattle.journal_disk.proofs.Fronts.{same-more, fronts-each, at_end}
use Rattle.journal_disk.proofs.Listing.{left-more, first-more}
use Rattle.journal_disk.proofs.images.torn_all.Goals as goal

pub loop-before-preserved : goal.loop-before-preserved
loop-before-preserved c =
    let here = c.as_slice.ensures ∙ c.before-item.is in
    let i = c.loop-before.before-index in
    rw c.in_ok-append.ensures.items (record {
      all = left-more (IsTorn c.args.at (length c.args.written.now)) c.args.images.now _ _ i _ _ c.loop-before-test.true here c.loop-before.invariant.all c.in_ok-each.ensures.all;
      none = λ end. absurd (omega (arith, end));
      first = λ past. first-more c.args.images.now _ _ i _ _ c.loop-before-test.true here c.loop-before.invariant.none c.loop-before.invariant.first c.in_ok-each.ensures.first;
      same = same-more c.args.images.now _ _ i _ _ c.loop-before-test.true here c.loop-before.invariant.same c.in_ok-each.ensures.first;
      fronts = fronts-each (λ (before : List ℕ). length before) (λ (before : List ℕ). overlaid c.args.at c.args.written.now before) c.args.images.now _ _ i _ _ c.loop-before-test.true here c.loop-before.invariant.fronts c.in_ok-each.ensures.fronts;
    })

pub returns-clause-same : goal.returns-clause-same
returns-clause-same c = at_end (Contains c.loop-before.after.items) c.loop-before.before-index c.args.images.now c.loop-before-test.false c.loop-before.invariant.same

pub returns-clause-fronts : goal.returns-clause-fronts
returns-clause-fronts c = at_end (λ before. HasFronts (length before) (overlaid c.args.at c.args.written.now before) c.loop-before.after.items) c.loop-before.before-index c.args.images.now c.loop-before-test.false c.loop-before.invariant.fronts
