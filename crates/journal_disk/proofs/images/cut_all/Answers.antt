use Rattle.std.proofs.Common.{arith, ◌∙◌, length, List, ℕ, min}
use Rattle.journal_disk.specs.Images.{IsCut}
use Rattle.journal_disk.specs.Memory.{HasFronts}
use Rattle.journal_disk.proofs.Fronts.{fronts-each, at_end}
use Rattle.journal_disk.proofs.Listing.{left-more, first-more}
use Rattle.journal_disk.proofs.images.cut_all.Goals as goal

pub loop-before-preserved : goal.loop-before-preserved
loop-before-preserved c =
    let here = c.as_slice.ensures ∙ c.before-item.is in
    let i = c.loop-before.before-index in
    rw c.in_ok-append.ensures.items (record {
      all = left-more (IsCut c.args.len) c.args.images.now _ _ i _ _ c.loop-before-test.true here c.loop-before.invariant.all c.in_ok-each.ensures.all;
      none = λ end. absurd (omega (arith, end));
      first = λ past. first-more c.args.images.now _ _ i _ _ c.loop-before-test.true here c.loop-before.invariant.none c.loop-before.invariant.first c.in_ok-each.ensures.first;
      fronts = fronts-each (λ (before : List ℕ). min c.args.len (length before)) (λ (before : List ℕ). before) c.args.images.now _ _ i _ _ c.loop-before-test.true here c.loop-before.invariant.fronts c.in_ok-each.ensures.fronts;
    })

pub returns-clause-fronts : goal.returns-clause-fronts
returns-clause-fronts c = at_end (λ before. HasFronts (min c.args.len (length before)) before c.loop-before.after.items) c.loop-before.before-index c.args.images.now c.loop-before-test.false c.loop-before.invariant.fronts
