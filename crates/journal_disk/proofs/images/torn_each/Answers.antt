use Rattle.std.proofs.Common.{rules, ap, subst, arith, length, List, ℕ, ◌≡◌, take}
use Rattle.std.proofs.lemmas.List.Elements.{All-append}
use Rattle.journal_disk.specs.Images.{IsTorn}
use Rattle.journal_disk.specs.Memory.{HasFronts}
use Rattle.journal_disk.proofs.Fronts.{fronts-more, first-stays}
use Rattle.journal_disk.proofs.images.torn_each.Goals as goal

pub loop-len-preserved : goal.loop-len-preserved
loop-len-preserved c =
    let whole : c.deref.result.now ≡ c.in_ok-whole.whole.items = search rules in
    rw c.in_ok-append.ensures.items (record {
      all = All-append (IsTorn c.args.at (length c.args.written.now) c.args.before.now) c.loop-len.images.items c.in_ok-torn.torn.items c.loop-len.invariant.all c.in_ok-torn.ensures.all;
      first = first-stays c.loop-len.images.items c.in_ok-torn.torn.items c.args.before.now c.loop-len.invariant.first;
      fronts = fronts-more c.loop-len.len (length c.args.before.now) c.in_ok-whole.whole.items c.loop-len.images.items c.in_ok-torn.torn.items c.loop-len.invariant.fronts
          (rw (ap (take c.loop-len.len) whole) at c.in_ok-torn.ensures.front);
    })

pub returns-clause-fronts : goal.returns-clause-fronts
returns-clause-fronts c =
    subst (λ (bytes : List ℕ). HasFronts (length c.args.before.now) bytes c.loop-len.images.items) c.in_ok-whole.ensures
    (λ len long short. c.loop-len.invariant.fronts len long (let last : c.len-len-end.result ≡ length c.in_ok-whole.whole.items = search rules in omega arith))
