use Rattle.std.proofs.Common.{rules, arith, ◌≡◌, ℕ, ◌∷◌, [], take, length, min, subst}
use Rattle.journal_disk.specs.Memory.{HasFronts}
use Rattle.journal_disk.proofs.Fronts.{first-stays, fronts-push, fronts-whole}
use Rattle.journal_disk.proofs.images.cut_each.Goals as goal

pub loop-end-preserved : goal.loop-end-preserved
loop-end-preserved c =
    let items = c.in_ok-push.ensures.items in
    let front : c.of.result ≡ take c.loop-end.end c.args.before.now = search rules in
    record {
      all = search rules;
      first = rw items (first-stays c.loop-end.images.items (c.of.result ∷ []) c.args.before.now c.loop-end.invariant.first);
      fronts = rw items (fronts-push c.loop-end.end c.min-shortest.result c.args.before.now c.of.result c.loop-end.images.items c.loop-end.invariant.fronts front);
    }

pub returns-clause-fronts : goal.returns-clause-fronts
returns-clause-fronts c =
    let shortest : c.min-shortest.result ≡ min c.args.len (length c.args.before.now) = search rules in
    subst (λ (least : ℕ). HasFronts least c.args.before.now c.loop-end.images.items) shortest
    (fronts-whole c.loop-end.end c.min-shortest.result c.args.before.now c.loop-end.images.items c.loop-end.invariant.fronts (omega arith) c.loop-end.invariant.first)
