use Rattle.std.proofs.Common.{Err, sym, ap, ◌∙◌}
use Rattle.condition_sets.specs.declared.partition.PartitionFault.{PartitionFault}
use Rattle.settle_core.proofs.KeyLemmas.{partition-is, overlap-is-none}
use Rattle.settle_core.proofs.keys.union_of.Goals as goal

pub returns-in-Ok-clause-some : goal.returns-in-Ok-clause-some
returns-in-Ok-clause-some c =
    λ _. partition-is c.args.parts.now
    (λ few. let both = sym c.in-Ok.is ∙ c.check_partition.ensures.too_few.1 few in cc)
    (λ place meets. let both = sym c.in-Ok.is ∙ (c.check_partition.ensures.overlap place).1 meets in cc)

pub returns-in-Err-Overlap-clause-none : goal.returns-in-Err-Overlap-clause-none
returns-in-Err-Overlap-clause-none c =
    λ _. overlap-is-none c.args.parts.now c.in-Err-Overlap.field-0-0
    ((c.check_partition.ensures.overlap c.in-Err-Overlap.field-0-0).0 (c.in-Err-Overlap.is ∙ ap (λ (fault : PartitionFault). Err fault) c.in-Err-Overlap.field-0-is))
