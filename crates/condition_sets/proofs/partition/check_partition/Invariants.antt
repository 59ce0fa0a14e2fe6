use Rattle.std.proofs.Common.{◌≡◌, None, take}
use Rattle.condition_sets.specs.Places.{first_place}
use Rattle.condition_sets.specs.Sets.{meets_earlier, union_of}
use Rattle.condition_sets.proofs.partition.check_partition.Given as goal

abbrev pub invariant-loop-place : goal.invariant-loop-place
invariant-loop-place l = record {
  union_is : l.union ≡ union_of (take l.place l.sets);
  none_overlaps : first_place (meets_earlier l.sets) l.place ≡ None;
}
