use Rattle.std.specs.Prelude.{◌≡◌, All, slice_get, Some}
use Rattle.journal_disk.specs.Images.{IsCut}
use Rattle.journal_disk.proofs.Fronts.{FrontsBelow}
use Rattle.journal_disk.proofs.images.cut_each.Given as goal

abbrev pub invariant-loop-end : goal.invariant-loop-end
invariant-loop-end l = record {
  all : All (IsCut l.len l.before) l.images.items;
  first : slice_get l.images.items 0 ≡ Some l.before;
  fronts : FrontsBelow l.end l.shortest l.before l.images.items;
}
