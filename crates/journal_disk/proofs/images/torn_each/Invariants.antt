use Rattle.std.specs.Prelude.{◌≡◌, All, length, slice_get, Some}
use Rattle.journal_disk.specs.Images.{IsTorn}
use Rattle.journal_disk.proofs.Fronts.{FrontsBelow}
use Rattle.journal_disk.proofs.images.torn_each.Given as goal

abbrev pub invariant-loop-len : goal.invariant-loop-len
invariant-loop-len l = record {
  all : All (IsTorn l.at (length l.written) l.before) l.images.items;
  first : slice_get l.images.items 0 ≡ Some l.before;
  fronts : FrontsBelow l.len (length l.before) l.whole.items l.images.items;
}
