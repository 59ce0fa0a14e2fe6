use Rattle.std.proofs.Common.{◌≡◌, ◌<◌, [], ℕ, List, length, take}
use Rattle.std.specs.Prelude.{All, Contains, slice_get}
use Rattle.journal_disk.specs.Images.{IsTorn, overlaid}
use Rattle.journal_disk.specs.Memory.{HasFronts}
use Rattle.journal_disk.proofs.images.torn_all.Given as goal

abbrev pub invariant-loop-before : goal.invariant-loop-before
invariant-loop-before l = record {
  all : All (λ image. (before : List ℕ) × Contains l.images before × IsTorn l.at (length l.written) before image) l.after.items;
  none : l.before-index ≡ 0 → l.after.items ≡ [];
  first : 0 < l.before-index → slice_get l.after.items 0 ≡ slice_get l.images 0;
  same : All (Contains l.after.items) (take l.before-index l.images);
  fronts : All (λ before. HasFronts (length before) (overlaid l.at l.written before) l.after.items) (take l.before-index l.images);
}
