use Rattle.std.proofs.Common.{◌≡◌, ◌<◌, [], ℕ, List, length, take, min}
use Rattle.std.specs.Prelude.{All, Contains, slice_get}
use Rattle.journal_disk.specs.Images.{IsCut}
use Rattle.journal_disk.specs.Memory.{HasFronts}
use Rattle.journal_disk.proofs.images.cut_all.Given as goal

abbrev pub invariant-loop-before : goal.invariant-loop-before
invariant-loop-before l = record {
  all : All (λ image. (before : List ℕ) × Contains l.images before × IsCut l.len before image) l.after.items;
  none : l.before-index ≡ 0 → l.after.items ≡ [];
  first : 0 < l.before-index → slice_get l.after.items 0 ≡ slice_get l.images 0;
  fronts : All (λ before. HasFronts (min l.len (length before)) before l.after.items) (take l.before-index l.images);
}
