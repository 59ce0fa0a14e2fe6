use Rattle.std.proofs.Common.{◌≡◌, ℕ, ◌+◌, ◌≤◌, ◌<◌, length, get_or}
use Rattle.journal_disk.proofs.images.torn.Given as goal

abbrev pub invariant-loop-place : goal.invariant-loop-place
invariant-loop-place l = record {
  long : length l.image.items ≡ l.place;
  below : (i : ℕ) → i < l.place → i < l.at → i < length l.before → get_or l.image.items i 0 ≡ get_or l.before i 0;
  above : (i : ℕ) → i < l.place → l.at + l.count ≤ i → i < length l.before → get_or l.image.items i 0 ≡ get_or l.before i 0;
}
