use Rattle.std.proofs.Common.{◌≡◌, ◌⊎◌, ℕ, ◌≤◌, ◌-◌, List, length, take}
use Rattle.std.specs.Prelude.{false}
use Rattle.command_words.specs.declared.act.Act.{Act}
use Rattle.journal_disk.specs.Steps.{GoesOn}
use Rattle.exchange_top.specs.Holds.{HoldsFront, HasStored, IsFront}
use Rattle.exchange_top.proofs.storing.store_new.Given as goal

abbrev pub invariant-batches : goal.invariant-batches
invariant-batches g l = record {
  stored : (before : List Act) → IsFront before l.fn.house.history → HasStored g.D.Disk.drive before l.fn.journal → HasStored g.D.Disk.drive (take l.journal.count l.fn.house.history) l.journal;
  since : (before : List Act) (moment : ℕ) (image : List ℕ) → IsFront before l.fn.house.history → HasStored g.D.Disk.drive before l.fn.journal
      → moment ≤ (g.D.Disk.drive l.fn.journal.disk).moment → (g.D.Disk.drive l.journal.disk).image_since moment image
      → (g.D.Disk.drive l.fn.journal.disk).image_since moment image ⊎ HoldsFront (length before) l.fn.house.history image;
  at_least : l.fn.journal.count ≤ l.journal.count;
  within : l.journal.count ≤ length l.fn.house.history;
  sound : l.journal.broken ≡ false;
  never_falls : (g.D.Disk.drive l.fn.journal.disk).faults ≤ (g.D.Disk.drive l.journal.disk).faults;
  goes_on : GoesOn (g.D.Disk.drive l.fn.journal.disk) (g.D.Disk.drive l.journal.disk);
}

abbrev pub decreases-batches : goal.decreases-batches
decreases-batches g l = length l.fn.house.history - l.journal.count
