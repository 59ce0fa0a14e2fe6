-- Laws of a disk in memory.
use Rattle.std.proofs.Common.{ℕ, List, [], ◌∷◌, length, refl, true, false, arith, inl, inr}
use Rattle.journal_disk.specs.Drive.{IsDrive}
use Rattle.journal_disk.specs.Laws.{torn-itself, cut-itself, taken-cut, overlaid-torn}
use Rattle.journal_disk.specs.Memory.{MemoryDiskView, contents, Image, ImageSince, drive_of}
use Rattle.journal_disk.specs.declared.call.Call.{Call}
use Rattle.journal_disk.specs.declared.call.Call.TheVariants.{Read, Write, Cut, Sync}

-- what a read gives is one of the images
pub contents-image : (first : List ℕ) (calls : List Call) → Image first calls (contents first calls)
contents-image first [] = refl
contents-image first (Read at len ok ∷ calls) = contents-image first calls
contents-image first (Write at bytes true ∷ calls) = (contents first calls, contents-image first calls, overlaid-torn at bytes (contents first calls))
contents-image first (Write at bytes false ∷ calls) = (contents first calls, contents-image first calls, torn-itself at (length bytes) (contents first calls))
contents-image first (Cut len true ∷ calls) = (contents first calls, contents-image first calls, taken-cut len (contents first calls))
contents-image first (Cut len false ∷ calls) = (contents first calls, contents-image first calls, cut-itself len (contents first calls))
contents-image first (Sync true ∷ calls) = refl
contents-image first (Sync false ∷ calls) = contents-image first calls

-- the images of now are among those since any moment
pub image-since : (first : List ℕ) (calls : List Call) (moment : ℕ) (image : List ℕ) → Image first calls image → ImageSince first calls moment image
image-since first [] moment image now = now
image-since first (call ∷ calls) moment image now = inl now

-- since the present moment there are no other images than those of now
image-at_present : (first : List ℕ) (calls : List Call) (image : List ℕ) → ImageSince first calls (length calls) image → Image first calls image
image-at_present first [] image since = since
image-at_present first (call ∷ calls) image (inl now) = now
image-at_present first (call ∷ calls) image (inr before) = absurd (omega (arith, before.0))

pub memory-is_drive : (c : MemoryDiskView) → IsDrive (drive_of c)
memory-is_drive c = record {
  bytes = λ honest. contents-image c.first c.calls;
  now = λ moment image before now. image-since c.first c.calls moment image now;
  at_present = λ image since. image-at_present c.first c.calls image since;
}
