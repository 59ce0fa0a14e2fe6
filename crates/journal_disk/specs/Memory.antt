-- A disk in memory, by the calls that were made of it, the newest first.
use Rattle.std.specs.Prelude.{◌≡◌, ◌⊎◌, ℕ, ◌≤◌, true, false, List, [], ◌∷◌, length, take, Contains, Result, IsErr}
use Rattle.outside_faults.specs.Script.{FailingCallsView}
use Rattle.journal_disk.specs.Drive.{Drive}
use Rattle.journal_disk.specs.Images.{IsTorn, IsCut, overlaid}
use Rattle.journal_disk.specs.declared.call.Call.{Call}
use Rattle.journal_disk.specs.declared.call.Call.TheVariants.{Read, Write, Cut, Sync}

-- what a read gives after the calls
abbrev pub contents : List ℕ → List Call → List ℕ
contents first [] = first
contents first (Read at len ok ∷ calls) = contents first calls
contents first (Write at bytes true ∷ calls) = overlaid at bytes (contents first calls)
contents first (Write at bytes false ∷ calls) = contents first calls
contents first (Cut len true ∷ calls) = take len (contents first calls)
contents first (Cut len false ∷ calls) = contents first calls
contents first (Sync ok ∷ calls) = contents first calls

-- what a read gave at the last sync that succeeded
abbrev pub stored : List ℕ → List Call → List ℕ
stored first [] = first
stored first (Read at len ok ∷ calls) = stored first calls
stored first (Write at bytes ok ∷ calls) = stored first calls
stored first (Cut len ok ∷ calls) = stored first calls
stored first (Sync true ∷ calls) = contents first calls
stored first (Sync false ∷ calls) = stored first calls

-- what a crash after the calls may leave
abbrev pub Image : List ℕ → List Call → List ℕ → Type 0
Image first [] image = image ≡ first
Image first (Read at len ok ∷ calls) image = Image first calls image
Image first (Write at bytes ok ∷ calls) image = (before : List ℕ) × Image first calls before × IsTorn at (length bytes) before image
Image first (Cut len ok ∷ calls) image = (before : List ℕ) × Image first calls before × IsCut len before image
Image first (Sync true ∷ calls) image = image ≡ contents first calls
Image first (Sync false ∷ calls) image = Image first calls image

-- what a crash at some moment from a given one on may have left, where a moment is a number of calls
abbrev pub ImageSince : List ℕ → List Call → ℕ → List ℕ → Type 0
ImageSince first [] moment image = image ≡ first
ImageSince first (call ∷ calls) moment image = Image first (call ∷ calls) image ⊎ ((moment ≤ length calls) × ImageSince first calls moment image)

-- among these images there is one of this length
abbrev pub HasLength : ℕ → List (List ℕ) → Type 0
HasLength len images = (image : List ℕ) × Contains images image × (length image ≡ len)

-- among these images is each front of some bytes that is at least so long
abbrev pub HasFronts : ℕ → List ℕ → List (List ℕ) → Type 0
HasFronts least bytes images = (len : ℕ) → least ≤ len → len ≤ length bytes → Contains images (take len bytes)

-- what contracts see of a disk in memory: its first bytes, its calls, how often one failed, and those that are to fail
pub record MemoryDiskView : Type 0 where
  pub first : List ℕ
  pub calls : List Call
  pub faults : ℕ
  pub script : FailingCallsView

-- a call was noted in front of the others; or none was, for want of memory, and the call failed
abbrev pub IsNoted : {T E : Type 0} → Call → Result T E → MemoryDiskView → MemoryDiskView → Type 0
IsNoted call result old new = (new.first ≡ old.first) × ((new.calls ≡ call ∷ old.calls) ⊎ ((new.calls ≡ old.calls) × IsErr result))

-- a disk of these first bytes and these calls
abbrev pub drive_at : List ℕ → List Call → ℕ → Drive
drive_at first calls faults = record {
  bytes = contents first calls;
  image = Image first calls;
  moment = length calls;
  image_since = ImageSince first calls;
  faults = faults;
  honest = true;
}

abbrev pub drive_of : MemoryDiskView → Drive
drive_of c = drive_at c.first c.calls c.faults
