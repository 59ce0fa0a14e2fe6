-- What opening a journal leaves.
use Rattle.std.specs.Prelude.{◌≡◌, ◌≢◌, ◌⊎◌, ℕ, ◌<◌, ◌≤◌, List, [], length, take, false, Result, Ok, Err}
use Rattle.journal_disk.specs.Drive.{Drive, IsStored, Honestly}
use Rattle.outside_faults.specs.Faults.{Rose}
use Rattle.journal_store.specs.Format.{header}
use Rattle.journal_store.specs.Found.{IsForeign, StandsAs}
use Rattle.journal_store.specs.Format.{empty_bytes}
use Rattle.journal_store.specs.Reader.{Unread, ReaderView, StandsIn}
use Rattle.journal_store.specs.declared.limits.TheConstants.{VERSION}
use Rattle.journal_store.specs.declared.opening.Head.{Head}
use Rattle.journal_store.specs.declared.opening.Head.TheVariants.{Short, Header, Other}
use Rattle.journal_store.specs.declared.outcome.BeginFault.{BeginFault}
use Rattle.journal_store.specs.declared.outcome.BeginFault.TheVariants.{Disk, NotJournal, Memory}
use Rattle.journal_store.specs.declared.outcome.BeginFailed.{BeginFailed}

-- The bytes now are those that the disk had, where these are more than 17 and begin with the header, and those of an
-- empty journal where it had at most 17.
abbrev pub Opens : List ℕ → List ℕ → Type 0
Opens bytes now = ((17 < length bytes) × (take 16 bytes ≡ header VERSION) × (now ≡ bytes)) ⊎ ((length bytes ≤ 17) × (now ≡ empty_bytes))

-- what the first bytes of a disk are
abbrev pub IsHead : Head → List ℕ → Type 0
IsHead Short bytes = length bytes ≤ 17
IsHead Header bytes = (17 < length bytes) × (take 16 bytes ≡ header VERSION)
IsHead Other bytes = (17 < length bytes) × (take 16 bytes ≢ header VERSION)

-- why a disk could not be opened: it failed, or it has no journal
abbrev pub IsReason : BeginFault → Drive → Drive → Type 0
IsReason Disk old new = Rose old.faults new.faults
IsReason NotJournal old new = Honestly old (IsForeign old.bytes)
IsReason Memory old new = ⊥

-- each image, at each moment of the call too, stands for what the bytes stood for
pub record Begins (old new : Drive) : Type 0 where
  pub image : (image : List ℕ) → new.image image → StandsAs old.bytes image
  pub since : (moment : ℕ) (image : List ℕ) → moment ≤ old.moment → new.image_since moment image → old.image_since moment image ⊎ StandsAs old.bytes image

-- a journal was opened, of which nothing was told
pub record HasOpened (old new : Drive) (unread : Unread) : Type 0 where
  pub stored : IsStored new
  pub opens : Opens old.bytes new.bytes
  pub stands : StandsIn [] new.bytes unread 0 16 false

-- the disk that a call of `begin` gives back, alone or with its reader
abbrev pub disk_after : {D : Type 0} → Result (ReaderView D) (BeginFailed D) → D
disk_after (Ok reader) = reader.disk
disk_after (Err failed) = failed.disk
