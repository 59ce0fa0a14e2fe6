-- What history an image holds.
use Rattle.std.specs.Prelude.{◌≡◌, ℕ, ◌≤◌, List, ◌++◌, length, take}
use Rattle.std.specs.List.{AllZip}
use Rattle.act_bytes.specs.Spelling.{Spells}
use Rattle.command_words.specs.declared.act.Act.{Act}
use Rattle.journal_disk.specs.Drive.{Drive}
use Rattle.journal_store.specs.Journal.{JournalView, IsOf}
use Rattle.journal_store.specs.Stands.{Stands}

-- the payloads spell the acts, one each
abbrev pub SpellAll : List (List ℕ) → List Act → Type 0
SpellAll payloads acts = AllZip Spells payloads acts

-- an image holds a history: it stands for payloads that spell its acts
abbrev pub Holds : List ℕ → List Act → Type 0
Holds image history = (list : List (List ℕ)) × Stands image list × SpellAll list history

-- an image holds a front of a history, of at least so many acts
pub record HoldsFront (least : ℕ) (history : List Act) (image : List ℕ) : Type 0 where
  pub acts : ℕ
  pub held : Holds image (take acts history)
  pub at_least : least ≤ acts
  pub within : acts ≤ length history

-- a journal has just the acts of a history stored, on an honest disk
pub record HasStored {D : Type 0} (drive : D → Drive) (history : List Act) (journal : JournalView D) : Type 0 where
  pub list : List (List ℕ)
  pub kept : IsOf drive list journal
  pub spelled : SpellAll list history

-- a history goes on from another by some acts
abbrev pub IsFront : List Act → List Act → Type 0
IsFront before after = (acts : List Act) × (after ≡ before ++ acts)
