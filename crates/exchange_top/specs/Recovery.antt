-- What a journal gives as it is read back, and where it gives no history.
use Rattle.std.specs.Prelude.{◌≡◌, ℕ, ⊤, List, [], ◌∷◌, ◌++◌, length, Result, Ok, Err}
use Rattle.act_bytes.specs.Spelling.{Spells}
use Rattle.command_words.specs.declared.act.Act.{Act}
use Rattle.journal_disk.specs.Drive.{Drive}
use Rattle.line_link.specs.declared.status.Status.{Status}
use Rattle.line_link.specs.declared.status.Status.TheVariants as status
use Rattle.journal_store.specs.Found.{IsForeign}
use Rattle.journal_store.specs.Journal.{JournalView, IsOf}
use Rattle.journal_store.specs.declared.outcome.BeginFault.{BeginFault}
use Rattle.journal_store.specs.declared.outcome.BeginFault.TheVariants as begin
use Rattle.journal_store.specs.declared.outcome.NextFault.{NextFault}
use Rattle.journal_store.specs.declared.outcome.NextFault.TheVariants as next
use Rattle.journal_store.specs.Stands.{Stands}
use Rattle.settle_core.specs.Bounds.{Bounds}
use Rattle.settle_core.specs.Replay.{IsRefused}
use Rattle.exchange_top.specs.Damage.{IsCutAt, IsNoActAt, IsIllegalAt}
use Rattle.exchange_top.specs.Holds.{SpellAll}
use Rattle.exchange_top.specs.declared.recovery.OpenFailed.{OpenFailed}
use Rattle.exchange_top.specs.declared.recovery.OpenFault.{OpenFault}
use Rattle.exchange_top.specs.declared.recovery.OpenFault.TheVariants.{Disk, NotJournal, Cut, NotAct, Illegal, Memory}
use Rattle.exchange_top.specs.declared.serving.Opened.{Opened}

-- The bytes stand for payloads that spell a history, and the journal is of these.
pub record Recovers {D : Type 0} (drive : D → Drive) (bytes : List ℕ) (history : List Act) (journal : JournalView D) : Type 0 where
  pub list : List (List ℕ)
  pub stands : Stands bytes list
  pub spelled : SpellAll list history
  pub kept : IsOf drive list journal

-- why the bytes give no history, where they are the cause
abbrev pub Stops : Bounds → List ℕ → OpenFault → Type 0
Stops limits bytes NotJournal = IsForeign bytes
Stops limits bytes (Cut place lsn) = IsCutAt limits bytes place lsn
Stops limits bytes (NotAct place lsn) = IsNoActAt limits bytes place lsn
Stops limits bytes (Illegal place lsn code) = IsIllegalAt limits bytes place lsn code
Stops limits bytes why = ⊤

-- the cause isn't in the bytes: the disk failed, or memory was wanting
abbrev pub IsExcused : OpenFault → Type 0
IsExcused Disk = ⊤
IsExcused Memory = ⊤
IsExcused why = ⊥

-- why a payload in the batch of the gate at a place isn't carried out over a history
abbrev pub StopsAt : Bounds → List Act → List ℕ → ℕ → OpenFault → Type 0
StopsAt limits history payload place (NotAct here lsn) = (here ≡ place) × (lsn ≡ length history) × ((act : Act) → Spells payload act → ⊥)
StopsAt limits history payload place (Illegal here lsn code) =
    (here ≡ place) × (lsn ≡ length history) × (act : Act) × Spells payload act × IsRefused limits history act code
StopsAt limits history payload place Memory = ⊤
StopsAt limits history payload place why = ⊥

-- a payload is carried out over a history: it spells the act that is its next
pub record IsRedone (history after : List Act) (payload : List ℕ) : Type 0 where
  pub act : Act
  pub spells : Spells payload act
  pub next : after ≡ history ++ act ∷ []

-- the disk that comes out
abbrev pub disk_of : {D : Type 0} → Result (Opened D) (OpenFailed D) → D
disk_of (Ok opened) = opened.journal.disk
disk_of (Err failed) = failed.disk

-- a fault of opening a journal, and one of reading it behind `lsn` acts
abbrev pub of_begin : BeginFault → OpenFault
of_begin begin.Disk = Disk
of_begin begin.NotJournal = NotJournal
of_begin begin.Memory = Memory

abbrev pub of_next : NextFault → ℕ → OpenFault
of_next next.Disk lsn = Disk
of_next (next.Cut place) lsn = Cut place lsn

-- how a run ends that meets this fault
abbrev pub status_of : OpenFault → Status
status_of Disk = status.DiskFault
status_of NotJournal = status.NotJournal
status_of (Cut place lsn) = status.Cut place lsn
status_of (NotAct place lsn) = status.NotAct place lsn
status_of (Illegal place lsn code) = status.Illegal place lsn code
status_of Memory = status.Memory
