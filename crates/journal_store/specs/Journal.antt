-- What contracts see of a journal.
use Rattle.std.specs.Prelude.{◌≡◌, ℕ, Bool, false, List, length}
use Rattle.journal_disk.specs.Drive.{Drive}
use Rattle.journal_store.specs.Stands.{StoresAt}

-- its disk, the place of its closed gate, how many payloads it has, and whether an append failed
pub record JournalView (D : Type 0) : Type 0 where
  pub disk : D
  pub gate : ℕ
  pub count : ℕ
  pub broken : Bool

-- The journal is of this list: an honest disk has it stored, and no append failed.
pub record IsOf {D : Type 0} (drive : D → Drive) (list : List (List ℕ)) (journal : JournalView D) : Type 0 where
  pub stored : StoresAt journal.gate list (drive journal.disk)
  pub count : journal.count ≡ length list
  pub sound : journal.broken ≡ false
