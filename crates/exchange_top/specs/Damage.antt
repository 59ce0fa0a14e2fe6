-- Where the bytes of a journal give no history.
use Rattle.std.specs.Prelude.{◌≡◌, ℕ, List, length}
use Rattle.act_bytes.specs.Spelling.{Spells}
use Rattle.command_words.specs.declared.act.Act.{Act}
use Rattle.journal_store.specs.Found.{Follows, Breaks}
use Rattle.settle_core.specs.Bounds.{Bounds}
use Rattle.settle_core.specs.Legal.{IsLegal}
use Rattle.settle_core.specs.Replay.{IsRefused}
use Rattle.exchange_top.specs.Holds.{SpellAll}

-- Behind payloads that spell a legal history of `lsn` acts the journal breaks off, at the open gate at this place.
pub record IsCutAt (limits : Bounds) (bytes : List ℕ) (place lsn : ℕ) : Type 0 where
  pub list : List (List ℕ)
  pub history : List Act
  pub breaks : Breaks list place bytes
  pub spelled : SpellAll list history
  pub legal : IsLegal limits history
  pub counted : lsn ≡ length history

-- Behind them a payload follows, in the batch of the gate at this place, that spells no act.
pub record IsNoActAt (limits : Bounds) (bytes : List ℕ) (place lsn : ℕ) : Type 0 where
  pub list : List (List ℕ)
  pub payload : List ℕ
  pub history : List Act
  pub follows : Follows list payload place bytes
  pub spelled : SpellAll list history
  pub legal : IsLegal limits history
  pub counted : lsn ≡ length history
  pub no_act : (act : Act) → Spells payload act → ⊥

-- Behind them a payload follows that spells an act which is refused, with this number.
pub record IsIllegalAt (limits : Bounds) (bytes : List ℕ) (place lsn code : ℕ) : Type 0 where
  pub list : List (List ℕ)
  pub payload : List ℕ
  pub history : List Act
  pub act : Act
  pub follows : Follows list payload place bytes
  pub spelled : SpellAll list history
  pub legal : IsLegal limits history
  pub counted : lsn ≡ length history
  pub spells : Spells payload act
  pub refused : IsRefused limits history act code
