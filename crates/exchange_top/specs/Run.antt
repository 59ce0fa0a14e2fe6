-- What a run reads, answers, writes and stores, and how it ends.
use Rattle.std.specs.Prelude.{◌≡◌, ◌⊎◌, ℕ, ◌+◌, ◌<◌, ◌≤◌, ⊤, Bool, true, List, [], ◌++◌, length, map, take, drop, Option, All}
use Rattle.std.specs.List.{flat_map}
use Rattle.outside_faults.specs.Told.{IfTold}
use Rattle.line_link.specs.Lines.{Heard, heard_lines, newlines}
use Rattle.line_link.specs.declared.status.Status.{Status}
use Rattle.line_link.specs.declared.status.Status.TheVariants.{Done, ReadFault, WriteFault, DiskFault, NotJournal, Cut, NotAct, Illegal, InputLimit, Memory}
use Rattle.journal_disk.specs.Drive.{Drive, IsStored, Honestly}
use Rattle.journal_disk.specs.Steps.{GoesOn, Leaves}
use Rattle.journal_store.specs.Found.{IsForeign, StandsAs}
use Rattle.command_words.specs.Reply.{rests_of}
use Rattle.command_words.specs.declared.act.Act.{Act}
use Rattle.settle_core.specs.Bounds.{standard}
use Rattle.settle_core.specs.Coverage.{CanPay}
use Rattle.settle_core.specs.Fairness.{IsFair}
use Rattle.settle_core.specs.Legal.{IsLegal}
use Rattle.ledger_lock.specs.Turns.{EndsForRoom}
use Rattle.exchange_top.specs.declared.ended.Ended.{Ended}
use Rattle.exchange_top.specs.EndText.{end_text}
use Rattle.exchange_top.specs.Holds.{Holds, HoldsFront}
use Rattle.exchange_top.specs.Damage.{IsCutAt, IsNoActAt, IsIllegalAt}
use Rattle.wire_json.specs.ReplyText.{text_of}
use Rattle.exchange_top.specs.Talk.{Turn, IsTalk}

-- What a run has outside itself but its disk: the bytes that its source has left and those that its sink holds, where
-- these are told, and the moments that its clock may have told.
pub record Outside : Type 1 where
  pub left : Option (List ℕ)
  pub held : Option (List ℕ)
  pub told : List ℕ → Type 0

abbrev pub outside : Option (List ℕ) → Option (List ℕ) → (List ℕ → Type 0) → Outside
outside left held told = record { left = left; held = held; told = told }

-- the lines of turns, and their moments
abbrev pub lines_of : List Turn → List Heard
lines_of turns = map (λ turn. turn.line) turns

abbrev pub moments_of : List Turn → List ℕ
moments_of turns = map (λ turn. turn.moment) turns

-- these lines are the first that are heard of the bytes
abbrev pub AreFirst : List Heard → List ℕ → Type 0
AreFirst lines input = take (length lines) (heard_lines input) ≡ lines

-- These lines are the first of the input, and every line that ends in the bytes that were taken is among them.
pub record AreWhole (lines : List Heard) (input left : List ℕ) : Type 0 where
  pub first : AreFirst lines input
  pub taken : List ℕ
  pub split : input ≡ taken ++ left
  pub no_fewer : newlines taken ≤ length lines

-- Which lines of the input were heard, and what was left of it, by how a run ended that opened its journal: all lines at
-- the end of the input; all whole lines of what was taken where no more could be; the first ones where the last reply
-- couldn't be stored or written; and none where memory was wanting at its start. Such a run ends in no other way.
abbrev pub IsRead : Status → List Heard → List ℕ → List ℕ → Type 0
IsRead Done lines input left = (lines ≡ heard_lines input) × (left ≡ [])
IsRead ReadFault lines input left = AreWhole lines input left
IsRead InputLimit lines input left = AreWhole lines input left
IsRead WriteFault lines input left = AreFirst lines input
IsRead DiskFault lines input left = AreFirst lines input
IsRead Memory lines input left = (lines ≡ []) × (left ≡ input)
IsRead status lines input left = ⊥

-- the texts of the replies, one after another
abbrev pub texts : List Turn → List ℕ
texts turns = flat_map (λ turn. text_of turn.reply) turns

-- what is written of the turns: so many texts whole, and so many bytes of the next
abbrev pub written : ℕ → ℕ → List Turn → List ℕ
written whole more turns = texts (take whole turns) ++ take more (texts (drop whole turns))

-- How many texts were written whole, and how many bytes of the next: all of them, but for the last one at a fault of
-- the sink, and at one of the disk, which came as that line was stored.
abbrev pub IsWritten : Status → ℕ → ℕ → List Turn → Type 0
IsWritten Done whole more turns = length turns ≡ whole
IsWritten ReadFault whole more turns = length turns ≡ whole
IsWritten InputLimit whole more turns = length turns ≡ whole
IsWritten WriteFault whole more turns = (length turns ≡ whole + 1) × (more < length (texts (drop whole turns)))
IsWritten DiskFault whole more turns = (length turns ≡ whole + 1) × (more ≡ 0)
IsWritten Memory whole more turns = length turns ≡ whole
IsWritten status whole more turns = ⊥

-- an image holds a front of the history that has every act on which the replies of these turns rest
pub record HoldsAnswered (turns : List Turn) (history : List Act) (image : List ℕ) : Type 0 where
  pub acts : ℕ
  pub held : Holds image (take acts history)
  pub answered : All (λ turn. rests_of turn.reply ≤ acts) turns
  pub within : acts ≤ length history

-- whatever history one of these images holds, each act of it was accepted, and its vault can pay all that is held there
abbrev pub AllCanPay : (List ℕ → Type 0) → Type 0
AllCanPay images = (image : List ℕ) (history : List Act) → images image → Holds image history → IsLegal standard history × CanPay history

-- and no order of it is overfilled, or got less for a fill, before its fee, than its limit rounded down
abbrev pub AllAreFair : (List ℕ → Type 0) → Type 0
AllAreFair images = (image : List ℕ) (history : List Act) → images image → Holds image history → IsFair history

-- A run that opened its journal: there were these turns, which lead from the recovered history to the last one.
pub record Ran {D : Type 0} (drive : D → Drive) (disk : D) (ended : Ended D) (before after : Outside) : Type 0 where
  pub first : List Act
  pub turns : List Turn
  pub history : List Act
  pub more : ℕ
  -- the disk held the first history
  pub recovered : Honestly (drive disk) (Holds (drive disk).bytes first)
  -- each line was answered by the rules, over the history that the lines before it left
  pub talk : IsTalk standard first turns history
  -- and a crossing was stopped for want of room or of memory alone
  pub stops : All (λ turn. EndsForRoom turn.reply) turns
  pub legal : IsLegal standard history
  -- the lines are those of the input
  pub read : IfTold before.left after.left (IsRead ended.status (lines_of turns))
  -- the moments are those that the clock told, one for each line
  pub moments : (earlier : List ℕ) → before.told earlier → after.told (earlier ++ moments_of turns)
  -- the texts of the replies were written, and nothing else
  pub texts : IfTold before.held after.held (λ old new. new ≡ old ++ written ended.lines more turns)
  pub counted : IsWritten ended.status ended.lines more turns
  pub acts : ended.acts ≡ length history
  -- a crash now leaves every act on which a reply rests that was written whole
  pub kept : Honestly (drive disk) ((image : List ℕ) → (drive ended.disk).image image → HoldsAnswered (take ended.lines turns) history image)
  -- where the disk didn't fail, it leaves the whole history
  pub whole : Honestly (drive disk) ((ended.status ≡ DiskFault → ⊥) → (image : List ℕ) → (drive ended.disk).image image → Holds image history)
  -- where nothing was pending, a crash since the run began left the recovered history at the least
  pub since : Honestly (drive disk) (IsStored (drive disk) → (image : List ℕ) → (drive ended.disk).image_since (drive disk).moment image → HoldsFront (length first) history image)
  -- whatever a crash leaves, the vault there can pay all that is held there, whichever slots win
  pub pays : Honestly (drive disk) (AllCanPay (drive ended.disk).image)
  pub paid_since : Honestly (drive disk) (IsStored (drive disk) → AllCanPay ((drive ended.disk).image_since (drive disk).moment))
  -- and every order there got what its limit gives
  pub fair : Honestly (drive disk) (AllAreFair (drive ended.disk).image)
  pub fair_since : Honestly (drive disk) (IsStored (drive disk) → AllAreFair ((drive ended.disk).image_since (drive disk).moment))

-- the bytes of the disk are the cause of this status, where they can be: the journal gives no history
abbrev pub IsDamaged : Status → List ℕ → Type 0
IsDamaged NotJournal bytes = IsForeign bytes
IsDamaged (Cut place lsn) bytes = IsCutAt standard bytes place lsn
IsDamaged (NotAct place lsn) bytes = IsNoActAt standard bytes place lsn
IsDamaged (Illegal place lsn code) bytes = IsIllegalAt standard bytes place lsn code
IsDamaged status bytes = ⊤

-- this status tells that the journal gives no history
abbrev pub IsDamage : Status → Type 0
IsDamage NotJournal = ⊤
IsDamage (Cut place lsn) = ⊤
IsDamage (NotAct place lsn) = ⊤
IsDamage (Illegal place lsn code) = ⊤
IsDamage status = ⊥

-- a damage was found, and the sink failed before its line was written whole
pub record IsCutShort (honest : Bool) (bytes said : List ℕ) : Type 0 where
  pub damage : Status
  pub more : ℕ
  pub is_damage : IsDamage damage
  pub is_damaged : honest ≡ true → IsDamaged damage bytes
  pub short : more < length (end_text damage)
  pub front : said ≡ take more (end_text damage)

-- What a run says that didn't open its journal: the line of its damage, or a front of it at a fault of the sink, and
-- nothing for another cause. Such a run reads nothing, so that it doesn't end by what it would read.
abbrev pub IsSaid : Status → Bool → List ℕ → List ℕ → Type 0
IsSaid Done honest bytes said = ⊥
IsSaid ReadFault honest bytes said = ⊥
IsSaid InputLimit honest bytes said = ⊥
IsSaid WriteFault honest bytes said = IsCutShort honest bytes said
IsSaid status honest bytes said = said ≡ end_text status

-- what was written as such a run ended, of a disk with these bytes
pub record Says (status : Status) (honest : Bool) (bytes : List ℕ) (held_before held_after : Option (List ℕ)) : Type 0 where
  pub said : List ℕ
  pub is_said : IsSaid status honest bytes said
  pub texts : IfTold held_before held_after (λ old new. new ≡ old ++ said)

-- A run that didn't open its journal: it read no line and took no moment. A disk of more than 17 bytes is left as it was,
-- and where nothing was pending each disk stands for what it stood for.
pub record Stopped {D : Type 0} (drive : D → Drive) (disk : D) (ended : Ended D) (before after : Outside) : Type 0 where
  pub says : Says ended.status (drive disk).honest (drive disk).bytes before.held after.held
  pub lines : ended.lines ≡ 0
  pub acts : ended.acts ≡ 0
  pub read : IfTold before.left after.left (λ input left. left ≡ input)
  pub moments : (earlier : List ℕ) → before.told earlier → after.told earlier
  pub leaves : Honestly (drive disk) (17 < length (drive disk).bytes → Leaves (drive disk) (drive ended.disk))
  pub since : Honestly (drive disk) (IsStored (drive disk) → (image : List ℕ) → (drive ended.disk).image_since (drive disk).moment image → StandsAs (drive disk).bytes image)

-- A run over an exchange that was recovered: it is a run whose first history that is, which is a front of the last one;
-- and each image, at each moment too, is one that was there or holds a front of the last history with the first in it.
pub record Served {D : Type 0} (drive : D → Drive) (disk : D) (first : List Act) (ended : Ended D) (before after : Outside) : Type 0 where
  pub ran : Ran drive disk ended before after
  pub from_first : ran.first ≡ first
  pub front : take (length first) ran.history ≡ first
  pub longer : length first ≤ length ran.history
  pub goes_on : GoesOn (drive disk) (drive ended.disk)
  pub since : Honestly (drive disk) ((moment : ℕ) (image : List ℕ) → moment ≤ (drive disk).moment → (drive ended.disk).image_since moment image
      → (drive disk).image_since moment image ⊎ HoldsFront (length first) ran.history image)

-- a run over an outside that doesn't fail, with its words and a journal of legal acts, ends so
abbrev pub IsServed : Status → Type 0
IsServed Done = ⊤
IsServed InputLimit = ⊤
IsServed Memory = ⊤
IsServed status = ⊥
