-- How a run ends: one that served an exchange that was recovered, and one that didn't open its journal.
use Rattle.std.proofs.Common.{◌≡◌, ◌⊎◌, ℕ, ◌<◌, ◌≤◌, List, length, take, Option, Bool, true, refl, sym, ◌∙◌, subst, inl, inr, arith}
use Rattle.std.specs.Io.KnownBytes.{Appends}
use Rattle.command_words.specs.declared.act.Act.{Act}
use Rattle.journal_disk.specs.Drive.{Drive, IsDrive, IsStored, Honestly}
use Rattle.journal_disk.specs.Steps.{GoesOn}
use Rattle.journal_store.specs.Found.{StandsAs}
use Rattle.journal_store.specs.Stands.{Stands}
use Rattle.line_link.specs.Lines.{AppendsFront}
use Rattle.line_link.specs.declared.status.Status.{Status}
use Rattle.line_link.specs.declared.status.Status.TheVariants as status
use Rattle.settle_core.specs.Bounds.{standard}
use Rattle.exchange_top.specs.EndText.{end_text}
use Rattle.exchange_top.specs.Holds.{Holds, HoldsFront}
use Rattle.exchange_top.specs.Recovery.{Stops, IsExcused, status_of}
use Rattle.exchange_top.specs.Run.{Outside, Ran, Served, Says, IsDamage, IsDamaged, IsSaid, IsServed}
use Rattle.exchange_top.specs.Talk.{IsTalk}
use Rattle.exchange_top.specs.declared.ended.Ended.{Ended}
use Rattle.exchange_top.specs.declared.recovery.OpenFault.{OpenFault}
use Rattle.exchange_top.specs.declared.recovery.OpenFault.TheVariants.{Disk, NotJournal, Cut, NotAct, Illegal, Memory}
use Rattle.exchange_top.proofs.Payments.{AllAreLegal, all-fair, all-pay, fronts-legal}
use Rattle.exchange_top.proofs.Runs.{Appends-told}

-- what is said of a fault is its line, or nothing
said-whole : (why : OpenFault) (honest : Bool) (bytes : List ℕ) → IsSaid (status_of why) honest bytes (end_text (status_of why))
said-whole Disk honest bytes = refl
said-whole NotJournal honest bytes = refl
said-whole (Cut place lsn) honest bytes = refl
said-whole (NotAct place lsn) honest bytes = refl
said-whole (Illegal place lsn code) honest bytes = refl
said-whole Memory honest bytes = refl

pub says-whole : (why : OpenFault) (honest : Bool) (bytes : List ℕ) (held_before held_after : Option (List ℕ)) → Appends held_before held_after (end_text (status_of why))
    → Says (status_of why) honest bytes held_before held_after
says-whole why honest bytes held_before held_after appends =
    record { said = end_text (status_of why); is_said = said-whole why honest bytes; texts = Appends-told held_before held_after (end_text (status_of why)) appends }

-- a fault whose line is cut short is a damage
cut-damage : (why : OpenFault) (more : ℕ) → more < length (end_text (status_of why)) → IsDamage (status_of why)
cut-damage Disk more short = absurd (omega (arith, short))
cut-damage NotJournal more short = tt
cut-damage (Cut place lsn) more short = tt
cut-damage (NotAct place lsn) more short = tt
cut-damage (Illegal place lsn code) more short = tt
cut-damage Memory more short = absurd (omega (arith, short))

pub stops-damaged : (why : OpenFault) (bytes : List ℕ) → Stops standard bytes why → IsDamaged (status_of why) bytes
stops-damaged Disk bytes stops = stops
stops-damaged NotJournal bytes stops = stops
stops-damaged (Cut place lsn) bytes stops = stops
stops-damaged (NotAct place lsn) bytes stops = stops
stops-damaged (Illegal place lsn code) bytes stops = stops
stops-damaged Memory bytes stops = stops

pub says-cut : (why : OpenFault) (honest : Bool) (bytes : List ℕ) (held_before held_after : Option (List ℕ)) → (honest ≡ true → Stops standard bytes why)
    → AppendsFront held_before held_after (end_text (status_of why)) → Says status.WriteFault honest bytes held_before held_after
says-cut why honest bytes held_before held_after stops front = record {
  said = take front.0 (end_text (status_of why));
  is_said = record {
    damage = status_of why;
    more = front.0;
    is_damage = cut-damage why front.0 front.1;
    is_damaged = λ is. stops-damaged why bytes (stops is);
    short = front.1;
    front = refl;
  };
  texts = Appends-told held_before held_after (take front.0 (end_text (status_of why))) front.2;
}

-- over an outside that doesn't fail, and a journal of legal acts, memory was wanting
pub excused-served : (why : OpenFault) → IsExcused why → (why ≡ Disk → ⊥) → IsServed (status_of why)
excused-served Disk excused calm = absurd (calm refl)
excused-served NotJournal excused calm = absurd excused
excused-served (Cut place lsn) excused calm = absurd excused
excused-served (NotAct place lsn) excused calm = absurd excused
excused-served (Illegal place lsn code) excused calm = absurd excused
excused-served Memory excused calm = tt

pub stopped-served : {Rise : Type 0} (given : Status) (why : OpenFault) → (given ≡ status_of why) ⊎ ((given ≡ status.WriteFault) × Rise) → (Rise → ⊥) → IsExcused why → (why ≡ Disk → ⊥) → IsServed given
stopped-served given why (inl same) calm excused disk = subst IsServed (sym same) (excused-served why excused disk)
stopped-served given why (inr failed) calm excused disk = absurd (calm failed.1)

-- where nothing was pending, an image since the present moment is what a read gives
present-bytes : {D : Type 0} (drive : D → Drive) (is_drive : (d : D) → IsDrive (drive d)) (disk : D) (image : List ℕ) → IsStored (drive disk) → (drive disk).image_since (drive disk).moment image → image ≡ (drive disk).bytes
present-bytes drive is_drive disk image stored since = stored image ((is_drive disk).at_present image since)

-- an image that was there since the present moment, or stands for what the bytes stand for
pub stands-since : {D : Type 0} (drive : D → Drive) (is_drive : (d : D) → IsDrive (drive d)) (disk : D) (image : List ℕ) → IsStored (drive disk)
    → (drive disk).image_since (drive disk).moment image ⊎ StandsAs (drive disk).bytes image → StandsAs (drive disk).bytes image
stands-since drive is_drive disk image stored (inl since) =
    λ list stands. subst (λ (bytes : List ℕ). Stands bytes list) (sym (present-bytes drive is_drive disk image stored since)) stands
stands-since drive is_drive disk image stored (inr stands) = stands

-- an image that stands for what the bytes stand for holds what they hold
holds-as : (bytes image : List ℕ) (history : List Act) → StandsAs bytes image → Holds bytes history → Holds image history
holds-as bytes image history stands holds = (holds.0, stands holds.0 holds.1, holds.2)

-- an image of a moment of the whole run
run-since : {D : Type 0} (drive : D → Drive) (is_drive : (d : D) → IsDrive (drive d)) (disk middle : D) (first history : List Act) (image : List ℕ) → IsStored (drive disk)
    → take (length first) history ≡ first → length first ≤ length history → Holds (drive disk).bytes first
    → ((drive middle).image_since (drive disk).moment image → (drive disk).image_since (drive disk).moment image ⊎ StandsAs (drive disk).bytes image)
    → (drive middle).image_since (drive disk).moment image ⊎ HoldsFront (length first) history image → HoldsFront (length first) history image
run-since drive is_drive disk middle first history image stored front longer holds back (inl early) = record {
  acts = length first;
  held = subst (Holds image) (sym front) (holds-as (drive disk).bytes image first (stands-since drive is_drive disk image stored (back early)) holds);
  at_least = omega arith;
  within = longer;
}
run-since drive is_drive disk middle first history image stored front longer holds back (inr there) = there

-- a run over an exchange that was recovered of a disk is a run over that disk
pub ran-served : {D : Type 0} (drive : D → Drive) (is_drive : (d : D) → IsDrive (drive d)) (disk middle : D) (first : List Act) (ended : Ended D)
    (before after : Outside)
    → Served drive middle first ended before after
    → GoesOn (drive disk) (drive middle)
    → Honestly (drive disk) (Holds (drive disk).bytes first)
    → Honestly (drive disk) (IsStored (drive disk) → (moment : ℕ) (image : List ℕ) → moment ≤ (drive disk).moment → (drive middle).image_since moment image
    → (drive disk).image_since moment image ⊎ StandsAs (drive disk).bytes image)
    → Ran drive disk ended before after
ran-served drive is_drive disk middle first ended before after s goes holds back = record {
  first = first;
  turns = s.ran.turns;
  history = s.ran.history;
  more = s.ran.more;
  recovered = holds;
  talk = subst (λ (h : List Act). IsTalk standard h s.ran.turns s.ran.history) s.from_first s.ran.talk;
  stops = s.ran.stops;
  legal = s.ran.legal;
  read = s.ran.read;
  moments = s.ran.moments;
  texts = s.ran.texts;
  counted = s.ran.counted;
  acts = s.ran.acts;
  kept = λ honest. s.ran.kept (goes.honest ∙ honest);
  whole = λ honest. s.ran.whole (goes.honest ∙ honest);
  since = since;
  pays = λ honest. s.ran.pays (goes.honest ∙ honest);
  paid_since = λ honest stored. all-pay ((drive ended.disk).image_since (drive disk).moment) (legal_since honest stored);
  fair = λ honest. s.ran.fair (goes.honest ∙ honest);
  fair_since = λ honest stored. all-fair ((drive ended.disk).image_since (drive disk).moment) (legal_since honest stored);
}
  where
    since : Honestly (drive disk) (IsStored (drive disk) → (image : List ℕ) → (drive ended.disk).image_since (drive disk).moment image → HoldsFront (length first) s.ran.history image)
    since honest stored image now =
        run-since drive is_drive disk middle first s.ran.history image stored s.front s.longer (holds honest) (λ early. back honest stored (drive disk).moment image (omega arith) early)
        (s.since (goes.honest ∙ honest) (drive disk).moment image goes.moment now)

    legal_since : Honestly (drive disk) (IsStored (drive disk) → AllAreLegal ((drive ended.disk).image_since (drive disk).moment))
    legal_since honest stored = fronts-legal ((drive ended.disk).image_since (drive disk).moment) (length first) s.ran.history s.ran.legal (since honest stored)
