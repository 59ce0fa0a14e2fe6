-- A journal that is read back, act by act.
use Rattle.std.proofs.Common.{◌≡◌, ℕ, ◌≤◌, List, [], ◌∷◌, ◌++◌, length, refl, sym, ◌∙◌, ap, subst, inl, inr, arith, length-append}
use Rattle.std.specs.Prelude.{◌≢◌, Result, Ok, Err, IfOk, IfErr, Some, None, option_map, slice_get}
use Rattle.std.proofs.Math.Seq.{take-append_seam}
use Rattle.act_bytes.specs.Spelling.{Spells}
use Rattle.act_bytes.proofs.Unique.{one-act}
use Rattle.command_words.specs.Refusal.{code_of}
use Rattle.command_words.specs.declared.act.Act.{Act}
use Rattle.journal_disk.specs.Drive.{Drive}
use Rattle.journal_disk.specs.Steps.{GoesOn, Leaves}
use Rattle.journal_store.specs.Found.{Follows, Breaks, IsForeign}
use Rattle.journal_store.proofs.FoundLaws.{empty-stands, no-list, followed, whole-or-broken}
use Rattle.journal_store.specs.Journal.{JournalView}
use Rattle.journal_store.specs.Format.{empty_bytes}
use Rattle.journal_store.specs.Opening.{Opens}
use Rattle.journal_store.specs.Reader.{ReaderView, HasTold, Tells}
use Rattle.journal_store.specs.Stands.{Stands}
use Rattle.journal_store.proofs.Unique.{one-list}
use Rattle.journal_store.specs.declared.outcome.BeginFault.{BeginFault}
use Rattle.journal_store.specs.declared.outcome.BeginFault.TheVariants as begin
use Rattle.journal_store.specs.declared.outcome.NextFault.{NextFault}
use Rattle.journal_store.specs.declared.outcome.NextFault.TheVariants as next
use Rattle.settle_core.specs.Bounds.{Bounds}
use Rattle.settle_core.specs.Legal.{IsAccepted, IsLegal}
use Rattle.settle_core.specs.Replay.{IsRefused}
use Rattle.settle_core.specs.Verdict.{question_of, verdict}
use Rattle.exchange_top.specs.Damage.{IsCutAt, IsIllegalAt}
use Rattle.exchange_top.specs.Holds.{SpellAll, Holds}
use Rattle.exchange_top.specs.Recovery.{Recovers, Stops, StopsAt, IsRedone, IsExcused, of_begin, of_next}
use Rattle.exchange_top.specs.declared.recovery.OpenFailed.{OpenFailed}
use Rattle.exchange_top.specs.declared.recovery.OpenFault.{OpenFault}
use Rattle.exchange_top.specs.declared.recovery.OpenFault.TheVariants.{Disk, NotJournal, Cut, NotAct, Illegal, Memory}
use Rattle.exchange_top.specs.declared.serving.Opened.{Opened}

-- one payload more, and the act that it spells
pub spell-more : (list : List (List ℕ)) (history : List Act) (payload : List ℕ) (act : Act) → SpellAll list history → Spells payload act → SpellAll (list ++ payload ∷ []) (history ++ act ∷ [])
spell-more [] [] payload act all here = (here, tt)
spell-more [] (a ∷ acts) payload act all here = absurd all
spell-more (p ∷ ps) [] payload act all here = absurd all
spell-more (p ∷ ps) (a ∷ acts) payload act all here = (all.0, spell-more ps acts payload act all.1 here)

-- payloads spell one history
pub one-history : (list : List (List ℕ)) (history other : List Act) → SpellAll list history → SpellAll list other → history ≡ other
one-history [] [] [] one two = refl
one-history [] [] (b ∷ bs) one two = absurd two
one-history [] (a ∷ acts) other one two = absurd one
one-history (p ∷ ps) [] other one two = absurd one
one-history (p ∷ ps) (a ∷ acts) [] one two = absurd two
one-history (p ∷ ps) (a ∷ acts) (b ∷ bs) one two = λ i. one-act p a b one.0 two.0 i ∷ one-history ps acts bs one.1 two.1 i

-- a payload in a list spells the act at its place
pub record SpellsAt (list : List (List ℕ)) (payload : List ℕ) (history : List Act) : Type 0 where
  pub front : List Act
  pub act : Act
  pub more : List Act
  pub split : history ≡ front ++ act ∷ more
  pub spelled : SpellAll list front
  pub spells : Spells payload act

pub spells-at : (list : List (List ℕ)) (payload : List ℕ) (rest : List (List ℕ)) (history : List Act) → SpellAll (list ++ payload ∷ rest) history → SpellsAt list payload history
spells-at [] payload rest [] all = absurd all
spells-at [] payload rest (a ∷ acts) all = record { front = []; act = a; more = acts; split = refl; spelled = tt; spells = all.0 }
spells-at (p ∷ ps) payload rest [] all = absurd all
spells-at (p ∷ ps) payload rest (a ∷ acts) all =
    let at = spells-at ps payload rest acts all.1 in
    record { front = a ∷ at.front; act = at.act; more = at.more; split = ap (λ (later : List Act). a ∷ later) at.split; spelled = (all.0, at.spelled); spells = at.spells }

-- an act of a legal history was accepted over those before it
get-seam : (front more : List Act) (act : Act) → slice_get (front ++ act ∷ more) (length front) ≡ Some act
get-seam [] more act = refl
get-seam (a ∷ acts) more act = get-seam acts more act

pub accepted-at : (limits : Bounds) (history front more : List Act) (act : Act) → history ≡ front ++ act ∷ more → IsLegal limits history → IsAccepted limits front act
accepted-at limits history front more act split legal =
    let whole = subst (IsLegal limits) split legal in
    subst (λ (acts : List Act). IsAccepted limits acts act) (take-append_seam front (act ∷ more)) (whole (length front) act (get-seam front more act))

pub not-both : (limits : Bounds) (history : List Act) (act : Act) (code : ℕ) → IsAccepted limits history act → IsRefused limits history act code → ⊥
not-both limits history act code accepted refused =
    let none : option_map code_of (verdict (question_of limits history act)) ≡ None = rw accepted.accepted refl in
    let same = sym none ∙ refused in
    cc

-- A reader has told payloads that spell a history.
pub record ToldActs {D : Type 0} (drive : D → Drive) (history : List Act) (reader : ReaderView D) : Type 0 where
  pub list : List (List ℕ)
  pub told : HasTold drive list reader
  pub spelled : SpellAll list history

-- one act more
pub told-more : {D : Type 0} (drive : D → Drive) (list : List (List ℕ)) (history after : List Act) (payload : List ℕ) (reader : ReaderView D) → SpellAll list history → HasTold drive (list ++ payload ∷ []) reader → IsRedone history after payload → ToldActs drive after reader
told-more drive list history after payload reader spelled told redone = record {
  list = list ++ payload ∷ [];
  told = told;
  spelled = subst (SpellAll (list ++ payload ∷ [])) (sym redone.next) (spell-more list history payload redone.act spelled redone.spells);
}

-- why a disk was given back
pub why-of : {D : Type 0} (failed : OpenFailed D) (why : OpenFault) (disk : D) → failed ≡ record { why = why; disk = disk } → failed.why ≡ why
why-of {D = D} failed why disk same = ap (λ (f : OpenFailed D). f.why) same

-- where it breaks off
pub stops-cut : (limits : Bounds) (bytes now : List ℕ) (list : List (List ℕ)) (history : List Act) (place lsn : ℕ) → now ≡ bytes → SpellAll list history → IsLegal limits history → lsn ≡ length history → Breaks list place now → IsCutAt limits bytes place lsn
stops-cut limits bytes now list history place lsn same spelled legal counted breaks = record {
  list = list;
  history = history;
  breaks = subst (Breaks list place) same breaks;
  spelled = spelled;
  legal = legal;
  counted = counted;
}

pub stops-next : {D : Type 0} (drive : D → Drive) (limits : Bounds) (bytes : List ℕ) (list : List (List ℕ)) (history : List Act) (reader : ReaderView D) (fault : NextFault) (lsn : ℕ) → (drive reader.disk).bytes ≡ bytes → SpellAll list history → IsLegal limits history → lsn ≡ length history → Tells drive list (Err fault) reader → Stops limits bytes (of_next fault lsn)
stops-next drive limits bytes list history reader next.Disk lsn same spelled legal counted tells = tt
stops-next drive limits bytes list history reader (next.Cut place) lsn same spelled legal counted tells = stops-cut limits bytes (drive reader.disk).bytes list history place lsn same spelled legal counted tells

-- where a payload isn't carried out
pub stops-at : (limits : Bounds) (bytes now : List ℕ) (list : List (List ℕ)) (history : List Act) (payload : List ℕ) (place : ℕ) (why : OpenFault) → now ≡ bytes → SpellAll list history → IsLegal limits history → Follows list payload place now → StopsAt limits history payload place why → Stops limits bytes why
stops-at limits bytes now list history payload place Disk same spelled legal follows at = tt
stops-at limits bytes now list history payload place NotJournal same spelled legal follows at = absurd at
stops-at limits bytes now list history payload place (Cut here lsn) same spelled legal follows at = absurd at
stops-at limits bytes now list history payload place (NotAct here lsn) same spelled legal follows at = record {
  list = list;
  payload = payload;
  history = history;
  follows = subst (λ (n : ℕ). Follows list payload n bytes) (sym at.0) (subst (Follows list payload place) same follows);
  spelled = spelled;
  legal = legal;
  counted = at.1;
  no_act = at.2;
}
stops-at limits bytes now list history payload place (Illegal here lsn code) same spelled legal follows at = record {
  list = list;
  payload = payload;
  history = history;
  act = at.2;
  follows = subst (λ (n : ℕ). Follows list payload n bytes) (sym at.0) (subst (Follows list payload place) same follows);
  spelled = spelled;
  legal = legal;
  counted = at.1;
  spells = at.3;
  refused = at.4;
}
stops-at limits bytes now list history payload place Memory same spelled legal follows at = tt

pub leaves-trans : (a b c : Drive) → GoesOn a b → Leaves a b → Leaves b c → Leaves a c
leaves-trans a b c goes first second = record {
  bytes = second.bytes ∙ first.bytes;
  image = λ image now. first.image image (second.image image now);
  since = λ moment image early since. first.since moment image early (second.since moment image (omega (arith, early, goes.moment)) since);
}

-- what a journal stands for as it was opened
pub stands-before : (before now : List ℕ) (list : List (List ℕ)) → Opens before now → Stands now list → Stands before list
stands-before before now list (inl had) stands = subst (λ (image : List ℕ). Stands image list) had.2 stands
stands-before before now list (inr made) stands = inl (made.0, one-list empty_bytes list [] (subst (λ (image : List ℕ). Stands image list) made.1 stands) empty-stands)

pub recovers-before : {D : Type 0} (drive : D → Drive) (before now : List ℕ) (history : List Act) (journal : JournalView D) → Opens before now → Recovers drive now history journal → Recovers drive before history journal
recovers-before drive before now history journal opens r = record {
  list = r.list;
  stands = stands-before before now r.list opens r.stands;
  spelled = r.spelled;
  kept = r.kept;
}

-- the bytes of an empty journal give a history
no-first : (list rest : List (List ℕ)) (payload : List ℕ) → [] ≡ list ++ payload ∷ rest → ⊥
no-first list rest payload same = omega (arith, ap length same, length-append list (payload ∷ rest))

no-payload : (now : List ℕ) (list : List (List ℕ)) (payload : List ℕ) (place : ℕ) → now ≡ empty_bytes → Follows list payload place now → ⊥
no-payload now list payload place made follows =
    let more = followed now [] list payload place (subst (λ (image : List ℕ). Stands image []) (sym made) empty-stands) follows in
    no-first list more.0 payload more.1

-- a journal stops where the bytes were a journal's
stops-made : (limits : Bounds) (before now : List ℕ) (why : OpenFault) → length before ≤ 17 → now ≡ empty_bytes → why ≢ NotJournal → Stops limits now why → IsExcused why
stops-made limits before now Disk short made header stops = tt
stops-made limits before now NotJournal short made header stops = header refl
stops-made limits before now (Cut place lsn) short made header stops =
    whole-or-broken now [] stops.list place (subst (λ (image : List ℕ). Stands image []) (sym made) empty-stands) stops.breaks
stops-made limits before now (NotAct place lsn) short made header stops = no-payload now stops.list stops.payload place made stops.follows
stops-made limits before now (Illegal place lsn code) short made header stops = no-payload now stops.list stops.payload place made stops.follows
stops-made limits before now Memory short made header stops = tt

excused-stops : (limits : Bounds) (bytes : List ℕ) (why : OpenFault) → IsExcused why → Stops limits bytes why
excused-stops limits bytes Disk excused = tt
excused-stops limits bytes NotJournal excused = absurd excused
excused-stops limits bytes (Cut place lsn) excused = absurd excused
excused-stops limits bytes (NotAct place lsn) excused = absurd excused
excused-stops limits bytes (Illegal place lsn code) excused = absurd excused
excused-stops limits bytes Memory excused = tt

pub stops-before : (limits : Bounds) (before now : List ℕ) (why : OpenFault) → Opens before now → why ≢ NotJournal → Stops limits now why → Stops limits before why
stops-before limits before now why (inl had) header stops = subst (λ (bytes : List ℕ). Stops limits bytes why) had.2 stops
stops-before limits before now why (inr made) header stops = excused-stops limits before why (stops-made limits before now why made.0 made.1 header stops)

-- bytes that hold a legal history stop nowhere
spelled-at : (now : List ℕ) (whole list : List (List ℕ)) (payload : List ℕ) (place : ℕ) (history : List Act) → Stands now whole → SpellAll whole history → Follows list payload place now → SpellsAt list payload history
spelled-at now whole list payload place history stands spelled follows =
    let more = followed now whole list payload place stands follows in
    spells-at list payload more.0 history (subst (λ (ps : List (List ℕ)). SpellAll ps history) more.1 spelled)

pub illegal-passed : (limits : Bounds) (now : List ℕ) (place lsn code : ℕ) (stops : IsIllegalAt limits now place lsn code) (history : List Act) → IsLegal limits history → SpellsAt stops.list stops.payload history → ⊥
illegal-passed limits now place lsn code stops history legal at =
    let accepted = accepted-at limits history at.front at.more at.act at.split legal in
    let front = one-history stops.list at.front stops.history at.spelled stops.spelled in
    let act = one-act stops.payload at.act stops.act at.spells stops.spells in
    not-both limits stops.history stops.act code (subst (IsAccepted limits stops.history) act (subst (λ (acts : List Act). IsAccepted limits acts at.act) front accepted)) stops.refused

pub no-damage : (limits : Bounds) (bytes : List ℕ) (why : OpenFault) (history : List Act) → Holds bytes history → IsLegal limits history → Stops limits bytes why → IsExcused why
no-damage limits bytes Disk history holds legal stops = tt
no-damage limits bytes NotJournal history holds legal stops = no-list bytes holds.0 stops holds.1
no-damage limits bytes (Cut place lsn) history holds legal stops = whole-or-broken bytes holds.0 stops.list place holds.1 stops.breaks
no-damage limits bytes (NotAct place lsn) history holds legal stops =
    let at = spelled-at bytes holds.0 stops.list stops.payload place history holds.1 holds.2 stops.follows in
    stops.no_act at.act at.spells
no-damage limits bytes (Illegal place lsn code) history holds legal stops =
    illegal-passed limits bytes place lsn code stops history legal (spelled-at bytes holds.0 stops.list stops.payload place history holds.1 holds.2 stops.follows)
no-damage limits bytes Memory history holds legal stops = tt

-- a disk that has a journal which holds a history is opened, where it is honest and memory is there
pub begin-excused : (bytes : List ℕ) (why : BeginFault) (history : List Act) → (why ≡ begin.NotJournal → IsForeign bytes) → Holds bytes history → IsExcused (of_begin why)
begin-excused bytes begin.Disk history foreign holds = tt
begin-excused bytes begin.NotJournal history foreign holds = no-list bytes holds.0 (foreign refl) holds.1
begin-excused bytes begin.Memory history foreign holds = tt

-- what holds of each success or of each failure of a result, where a disk is honest
pub ok-where : {A E : Type 0} (result : Result A E) (H : Type 0) (P Q : A → Type 0) → (H → IfOk result P) → ((x : A) → H → P x → Q x) → IfOk result (λ x. H → Q x)
ok-where (Ok x) H P Q holds onward = λ here. onward x here (holds here)
ok-where (Err e) H P Q holds onward = tt

pub err-where : {A E : Type 0} (result : Result A E) (H : Type 0) (P Q : E → Type 0) → (H → IfErr result P) → ((e : E) → H → P e → Q e) → IfErr result (λ e. H → Q e)
err-where (Ok x) H P Q holds onward = tt
err-where (Err e) H P Q holds onward = λ here. onward e here (holds here)

pub err-onward : {A E : Type 0} (result : Result A E) (P Q : E → Type 0) → IfErr result P → ((e : E) → P e → Q e) → IfErr result Q
err-onward (Ok x) P Q holds onward = tt
err-onward (Err e) P Q holds onward = onward e holds

-- why a journal gave no exchange that was opened
pub record StoppedBehind {D : Type 0} (limits : Bounds) (now : List ℕ) (failed : OpenFailed D) : Type 0 where
  pub header : failed.why ≢ NotJournal
  pub stops : Stops limits now failed.why

pub stopped-behind : {D : Type 0} (limits kept : Bounds) (now : List ℕ) (result : Result (Opened D) (OpenFailed D)) → kept ≡ limits
    → IfErr result (λ failed. failed.why ≢ NotJournal) → IfErr result (λ failed. Stops kept now failed.why) → IfErr result (StoppedBehind limits now)
stopped-behind limits kept now (Ok opened) same header stops = tt
stopped-behind limits kept now (Err failed) same header stops = record { header = header; stops = subst (λ (b : Bounds). Stops b now failed.why) same stops }
