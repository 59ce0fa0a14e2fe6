-- A journal as a run stores its history in it.
use Rattle.std.proofs.Common.{◌≡◌, ◌⊎◌, ℕ, ◌+◌, ◌≤◌, List, [], ◌∷◌, ◌++◌, length, take, drop, refl, sym, ◌∙◌, ap, subst, inl, inr, arith, length-append}
use Rattle.std.specs.Prelude.{All}
use Rattle.std.proofs.lemmas.List.{append-nil, length-take-le, take-append-le}
use Rattle.std.proofs.lemmas.List.Elements.{All-weaker}
use Rattle.std.proofs.lemmas.Slice.Zip.{AllZip-long}
use Rattle.std.proofs.Math.Seq.{take-add, take-length}
use Rattle.act_bytes.specs.Spelling.{Spells}
use Rattle.command_words.specs.Reply.{rests_of}
use Rattle.command_words.specs.declared.act.Act.{Act}
use Rattle.journal_disk.specs.Drive.{Drive, IsDrive, Honestly}
use Rattle.journal_disk.specs.Steps.{GoesOn}
use Rattle.journal_store.specs.Journal.{JournalView, IsOf}
use Rattle.journal_store.specs.Stands.{HasGates, StandsForEither}
use Rattle.exchange_top.specs.Holds.{SpellAll, Holds, HoldsFront, HasStored, IsFront}
use Rattle.exchange_top.specs.Run.{HoldsAnswered}
use Rattle.exchange_top.specs.Talk.{Turn}

-- The journal of a run that began with a first history and has another now: it has that stored on an honest disk, and
-- each image since is one that was there or holds a front of it with the first in it.
pub record Storing {D : Type 0} (drive : D → Drive) (disk : D) (first history : List Act) (journal : JournalView D) : Type 0 where
  pub stored : Honestly (drive disk) (HasStored drive history journal)
  pub since : Honestly (drive disk) ((moment : ℕ) (image : List ℕ) → moment ≤ (drive disk).moment → (drive journal.disk).image_since moment image
      → (drive disk).image_since moment image ⊎ HoldsFront (length first) history image)
  pub front : take (length first) history ≡ first
  pub longer : length first ≤ length history
  pub goes_on : GoesOn (drive disk) (drive journal.disk)

pub goes_on-same : (d : Drive) → GoesOn d d
goes_on-same d = record { honest = refl; moment = omega arith }

pub goes_on-trans : (a b c : Drive) → GoesOn a b → GoesOn b c → GoesOn a c
goes_on-trans a b c first second = record { honest = second.honest ∙ first.honest; moment = omega (arith, first.moment, second.moment) }

-- payloads behind others spell acts behind theirs
SpellAll-append : (list batch : List (List ℕ)) (acts more : List Act) → SpellAll list acts → SpellAll batch more → SpellAll (list ++ batch) (acts ++ more)
SpellAll-append [] batch [] more all behind = behind
SpellAll-append [] batch (a ∷ acts) more all behind = absurd all
SpellAll-append (p ∷ list) batch [] more all behind = absurd all
SpellAll-append (p ∷ list) batch (a ∷ acts) more all behind = (all.0, SpellAll-append list batch acts more all.1 behind)

-- payloads spell the first acts of a history, and a batch the next ones
pub record IsNext (history : List Act) (count many : ℕ) (list batch : List (List ℕ)) : Type 0 where
  pub spelled : SpellAll list (take count history)
  pub next : SpellAll batch (take many (drop count history))
  pub within : count + many ≤ length history

next-spelled : (history : List Act) (count many : ℕ) (list batch : List (List ℕ)) → IsNext history count many list batch → SpellAll (list ++ batch) (take (count + many) history)
next-spelled history count many list batch is =
    subst (SpellAll (list ++ batch)) (sym (take-add count many history)) (SpellAll-append list batch (take count history) (take many (drop count history)) is.spelled is.next)

-- a journal with the batch behind its list
pub stored-more : {D : Type 0} (drive : D → Drive) (history : List Act) (count many : ℕ) (list batch : List (List ℕ)) (next : JournalView D) → IsNext history count many list batch
    → IsOf drive (list ++ batch) next → HasStored drive (take next.count history) next
stored-more drive history count many list batch next is kept =
    let spelled = next-spelled history count many list batch is in
    let counted = kept.count ∙ (sym (AllZip-long Spells (list ++ batch) (take (count + many) history) spelled) ∙ length-take-le (count + many) history is.within) in
    record { list = list ++ batch; kept = kept; spelled = subst (λ (n : ℕ). SpellAll (list ++ batch) (take n history)) (sym counted) spelled }

-- an image that stands for the list, or for that with the batch
pub either-holds : (history : List Act) (count many : ℕ) (list batch : List (List ℕ)) (image : List ℕ) → IsNext history count many list batch → StandsForEither list batch image → HoldsFront count history image
either-holds history count many list batch image is (inl old) = record { acts = count; held = (list, old, is.spelled); at_least = omega arith; within = omega (arith, is.within) }
either-holds history count many list batch image is (inr new) = record { acts = count + many; held = (list ++ batch, new, next-spelled history count many list batch is); at_least = omega arith; within = is.within }

-- the same at some moment
pub either-since : {Early : Type 0} (history : List Act) (count many : ℕ) (list batch : List (List ℕ)) (image : List ℕ) → IsNext history count many list batch → Early ⊎ StandsForEither list batch image → Early ⊎ HoldsFront count history image
either-since history count many list batch image is (inl early) = inl early
either-since history count many list batch image is (inr stands) = inr (either-holds history count many list batch image is stands)

-- the journal has as many payloads as the history has acts
pub stored-count : {D : Type 0} (drive : D → Drive) (history : List Act) (journal : JournalView D) → HasStored drive history journal → journal.count ≡ length history
stored-count drive history journal stored = stored.kept.count ∙ sym (AllZip-long Spells stored.list history stored.spelled)

-- a front of a history is what the history begins with
pub front-same : (history : List Act) → IsFront history history
front-same history = ([], sym (append-nil history))

pub front-longer : (before after : List Act) → IsFront before after → length before ≤ length after
front-longer before after front = omega (arith, ap length front.1, length-append before front.0)

pub front-take : (count : ℕ) (before after : List Act) → IsFront before after → count ≤ length before → take count after ≡ take count before
front-take count before after front inside = ap (take count) front.1 ∙ take-append-le count before front.0 inside

pub front-stored : {D : Type 0} (drive : D → Drive) (before after : List Act) (journal : JournalView D) → IsFront before after → HasStored drive before journal → HasStored drive (take journal.count after) journal
front-stored drive before after journal front stored =
    let counted = stored-count drive before journal stored in
    let same : take journal.count after ≡ before = ap (λ (n : ℕ). take n after) counted ∙ (front-take (length before) before after front (omega arith) ∙ take-length before) in
    subst (λ (acts : List Act). HasStored drive acts journal) (sym same) stored

-- an image of a disk that has a history stored holds it
pub stored-holds : {D : Type 0} (drive : D → Drive) (history : List Act) (journal : JournalView D) (image : List ℕ) → HasStored drive history journal → (drive journal.disk).image image → Holds image history
stored-holds drive history journal image stored now =
    let at = stored.kept.stored in
    let same : image ≡ (drive journal.disk).bytes = at.stored image now in
    (stored.list, inr (at.batches, at.gate, at.rest, subst (HasGates at.batches at.gate at.rest) (sym same) at.gates, at.listed), stored.spelled)

-- an image that holds a front of a history holds one of what goes on from it, of fewer acts at the least
pub front-holds : (least more : ℕ) (before after : List Act) (image : List ℕ) → IsFront before after → least ≤ more → HoldsFront more before image → HoldsFront least after image
front-holds least more before after image front few holds = record {
  acts = holds.acts;
  held = subst (Holds image) (sym (front-take holds.acts before after front holds.within)) holds.held;
  at_least = omega (arith, few, holds.at_least);
  within = omega (arith, holds.within, front-longer before after front);
}

-- an image that holds the history on which the replies rest
pub whole-answered : (turns : List Turn) (history : List Act) (image : List ℕ) → All (λ turn. rests_of turn.reply ≤ length history) turns → Holds image history → HoldsAnswered turns history image
whole-answered turns history image rests holds = record {
  acts = length history;
  held = subst (Holds image) (sym (take-length history)) holds;
  answered = rests;
  within = omega arith;
}

-- the disk holds the history that its journal has stored
pub held-first : {D : Type 0} (drive : D → Drive) (is_drive : (d : D) → IsDrive (drive d)) (history : List Act) (journal : JournalView D) → Honestly (drive journal.disk) (HasStored drive history journal)
    → Honestly (drive journal.disk) (Holds (drive journal.disk).bytes history)
held-first drive is_drive history journal stored honest =
    stored-holds drive history journal (drive journal.disk).bytes (stored honest) ((is_drive journal.disk).bytes honest)

-- the journal as the run begins
pub storing-init : {D : Type 0} (drive : D → Drive) (history : List Act) (journal : JournalView D) → Honestly (drive journal.disk) (HasStored drive history journal) → Storing drive journal.disk history history journal
storing-init drive history journal stored = record {
  stored = stored;
  since = λ honest moment image early since. inl since;
  front = take-length history;
  longer = omega arith;
  goes_on = goes_on-same (drive journal.disk);
}

-- an image of a moment while more acts were stored
pub since-front : (least more : ℕ) (before after : List Act) (image : List ℕ) {Early Earlier : Type 0} → IsFront before after → least ≤ more
    → (Earlier → Early ⊎ HoldsFront least before image) → Earlier ⊎ HoldsFront more after image → Early ⊎ HoldsFront least after image
since-front least more before after image front few back (inl earlier) =
    elim (back earlier) [ inl early ↦ inl early | inr held ↦ inr (front-holds least least before after image front (omega arith) held) ]
since-front least more before after image front few back (inr held) = inr (front-holds least more after after image (front-same after) few held)

-- while a line's acts were stored, each image since the run began is one that was there or holds a front
pub storing-since : {D : Type 0} (drive : D → Drive) (disk : D) (first before after : List Act) (journal next : JournalView D)
    → Storing drive disk first before journal → IsFront before after
    → (HasStored drive before journal → (moment : ℕ) (image : List ℕ) → moment ≤ (drive journal.disk).moment → (drive next.disk).image_since moment image
    → (drive journal.disk).image_since moment image ⊎ HoldsFront (length before) after image)
    → Honestly (drive disk) ((moment : ℕ) (image : List ℕ) → moment ≤ (drive disk).moment → (drive next.disk).image_since moment image
    → (drive disk).image_since moment image ⊎ HoldsFront (length first) after image)
storing-since drive disk first before after journal next s front since honest moment image early now =
    since-front (length first) (length before) before after image front s.longer (λ earlier. s.since honest moment image early earlier)
    (since (s.stored honest) moment image (omega (arith, early, s.goes_on.moment)) now)

-- the acts of a line more are stored
pub storing-more : {D : Type 0} (drive : D → Drive) (disk : D) (first before after : List Act) (journal next : JournalView D)
    → Storing drive disk first before journal → IsFront before after
    → (HasStored drive before journal → HasStored drive after next)
    → (HasStored drive before journal → (moment : ℕ) (image : List ℕ) → moment ≤ (drive journal.disk).moment → (drive next.disk).image_since moment image
    → (drive journal.disk).image_since moment image ⊎ HoldsFront (length before) after image)
    → GoesOn (drive journal.disk) (drive next.disk)
    → Storing drive disk first after next
storing-more drive disk first before after journal next s front ok since goes = record {
  stored = λ honest. ok (s.stored honest);
  since = storing-since drive disk first before after journal next s front since;
  front = front-take (length first) before after front s.longer ∙ s.front;
  longer = omega (arith, s.longer, front-longer before after front);
  goes_on = goes_on-trans (drive disk) (drive journal.disk) (drive next.disk) s.goes_on goes;
}

-- while a line's acts were stored and the disk failed, an image has every act on which the earlier replies rest
pub lost-answered : (turns : List Turn) (before after : List Act) (image : List ℕ) → All (λ turn. rests_of turn.reply ≤ length before) turns → HoldsFront (length before) after image → HoldsAnswered turns after image
lost-answered turns before after image rests holds =
    let wider : (t : Turn) → rests_of t.reply ≤ length before → rests_of t.reply ≤ holds.acts = λ t few. omega (arith, few, holds.at_least) in
    record {
      acts = holds.acts;
      held = holds.held;
      answered = All-weaker (λ t. rests_of t.reply ≤ length before) (λ t. rests_of t.reply ≤ holds.acts) wider turns rests;
      within = holds.within;
    }
