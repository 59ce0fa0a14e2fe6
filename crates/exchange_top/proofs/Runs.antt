-- A run so far, how it goes on by a line, and how it ends.
use Rattle.std.proofs.Common.{◌≡◌, ℕ, ◌+◌, List, [], ◌∷◌, ◌++◌, length, take, drop, Option, Some, None, refl, sym, ◌∙◌, ap, subst, inl, inr, arith, append_assoc, length-append}
use Rattle.std.specs.Prelude.{◌⊎◌, ◌≤◌, All}
use Rattle.std.specs.Io.KnownBytes.{Appends}
use Rattle.std.proofs.lemmas.List.{append-nil, map-append, length-map}
use Rattle.std.proofs.lemmas.Grind.{flat_map-append}
use Rattle.std.proofs.lemmas.List.Elements.{All-nil, All-push, All-take, All-weaker}
use Rattle.std.proofs.Math.Seq.{take-append_seam, take-length, drop-append_seam}
use Rattle.outside_faults.proofs.Told.{IfTold-trans, IfTold-weaker, IfTold-same}
use Rattle.outside_faults.specs.Told.{IfTold}
use Rattle.line_link.specs.Lines.{Heard, heard_lines, newlines, AppendsFront, IsFirstLine}
use Rattle.line_link.specs.LineReader.{LineReaderView, Takes, TakesNoLine}
use Rattle.line_link.specs.declared.status.Status.{Status}
use Rattle.line_link.specs.declared.status.Status.TheVariants.{Done, WriteFault, DiskFault, Memory}
use Rattle.line_link.proofs.FirstLines.{first-heard, first-split, newlines-append}
use Rattle.command_words.specs.Reply.{rests_of}
use Rattle.command_words.specs.declared.act.Act.{Act}
use Rattle.journal_disk.specs.Drive.{Drive, IsDrive, IsStored, Honestly}
use Rattle.journal_disk.specs.Steps.{GoesOn}
use Rattle.journal_store.specs.Journal.{JournalView}
use Rattle.settle_core.specs.Bounds.{Bounds, standard}
use Rattle.settle_core.specs.Legal.{IsLegal}
use Rattle.ledger_lock.specs.Turns.{EndsForRoom}
use Rattle.exchange_top.proofs.Payments.{AllAreLegal, all-fair, all-pay, answered-legal, fronts-legal}
use Rattle.exchange_top.proofs.Turns.{IsSmallStep, line-step}
use Rattle.exchange_top.proofs.Stores.{Storing, goes_on-trans, held-first, stored-holds, whole-answered, lost-answered, front-longer, front-take, storing-init, storing-since}
use Rattle.exchange_top.specs.declared.serving.TheConstants.{MAX_INPUT}
use Rattle.wire_json.specs.ReplyText.{text_of}
use Rattle.exchange_top.specs.Holds.{Holds, HoldsFront, HasStored}
use Rattle.exchange_top.specs.Run.{Outside, Served, IsRead, AreFirst, AreWhole, IsWritten, HoldsAnswered, lines_of, moments_of, written, texts}
use Rattle.exchange_top.specs.Talk.{Turn, IsTalk, AnsweredLine}

-- The input is what was told as lines, then what is pending, and then the rest that the source has left. Each newline of
-- what was told ended a line.
pub record HasTaken (turns : List Turn) (reader : LineReaderView) (input rest : List ℕ) : Type 0 where
  pub told : List ℕ
  pub split : input ≡ told ++ (reader.pending ++ rest)
  pub no_fewer : newlines told ≤ length turns
  pub counted : length input ≡ reader.taken + length rest

-- so many lines were answered, this history is left, and the reader and the outside are so
pub record Serving (first : List Act) (lines : ℕ) (history : List Act) (reader : LineReaderView) (before now : Outside) : Type 0 where
  pub turns : List Turn
  pub counted : length turns ≡ lines
  pub talk : IsTalk standard first turns history
  pub rests : All (λ turn. rests_of turn.reply ≤ length history) turns
  pub stops : All (λ turn. EndsForRoom turn.reply) turns
  pub read : IfTold before.left now.left (λ input rest. heard_lines input ≡ lines_of turns ++ heard_lines (reader.pending ++ rest))
  pub taken : IfTold before.left now.left (HasTaken turns reader)
  pub moments : (earlier : List ℕ) → before.told earlier → now.told (earlier ++ moments_of turns)
  pub texts : IfTold before.held now.held (λ old new. new ≡ old ++ texts turns)

-- nothing is read yet
serving-start : (first : List Act) (limit : ℕ) (text : List ℕ) (before : Outside) → Serving first 0 first (record { pending = []; taken = 0; limit = limit; text = text }) before before
serving-start first limit text before = record {
  turns = [];
  counted = refl;
  talk = refl;
  rests = All-nil _;
  stops = All-nil _;
  read = IfTold-same before.left _ (λ input. refl);
  taken = IfTold-same before.left _ (λ input. record { told = []; split = refl; no_fewer = omega arith; counted = omega arith });
  moments = λ earlier was. subst before.told (sym (append-nil earlier)) was;
  texts = IfTold-same before.held _ (λ old. sym (append-nil old));
}

-- the reader and the exchange as they are made
pub serving-init : (first : List Act) (reader : LineReaderView) (before : Outside) → reader ≡ record { pending = []; taken = 0; limit = MAX_INPUT; text = [] } → Serving first 0 first reader before before
serving-init first reader before fresh =
    subst (λ (r : LineReaderView). Serving first 0 first r before before) (sym fresh) (serving-start first MAX_INPUT [] before)

-- a talk goes on by one turn
IsTalk-more : (limits : Bounds) (first mid last : List Act) (turns : List Turn) (turn : Turn) → IsTalk limits first turns mid → AnsweredLine limits mid turn.line turn.moment turn.reply last → IsTalk limits first (turns ++ turn ∷ []) last
IsTalk-more limits first mid last [] turn talk answered =
    (last, subst (λ (h : List Act). AnsweredLine limits h turn.line turn.moment turn.reply last) talk answered, refl)
IsTalk-more limits first mid last (t ∷ turns) turn talk answered =
    (talk.0, talk.1, IsTalk-more limits talk.0 mid last turns turn talk.2 answered)

-- what was told so far rests on no more than the history has with one turn more
pub rests-more : (history after : List Act) (turns : List Turn) (turn : Turn) → All (λ t. rests_of t.reply ≤ length history) turns → IsSmallStep history after turn.reply
    → All (λ t. rests_of t.reply ≤ length after) (turns ++ turn ∷ [])
rests-more history after turns turn so_far small =
    let wider : (t : Turn) → rests_of t.reply ≤ length history → rests_of t.reply ≤ length after = λ t few. omega (arith, few, front-longer history after small.step) in
    All-push (λ t. rests_of t.reply ≤ length after) turns turn (All-weaker (λ t. rests_of t.reply ≤ length history) (λ t. rests_of t.reply ≤ length after) wider turns so_far) small.rests

-- and none of it was stopped but for room
stops-more : (turns : List Turn) (turn : Turn) → All (λ t. EndsForRoom t.reply) turns → EndsForRoom turn.reply → All (λ t. EndsForRoom t.reply) (turns ++ turn ∷ [])
stops-more turns turn so_far one = All-push (λ t. EndsForRoom t.reply) turns turn so_far one

-- the texts with one more
texts-more : (turns : List Turn) (turn : Turn) → texts (turns ++ turn ∷ []) ≡ texts turns ++ text_of turn.reply
texts-more turns turn =
    flat_map-append (λ (t : Turn). text_of t.reply) turns (turn ∷ []) ∙ ap (λ (bytes : List ℕ). texts turns ++ bytes) (append-nil (text_of turn.reply))

heard_more : (input pending rest pending' rest' : List ℕ) (turns : List Turn) (turn : Turn)
    → heard_lines input ≡ lines_of turns ++ heard_lines (pending ++ rest)
    → IsFirstLine turn.line (pending ++ rest) (pending' ++ rest')
    → heard_lines input ≡ lines_of (turns ++ turn ∷ []) ++ heard_lines (pending' ++ rest')
heard_more input pending rest pending' rest' turns turn so_far next =
    so_far ∙ (ap (λ (heard : List Heard). lines_of turns ++ heard) (first-heard turn.line (pending ++ rest) (pending' ++ rest') next)
    ∙ (sym (append_assoc (lines_of turns) (turn.line ∷ []) (heard_lines (pending' ++ rest')))
    ∙ ap (λ (heard : List Heard). heard ++ heard_lines (pending' ++ rest')) (sym (map-append (λ (t : Turn). t.line) turns (turn ∷ [])))))

-- one line more was told
taken_more : (turns : List Turn) (turn : Turn) (reader reader' : LineReaderView) (input rest rest' : List ℕ) → HasTaken turns reader input rest
    → IsFirstLine turn.line (reader.pending ++ rest) (reader'.pending ++ rest') → Takes reader.taken reader'.taken rest rest'
    → HasTaken (turns ++ turn ∷ []) reader' input rest'
taken_more turns turn reader reader' input rest rest' has line took =
    let front = first-split turn.line (reader.pending ++ rest) (reader'.pending ++ rest') line in
    record {
      told = has.told ++ front.0;
      split = has.split ∙ ap (λ (bytes : List ℕ). has.told ++ bytes) front.1 ∙ sym (append_assoc has.told front.0 (reader'.pending ++ rest'));
      no_fewer = omega (arith, newlines-append has.told front.0, has.no_fewer, front.2, length-append turns (turn ∷ []));
      counted = omega (arith, has.counted, took.counted, ap length took.bytes, length-append took.since rest');
    }

-- what was told before and after, with one more
told_more : (told_before told_now told_next : List ℕ → Type 0) (turns : List Turn) (turn : Turn)
    → ((earlier : List ℕ) → told_before earlier → told_now (earlier ++ moments_of turns))
    → ((moments : List ℕ) → told_now moments → told_next (moments ++ turn.moment ∷ []))
    → (earlier : List ℕ) → told_before earlier → told_next (earlier ++ moments_of (turns ++ turn ∷ []))
told_more told_before told_now told_next turns turn so_far tick earlier was =
    let again : earlier ++ moments_of (turns ++ turn ∷ []) ≡ (earlier ++ moments_of turns) ++ turn.moment ∷ [] =
    ap (λ (ms : List ℕ). earlier ++ ms) (map-append (λ (t : Turn). t.moment) turns (turn ∷ [])) ∙ sym (append_assoc earlier (moments_of turns) (turn.moment ∷ [])) in
    subst told_next (sym again) (tick (earlier ++ moments_of turns) (so_far earlier was))

pub Appends-told : (old new : Option (List ℕ)) (bytes : List ℕ) → Appends old new bytes → IfTold old new (λ a b. b ≡ a ++ bytes)
Appends-told None new bytes appends = tt
Appends-told (Some a) None bytes appends = absurd appends
Appends-told (Some a) (Some b) bytes appends = appends

joined : (a b c x y : List ℕ) → b ≡ a ++ x → c ≡ b ++ y → c ≡ a ++ (x ++ y)
joined a b c x y first second = second ∙ (ap (λ (bytes : List ℕ). bytes ++ y) first ∙ append_assoc a x y)

-- the texts written so far, and more bytes
texts_then : (held_before held_now held_next : Option (List ℕ)) (turns : List Turn) (bytes : List ℕ)
    → IfTold held_before held_now (λ old new. new ≡ old ++ texts turns)
    → Appends held_now held_next bytes
    → IfTold held_before held_next (λ old new. new ≡ old ++ (texts turns ++ bytes))
texts_then held_before held_now held_next turns bytes so_far appends =
    IfTold-trans held_before held_now held_next _ _ _ (λ a b c first second. joined a b c (texts turns) bytes first second) so_far (Appends-told held_now held_next bytes appends)

-- A line was told at a moment, by a reader over an outside, and answered over a history.
pub record IsTurn (history after : List Act) (turn : Turn) (reader reader' : LineReaderView) (now next : Outside) : Type 0 where
  pub line : IfTold now.left next.left (λ rest rest'. IsFirstLine turn.line (reader.pending ++ rest) (reader'.pending ++ rest'))
  pub took : IfTold now.left next.left (Takes reader.taken reader'.taken)
  pub tick : (moments : List ℕ) → now.told moments → next.told (moments ++ turn.moment ∷ [])
  pub answered : AnsweredLine standard history turn.line turn.moment turn.reply after
  pub stopped : EndsForRoom turn.reply

-- both hold where anything is told
both-told : (a b : Option (List ℕ)) (P Q : List ℕ → List ℕ → Type 0) → IfTold a b P → IfTold a b Q → IfTold a b (λ x y. P x y × Q x y)
both-told None b P Q one two = tt
both-told (Some x) None P Q one two = absurd one
both-told (Some x) (Some y) P Q one two = (one, two)

-- one line more is read, answered and written
pub serving-step : (first : List Act) (lines : ℕ) (history after : List Act) (turn : Turn) (reader reader' : LineReaderView) (before now next : Outside)
    → Serving first lines history reader before now → IsTurn history after turn reader reader' now next → Appends now.held next.held (text_of turn.reply)
    → Serving first (lines + 1) after reader' before next
serving-step first lines history after turn reader reader' before now next s is appends = record {
  turns = s.turns ++ turn ∷ [];
  counted = omega (arith, s.counted, length-append s.turns (turn ∷ []));
  talk = IsTalk-more standard first history after s.turns turn s.talk is.answered;
  rests = rests-more history after s.turns turn s.rests (line-step standard history after turn.line turn.moment turn.reply is.answered);
  stops = stops-more s.turns turn s.stops is.stopped;
  read = IfTold-trans before.left now.left next.left _ _ _ (λ input rest rest' so_far line. heard_more input reader.pending rest reader'.pending rest' s.turns turn so_far line) s.read is.line;
  taken = IfTold-trans before.left now.left next.left _ _ _ (λ input rest rest' so_far more. taken_more s.turns turn reader reader' input rest rest' so_far more.0 more.1) s.taken (both-told now.left next.left _ _ is.line is.took);
  moments = told_more before.told now.told next.told s.turns turn s.moments is.tick;
  texts = IfTold-weaker before.held next.held _ _ (λ a b h. h ∙ ap (λ (bytes : List ℕ). a ++ bytes) (sym (texts-more s.turns turn))) (texts_then before.held now.held next.held s.turns (text_of turn.reply) s.texts appends);
}

-- all texts were written whole
written-whole : (lines : ℕ) (turns : List Turn) → length turns ≡ lines → written lines 0 turns ≡ texts turns
written-whole lines turns counted =
    ap (λ (n : ℕ). texts (take n turns) ++ []) (sym counted) ∙ (append-nil (texts (take (length turns) turns)) ∙ ap texts (take-length turns))

-- the lines that were heard are the first of the input
AreFirst-front : (input : List ℕ) (heard rest : List Heard) → heard_lines input ≡ heard ++ rest → AreFirst heard input
AreFirst-front input heard rest all = ap (take (length heard)) all ∙ take-append_seam heard rest

-- the source ended: every line was heard
pub serving-all : (first : List Act) (lines : ℕ) (history : List Act) (reader : LineReaderView) (before now : Outside) (left_next : Option (List ℕ))
    → (s : Serving first lines history reader before now)
    → IfTold now.left left_next (λ rest rest'. (reader.pending ++ rest ≡ []) × (rest' ≡ []))
    → IfTold before.left left_next (IsRead Done (lines_of s.turns))
serving-all first lines history reader before now left_next s end =
    IfTold-trans before.left now.left left_next _ _ _ (λ input rest rest' so_far ends.
    (sym (so_far ∙ (ap (λ (bytes : List ℕ). lines_of s.turns ++ heard_lines bytes) ends.0 ∙ append-nil (lines_of s.turns))), ends.1)) s.read end

-- the source failed or the limit came: every line that ends in what was taken was heard
whole-lines : (turns : List Turn) (reader : LineReaderView) (count : ℕ) (input rest rest' : List ℕ) → heard_lines input ≡ lines_of turns ++ heard_lines (reader.pending ++ rest)
    → HasTaken turns reader input rest → Takes reader.taken count rest rest' → TakesNoLine reader.pending rest rest' → AreWhole (lines_of turns) input rest'
whole-lines turns reader count input rest rest' so_far has took none =
    let more = reader.pending ++ took.since in
    record {
      first = AreFirst-front input (lines_of turns) (heard_lines (reader.pending ++ rest)) so_far;
      taken = has.told ++ more;
      split = has.split ∙ ap (λ (bytes : List ℕ). has.told ++ (reader.pending ++ bytes)) took.bytes
          ∙ ap (λ (bytes : List ℕ). has.told ++ bytes) (sym (append_assoc reader.pending took.since rest'))
          ∙ sym (append_assoc has.told more rest');
      no_fewer = omega (arith, newlines-append has.told more, none took.since took.bytes, has.no_fewer, length-map turns (λ (t : Turn). t.line));
    }

pub serving-whole : (first : List Act) (lines count : ℕ) (history : List Act) (reader : LineReaderView) (before now : Outside) (left_next : Option (List ℕ))
    → (s : Serving first lines history reader before now) → IfTold now.left left_next (Takes reader.taken count) → IfTold now.left left_next (TakesNoLine reader.pending)
    → IfTold before.left left_next (AreWhole (lines_of s.turns))
serving-whole first lines count history reader before now left_next s took none =
    IfTold-trans before.left now.left left_next _ _ _ (λ input rest rest' so_far more. whole-lines s.turns reader count input rest rest' so_far.0 so_far.1 more.0 more.1)
    (both-told before.left now.left _ _ s.read s.taken) (both-told now.left left_next _ _ took none)

-- how many bytes were taken in all
pub serving-taken : (first : List Act) (lines count : ℕ) (history : List Act) (reader : LineReaderView) (before now : Outside) (left_next : Option (List ℕ))
    → (s : Serving first lines history reader before now) → IfTold now.left left_next (Takes reader.taken count)
    → IfTold before.left left_next (λ input rest. length input ≡ count + length rest)
serving-taken first lines count history reader before now left_next s took =
    IfTold-trans before.left now.left left_next _ _ _ (λ input rest rest' so_far more. omega (arith, so_far.counted, more.counted, ap length more.bytes, length-append more.since rest')) s.taken took

-- the texts of all turns but the last, and some bytes of the last
written-cut : (lines more : ℕ) (turns : List Turn) (turn : Turn) → length turns ≡ lines → written lines more (turns ++ turn ∷ []) ≡ texts turns ++ take more (text_of turn.reply)
written-cut lines more turns turn counted =
    ap (λ (n : ℕ). texts (take n (turns ++ turn ∷ [])) ++ take more (texts (drop n (turns ++ turn ∷ [])))) (sym counted)
    ∙ (ap (λ (ts : List Turn). texts ts ++ take more (texts (drop (length turns) (turns ++ turn ∷ [])))) (take-append_seam turns (turn ∷ []))
    ∙ (ap (λ (ts : List Turn). texts turns ++ take more (texts ts)) (drop-append_seam turns (turn ∷ []))
    ∙ ap (λ (bytes : List ℕ). texts turns ++ take more bytes) (append-nil (text_of turn.reply))))

length-cut : (lines : ℕ) (turns : List Turn) (turn : Turn) → length turns ≡ lines → length (texts (drop lines (turns ++ turn ∷ []))) ≡ length (text_of turn.reply)
length-cut lines turns turn counted =
    ap (λ (n : ℕ). length (texts (drop n (turns ++ turn ∷ [])))) (sym counted)
    ∙ (ap (λ (ts : List Turn). length (texts ts)) (drop-append_seam turns (turn ∷ [])) ∙ ap length (append-nil (text_of turn.reply)))

-- A run over a recovered exchange is over. What is left of the disk is given by `last`, and what was told of it by
-- what each of its images holds now, and held at each moment.
pub record Over {D : Type 0} (drive : D → Drive) (disk : D) (first : List Act) (status : Status) (turns : List Turn) (lines : ℕ) (history : List Act) (last : D) : Type 0 where
  pub recovered : Honestly (drive disk) (Holds (drive disk).bytes first)
  pub kept : Honestly (drive disk) ((image : List ℕ) → (drive last).image image → HoldsAnswered (take lines turns) history image)
  pub whole : Honestly (drive disk) ((status ≡ DiskFault → ⊥) → (image : List ℕ) → (drive last).image image → Holds image history)
  pub since : Honestly (drive disk) ((moment : ℕ) (image : List ℕ) → moment ≤ (drive disk).moment → (drive last).image_since moment image
      → (drive disk).image_since moment image ⊎ HoldsFront (length first) history image)
  pub front : take (length first) history ≡ first
  pub longer : length first ≤ length history
  pub goes_on : GoesOn (drive disk) (drive last)

-- where nothing was pending as it began, a crash since then left the first history at the least
since-began : {D : Type 0} (drive : D → Drive) (is_drive : (d : D) → IsDrive (drive d)) (disk : D) (first : List Act) (status : Status) (turns : List Turn) (lines : ℕ) (history : List Act) (last : D)
    → Over drive disk first status turns lines history last
    → Honestly (drive disk) (IsStored (drive disk) → (image : List ℕ) → (drive last).image_since (drive disk).moment image → HoldsFront (length first) history image)
since-began drive is_drive disk first status turns lines history last over honest stored image now =
    elim (over.since honest (drive disk).moment image (omega arith) now) [
      | inl early ↦ record {
        acts = length first;
        held = subst (Holds image) (sym over.front) (subst (λ (bytes : List ℕ). Holds bytes first) (sym (stored image ((is_drive disk).at_present image early))) (over.recovered honest));
        at_least = omega arith;
        within = over.longer;
      }
      | inr front ↦ front
    ]

-- the run, put together
served : {D : Type 0} (drive : D → Drive) (is_drive : (d : D) → IsDrive (drive d)) (disk : D) (first : List Act) (status : Status) (turns : List Turn) (lines more : ℕ) (history : List Act) (last : D) (before next : Outside)
    → Over drive disk first status turns lines history last
    → IsTalk standard first turns history → All (λ turn. EndsForRoom turn.reply) turns → IsLegal standard history
    → IfTold before.left next.left (IsRead status (lines_of turns))
    → ((earlier : List ℕ) → before.told earlier → next.told (earlier ++ moments_of turns))
    → IfTold before.held next.held (λ old new. new ≡ old ++ written lines more turns)
    → IsWritten status lines more turns
    → Served drive disk first (record { status = status; lines = lines; acts = length history; disk = last }) before next
served drive is_drive disk first status turns lines more history last before next over talk stops legal read moments texts counted = record {
  ran = record {
    first = first;
    turns = turns;
    history = history;
    more = more;
    recovered = over.recovered;
    talk = talk;
    stops = stops;
    legal = legal;
    read = read;
    moments = moments;
    texts = texts;
    counted = counted;
    acts = refl;
    kept = over.kept;
    whole = over.whole;
    since = since-began drive is_drive disk first status turns lines history last over;
    pays = λ honest. all-pay (drive last).image (now honest);
    paid_since = λ honest stored. all-pay ((drive last).image_since (drive disk).moment) (then honest stored);
    fair = λ honest. all-fair (drive last).image (now honest);
    fair_since = λ honest stored. all-fair ((drive last).image_since (drive disk).moment) (then honest stored);
  };
  from_first = refl;
  front = over.front;
  longer = over.longer;
  goes_on = over.goes_on;
  since = over.since;
}
  where
    now : Honestly (drive disk) (AllAreLegal (drive last).image)
    now = λ honest. answered-legal (drive last).image (take lines turns) history legal (over.kept honest)

    then : Honestly (drive disk) (IsStored (drive disk) → AllAreLegal ((drive last).image_since (drive disk).moment))
    then = λ honest stored. fronts-legal ((drive last).image_since (drive disk).moment) (length first) history legal (since-began drive is_drive disk first status turns lines history last over honest stored)

-- the journal has all stored, and every text was written
over-whole : {D : Type 0} (drive : D → Drive) (disk : D) (first history : List Act) (status : Status) (turns : List Turn) (lines : ℕ) (journal : JournalView D)
    → Storing drive disk first history journal → Honestly (drive disk) (Holds (drive disk).bytes first)
    → All (λ turn. rests_of turn.reply ≤ length history) turns → Over drive disk first status turns lines history journal.disk
over-whole drive disk first history status turns lines journal s recovered rests = record {
  recovered = recovered;
  kept = λ honest image now. whole-answered (take lines turns) history image (All-take (λ turn. rests_of turn.reply ≤ length history) lines turns rests) (stored-holds drive history journal image (s.stored honest) now);
  whole = λ honest fine image now. stored-holds drive history journal image (s.stored honest) now;
  since = s.since;
  front = s.front;
  longer = s.longer;
  goes_on = s.goes_on;
}

-- no line was told, and the run ends so
pub serving-end : {D : Type 0} (drive : D → Drive) (is_drive : (d : D) → IsDrive (drive d)) (disk : D) (first : List Act) (status : Status) (lines : ℕ) (history : List Act) (reader : LineReaderView) (journal : JournalView D)
    (before now : Outside) (left_next : Option (List ℕ))
    → (s : Serving first lines history reader before now)
    → Storing drive disk first history journal → Honestly (drive disk) (Holds (drive disk).bytes first) → IsLegal standard history
    → IfTold before.left left_next (IsRead status (lines_of s.turns))
    → (length s.turns ≡ lines → IsWritten status lines 0 s.turns)
    → Served drive disk first (record { status = status; lines = lines; acts = length history; disk = journal.disk }) before (record now { left = left_next })
serving-end drive is_drive disk first status lines history reader journal before now left_next s storing recovered legal read whole =
    served drive is_drive disk first status s.turns lines 0 history journal.disk before (record now { left = left_next })
    (over-whole drive disk first history status s.turns lines journal storing recovered s.rests) s.talk s.stops legal read s.moments
    (IfTold-weaker before.held now.held _ _ (λ a b h. h ∙ ap (λ (bytes : List ℕ). a ++ bytes) (sym (written-whole lines s.turns s.counted))) s.texts)
    (whole s.counted)

-- memory was wanting as the run began, and it read no line
pub serving-none : {D : Type 0} (drive : D → Drive) (is_drive : (d : D) → IsDrive (drive d)) (first : List Act) (journal : JournalView D) (before : Outside)
    → Honestly (drive journal.disk) (HasStored drive first journal) → IsLegal standard first
    → Served drive journal.disk first (record { status = Memory; lines = 0; acts = length first; disk = journal.disk }) before before
unfolding serving-start
serving-none drive is_drive first journal before stored legal =
    serving-end drive is_drive journal.disk first Memory 0 first (record { pending = []; taken = 0; limit = 0; text = [] }) journal before before before.left
    (serving-start first 0 [] before) (storing-init drive first journal stored) (held-first drive is_drive first journal stored) legal
    (IfTold-same before.left _ (λ input. (refl, refl))) (λ whole. whole)

-- what is read of a line that was told last
read-last : (first : List Act) (lines : ℕ) (history after : List Act) (turn : Turn) (reader reader' : LineReaderView) (before now next : Outside)
    → (s : Serving first lines history reader before now) → IsTurn history after turn reader reader' now next
    → IfTold before.left next.left (λ input rest. AreFirst (lines_of (s.turns ++ turn ∷ [])) input)
read-last first lines history after turn reader reader' before now next s is =
    IfTold-trans before.left now.left next.left _ _ _ (λ input rest rest' so_far line.
    AreFirst-front input (lines_of (s.turns ++ turn ∷ [])) (heard_lines (reader'.pending ++ rest')) (heard_more input reader.pending rest reader'.pending rest' s.turns turn so_far line)) s.read is.line

-- the line was answered and stored, and the sink failed before its text was written whole
pub serving-cut : {D : Type 0} (drive : D → Drive) (is_drive : (d : D) → IsDrive (drive d)) (disk : D) (first : List Act) (lines : ℕ) (history after : List Act) (turn : Turn) (reader reader' : LineReaderView) (journal : JournalView D)
    (before now next : Outside)
    → Serving first lines history reader before now
    → Storing drive disk first after journal → Honestly (drive disk) (Holds (drive disk).bytes first) → IsLegal standard after
    → IsTurn history after turn reader reader' now next
    → AppendsFront now.held next.held (text_of turn.reply)
    → Served drive disk first (record { status = WriteFault; lines = lines; acts = length after; disk = journal.disk }) before next
serving-cut drive is_drive disk first lines history after turn reader reader' journal before now next s storing recovered legal is front =
    served drive is_drive disk first WriteFault (s.turns ++ turn ∷ []) lines front.0 after journal.disk before next
    (over-whole drive disk first after WriteFault (s.turns ++ turn ∷ []) lines journal storing recovered (rests-more history after s.turns turn s.rests (line-step standard history after turn.line turn.moment turn.reply is.answered)))
    (IsTalk-more standard first history after s.turns turn s.talk is.answered) (stops-more s.turns turn s.stops is.stopped) legal
    (read-last first lines history after turn reader reader' before now next s is)
    (told_more before.told now.told next.told s.turns turn s.moments is.tick)
    (IfTold-weaker before.held next.held _ _ (λ a b h. h ∙ ap (λ (bytes : List ℕ). a ++ bytes) (sym (written-cut lines front.0 s.turns turn s.counted)))
    (texts_then before.held now.held next.held s.turns (take front.0 (text_of turn.reply)) s.texts front.2))
    (omega (arith, s.counted, length-append s.turns (turn ∷ [])), rw (length-cut lines s.turns turn s.counted) front.1)

-- the line was answered, and the disk failed as it was stored: nothing of its text was written
pub serving-lost : {D : Type 0} (drive : D → Drive) (is_drive : (d : D) → IsDrive (drive d)) (disk : D) (first : List Act) (lines : ℕ) (history after : List Act) (turn : Turn) (reader reader' : LineReaderView) (journal later : JournalView D)
    (before now next : Outside)
    → Serving first lines history reader before now
    → Storing drive disk first history journal → Honestly (drive disk) (Holds (drive disk).bytes first) → IsLegal standard after
    → IsTurn history after turn reader reader' now next → next.held ≡ now.held
    → (HasStored drive history journal → (image : List ℕ) → (drive later.disk).image image → HoldsFront (length history) after image)
    → (HasStored drive history journal → (moment : ℕ) (image : List ℕ) → moment ≤ (drive journal.disk).moment → (drive later.disk).image_since moment image
    → (drive journal.disk).image_since moment image ⊎ HoldsFront (length history) after image)
    → GoesOn (drive journal.disk) (drive later.disk)
    → Served drive disk first (record { status = DiskFault; lines = lines; acts = length after; disk = later.disk }) before next
serving-lost drive is_drive disk first lines history after turn reader reader' journal later before now next s storing recovered legal is same image since goes =
    let small = line-step standard history after turn.line turn.moment turn.reply is.answered in
    let few : take lines (s.turns ++ turn ∷ []) ≡ s.turns = ap (λ (n : ℕ). take n (s.turns ++ turn ∷ [])) (sym s.counted) ∙ take-append_seam s.turns (turn ∷ []) in
    served drive is_drive disk first DiskFault (s.turns ++ turn ∷ []) lines 0 after later.disk before next
    (record {
      recovered = recovered;
      kept = λ honest bytes there. subst (λ (ts : List Turn). HoldsAnswered ts after bytes) (sym few) (lost-answered s.turns history after bytes s.rests (image (storing.stored honest) bytes there));
      whole = λ honest fine. absurd (fine refl);
      since = storing-since drive disk first history after journal later storing small.step since;
      front = front-take (length first) history after small.step storing.longer ∙ storing.front;
      longer = omega (arith, storing.longer, front-longer history after small.step);
      goes_on = goes_on-trans (drive disk) (drive journal.disk) (drive later.disk) storing.goes_on goes;
    })
    (IsTalk-more standard first history after s.turns turn s.talk is.answered) (stops-more s.turns turn s.stops is.stopped) legal
    (read-last first lines history after turn reader reader' before now next s is)
    (told_more before.told now.told next.told s.turns turn s.moments is.tick)
    (subst (λ (held : Option (List ℕ)). IfTold before.held held (λ old new. new ≡ old ++ written lines 0 (s.turns ++ turn ∷ []))) (sym same)
    (IfTold-weaker before.held now.held _ _ (λ a b h. h ∙ ap (λ (bytes : List ℕ). a ++ bytes) (sym (written-cut lines 0 s.turns turn s.counted ∙ append-nil (texts s.turns)))) s.texts))
    (omega (arith, s.counted, length-append s.turns (turn ∷ [])), refl)
