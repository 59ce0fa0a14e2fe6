-- What an accepted command enters keeps a book orderly.
use Rattle.std.proofs.Common.{◌≡◌, ℕ, ◌<◌, ◌≤◌, Bool, true, false, cond, List, [], ◌∷◌, ◌++◌, length, Option, Some, None, refl, sym, ap, subst, ◌∙◌, arith, inl, inr, append-nil}
use Rattle.std.specs.Prelude.{◌==◌, ⊤, ◌&&◌, not, nat_le, sum, is_none, option_and_then, slice_get, MatchOption}
use Rattle.std.proofs.lemmas.Bool.{and_parts, eqb-true, leb-false, or_parts, not-false}
use Rattle.std.proofs.lemmas.Bool.Decides.{nat_tests}
use Rattle.std.proofs.lemmas.Option.{slice_get_cases}
use Rattle.command_words.proofs.Acts.{act-ranges}
use Rattle.command_words.specs.Command.{in_ranges}
use Rattle.command_words.specs.Ranges.{is_account, is_slots}
use Rattle.command_words.specs.declared.ranges.TheConstants.{MAX_EVENT_FEE, MAX_NUMBER, MAX_QUESTIONS, MIN_QUESTIONS}
use Rattle.command_words.specs.declared.act.Act.{Act}
use Rattle.command_words.specs.declared.command.Command.{Command}
use Rattle.command_words.specs.declared.command.Command.TheVariants.{Prepare, Event, Report, Answer, Convert}
use Rattle.condition_sets.specs.declared.names.TheConstants.{EXCHANGE}
use Rattle.condition_sets.specs.declared.slot_count.TheConstants.{MIN_SLOTS, MAX_SLOTS}
use Rattle.condition_table.specs.Conditions.{IsReport}
use Rattle.condition_table.specs.declared.facts.Facts.{Facts}
use Rattle.convert_positions.specs.Converting.{IsChoice}
use Rattle.convert_positions.specs.Questions.{conditions_of}
use Rattle.event_table.specs.Events.{EventView, question_in, winner_in}
use Rattle.settle_core.specs.Book.{Payouts, answer_on, answered_in, answers, book, conditions, conversions, entered, events, reports, told}
use Rattle.settle_core.specs.Bounds.{Bounds}
use Rattle.settle_core.specs.Legal.{IsAccepted, IsLegal}
use Rattle.settle_core.specs.Refusals.{Question, is_answered, is_no_report, is_outside, is_past_questions, may_report}
use Rattle.settle_core.specs.Verdict.{question_of}
use Rattle.settle_core.proofs.Histories.{book-more}
use Rattle.settle_core.proofs.Inductions.{legal-all}
use Rattle.settle_core.proofs.Lists.{none-told-before, none-told-behind}
use Rattle.settle_core.proofs.Orderly.{IsOrderly, IsOrderlyBy, IsOrderlyOf, MayBeReported, event-listed, orderly-answered, orderly-converted, orderly-made, orderly-prepared, orderly-reported, orderly-start}
use Rattle.settle_core.proofs.Partitions.{is_none as none-of}
use Rattle.settle_core.proofs.Posted.{AreChoices}
use Rattle.settle_core.proofs.Verdicts.{AreNone, earlier, earlier-none, accepted-asked, accepted-event, accepted-first, accepted-first_winner, accepted-payouts, accepted-prepared, accepted-proper}

abbrev act : ℕ → ℕ → Command → Act
act account moment command = record { moment = moment; account = account; command = command }

-- ---- what a report names

-- a report that is accepted: its condition isn't a question's, nothing is told of it, and the numerators may be reported
pub record IsFirstReport (history : List Act) (condition : ℕ) (payouts : List ℕ) : Type 0 where
  pub facts : Facts
  pub there : slice_get (conditions history) condition ≡ Some facts
  pub is : IsReport facts.slots payouts
  pub other : facts.oracle ≡ EXCHANGE → ⊥
  pub untold : told history condition ≡ None

-- what may be reported is one numerator for each slot, and not all of them 0
pub is-report : (f : Facts) (payouts : List ℕ) → is_no_report (Some f) payouts ≡ false → IsReport f.slots payouts
is-report f payouts right =
    let parts = or_parts (not (length payouts == f.slots)) (sum payouts == 0) right in
    record { each = eqb-true _ _ (not-false _ parts.0); some = positive (sum payouts) parts.1 }
  where
    positive : (n : ℕ) → (n == 0) ≡ false → 0 < n
    positive n other = grind (arith, nat_tests)

-- an oracle that isn't the exchange
not-exchange : (account oracle : ℕ) → not (not (account == EXCHANGE) && (oracle == account)) ≡ false → oracle ≡ EXCHANGE → ⊥
not-exchange account oracle asked own = grind (arith, nat_tests, asked, own)

pub accepted-report : (limits : Bounds) (history : List Act) (account moment condition : ℕ) (payouts : List ℕ) → AreNone (earlier (question_of limits history (act account moment (Report condition payouts)))) → IsFirstReport history condition payouts
accepted-report limits history account moment condition payouts none =
    let q : Question = question_of limits history (act account moment (Report condition payouts)) in
    let inside : condition < length (conditions history) = leb-false _ _ (accepted-prepared q none) in
    elim ((slice_get_cases (conditions history) condition).1) [
      | inl found ↦ record {
        facts = found.0;
        there = found.2;
        is = is-report found.0 payouts (ap (λ (o : Option Facts). is_no_report o payouts) (sym found.2) ∙ accepted-payouts q none);
        other = not-exchange account found.0.oracle (ap (λ (o : Option Facts). not (not (account == EXCHANGE) && may_report o account)) (sym found.2) ∙ accepted-asked q none);
        untold = none-of (told history condition) (accepted-first q none);
      }
      | inr past ↦ absurd (omega (arith, inside, past.0))
    ]

-- ---- what an answer names

-- an answer that is accepted: its event is made and has the question, which isn't answered, and no other was answered YES
pub record IsFirstAnswer (history : List Act) (event question : ℕ) (won : Bool) : Type 0 where
  pub made : EventView
  pub there : slice_get (events history) event ≡ Some made
  pub condition : ℕ
  pub asked : slice_get made.conditions question ≡ Some condition
  pub untold : told history condition ≡ None
  pub first : won ≡ true → made.winner ≡ None

pub accepted-answer : (limits : Bounds) (history : List Act) (account moment event question : ℕ) (won : Bool) → AreNone (earlier (question_of limits history (act account moment (Answer event question won)))) → IsFirstAnswer history event question won
accepted-answer limits history account moment event question won none =
    let q : Question = question_of limits history (act account moment (Answer event question won)) in
    by (slice_get (events history) event) refl (accepted-event q none) (accepted-prepared q none) (accepted-first q none) (accepted-first_winner q none)
  where
    decided : (b : Bool) → b ≡ true → cond b (winner_in (events history) event) None ≡ None → winner_in (events history) event ≡ None
    decided true is none = none
    decided false is none = cc

    by : (o : Option EventView) → slice_get (events history) event ≡ o → is_none o ≡ false → is_past_questions o question ≡ false → is_answered (told history) (question_in (events history) event question) ≡ false
        → cond won (winner_in (events history) event) None ≡ None → IsFirstAnswer history event question won
    by None at made inside first undecided = cc
    by (Some e) at made inside first undecided =
        let within : question < length e.conditions = leb-false _ _ inside in
        let place : question_in (events history) event question ≡ slice_get e.conditions question = ap (option_and_then (λ (x : EventView). slice_get x.conditions question)) at in
        elim ((slice_get_cases e.conditions question).1) [
          | inl found ↦ record {
            made = e;
            there = at;
            condition = found.0;
            asked = found.2;
            untold = none-of (told history found.0) (ap (is_answered (told history)) (sym (place ∙ found.2)) ∙ first);
            first = λ yes_is. sym (ap (option_and_then (λ (x : EventView). x.winner)) at) ∙ decided won yes_is undecided;
          }
          | inr past ↦ absurd (omega (arith, within, past.0))
        ]

-- ---- step by step

-- a book that is the same table by table
orderly-same : (cs cs' : List Facts) (rs rs' ans ans' : List Payouts) (es es' : List EventView) (vs vs' : List (List ℕ)) → cs ≡ cs' → rs ≡ rs' → ans ≡ ans' → es ≡ es' → vs ≡ vs' → IsOrderly cs rs ans es vs → IsOrderly cs' rs' ans' es' vs'
orderly-same cs cs' rs rs' ans ans' es es' vs vs' c r a e v =
    subst (λ (x : List Facts). IsOrderly cs rs ans es vs → IsOrderly x rs' ans' es' vs') c
    (subst (λ (x : List Payouts). IsOrderly cs rs ans es vs → IsOrderly cs x ans' es' vs') r
    (subst (λ (x : List Payouts). IsOrderly cs rs ans es vs → IsOrderly cs rs x es' vs') a
    (subst (λ (x : List EventView). IsOrderly cs rs ans es vs → IsOrderly cs rs ans x vs') e
    (subst (λ (x : List (List ℕ)). IsOrderly cs rs ans es vs → IsOrderly cs rs ans es x) v (λ is. is)))))

-- a condition has slots
two-slots : (oracle question slots : ℕ) → in_ranges (Prepare oracle question slots) ≡ true → 2 ≤ slots
two-slots oracle question slots ranges =
    let all = (and_parts (nat_le question MAX_NUMBER) (is_slots slots) (and_parts (is_account oracle) (nat_le question MAX_NUMBER && is_slots slots) ranges).1).1 in
    let least = (and_parts (nat_le MIN_SLOTS slots) (nat_le slots MAX_SLOTS) all).0 in
    grind (arith, nat_tests, least)

-- an oracle of its own
other-oracle : (account oracle : ℕ) → not (not (account == EXCHANGE) && not (oracle == EXCHANGE)) ≡ false → oracle ≡ EXCHANGE → ⊥
other-oracle account oracle asked own = grind (arith, nat_tests, asked, own)

-- the questions and the cost of an event
event-parts : (oracle questions fee : ℕ) → in_ranges (Event oracle questions fee) ≡ true → (questions ≤ 32) × (fee ≤ 10000) × (2 ≤ questions)
event-parts oracle questions fee ranges =
    let one = (and_parts (is_account oracle) (nat_le MIN_QUESTIONS questions && (nat_le questions MAX_QUESTIONS && nat_le fee MAX_EVENT_FEE)) ranges).1 in
    let two = and_parts (nat_le MIN_QUESTIONS questions) (nat_le questions MAX_QUESTIONS && nat_le fee MAX_EVENT_FEE) one in
    let three = and_parts (nat_le questions MAX_QUESTIONS) (nat_le fee MAX_EVENT_FEE) two.1 in
    (grind (arith, nat_tests, three.0), grind (arith, nat_tests, three.1), grind (arith, nat_tests, two.0))

-- what may be reported may be
reportable : (cs : List Facts) (c : ℕ) (f : Facts) (ns : List ℕ) → slice_get cs c ≡ Some f → IsReport f.slots ns → (f.oracle ≡ EXCHANGE → ⊥) → MayBeReported cs c ns
reportable cs c f ns at is other = subst (λ (o : Option Facts). MatchOption o ⊥ (λ g. IsReport g.slots ns × (g.oracle ≡ EXCHANGE → ⊥))) (sym at) (is, other)

nothing : {X : Type 0} (xs : List X) → xs ≡ xs ++ []
nothing xs = sym (append-nil xs)

pub orderly-with : (limits : Bounds) (history : List Act) (account moment : ℕ) (command : Command) → IsOrderlyBy history → in_ranges command ≡ true → AreNone (earlier (question_of limits history (act account moment command)))
    → IsOrderlyOf (entered (book history) (act account moment command))
orderly-with limits history account moment (Prepare oracle question slots) is ranges none =
    let q : Question = question_of limits history (act account moment (Prepare oracle question slots)) in
    orderly-same _ _ _ _ _ _ _ _ _ _ refl (nothing (reports history)) (nothing (answers history)) refl (nothing (conversions history))
    (orderly-prepared _ _ _ _ _ (record { oracle = oracle; question = question; slots = slots }) is (two-slots oracle question slots ranges) (other-oracle account oracle (accepted-asked q none)))
orderly-with limits history account moment (Event oracle questions fee) is ranges none =
    let parts = event-parts oracle questions fee ranges in
    orderly-same _ _ _ _ _ _ _ _ _ _ refl (nothing (reports history)) (nothing (answers history)) refl (nothing (conversions history))
    (orderly-made _ _ _ _ _ oracle fee questions is parts.0 parts.1)
orderly-with limits history account moment (Report condition payouts) is ranges none =
    let right = accepted-report limits history account moment condition payouts none in
    orderly-same _ _ _ _ _ _ _ _ _ _ (nothing (conditions history)) refl (nothing (answers history)) refl (nothing (conversions history))
    (orderly-reported _ _ _ _ _ condition payouts is (none-told-before (reports history) (answers history) condition right.untold) (reportable (conditions history) condition right.facts payouts right.there right.is right.other))
orderly-with limits history account moment (Answer event question won) is ranges none =
    let right = accepted-answer limits history account moment event question won none in
    let asked : question_in (events history) event question ≡ Some right.condition = ap (option_and_then (λ (x : EventView). slice_get x.conditions question)) right.there ∙ right.asked in
    orderly-same _ _ _ _ _ _ _ _ _ _ (nothing (conditions history)) (nothing (reports history)) (ap (λ (o : Option ℕ). answers history ++ answer_on o won) (sym asked))
    (ap (answered_in (events history) event question won) (sym right.there)) (nothing (conversions history))
    (orderly-answered _ _ _ _ _ event question right.condition won right.made is right.there right.asked (none-told-behind (reports history) (answers history) right.condition right.untold) right.first)
orderly-with limits history account moment (Convert event set amount) is ranges none =
    let q : Question = question_of limits history (act account moment (Convert event set amount)) in
    elim ((slice_get_cases (events history) event).1) [
      | inl found ↦ orderly-same _ _ _ _ _ _ _ _ _ _ (nothing (conditions history)) (nothing (reports history)) (nothing (answers history)) refl (ap (λ (o : Option EventView). conversions history ++ conditions_of o ∷ []) (sym found.2))
          (orderly-converted _ _ _ _ _ found.0.conditions is (event-listed (events history) event found.0 found.2))
      | inr past ↦ absurd (clash (ap is_none (sym past.1) ∙ accepted-event q none))
    ]
  where
    clash : true ≡ false → ⊥
    clash e = cc
orderly-with limits history account moment command is ranges none =
    orderly-same _ _ _ _ _ _ _ _ _ _ (nothing (conditions history)) (nothing (reports history)) (nothing (answers history)) refl (nothing (conversions history)) is

pub orderly-more : (limits : Bounds) (history : List Act) (next : Act) → IsOrderlyBy history → IsAccepted limits history next → IsOrderlyBy (history ++ next ∷ [])
orderly-more limits history next is accepted =
    subst IsOrderlyOf (sym (book-more history next))
    (orderly-with limits history next.account next.moment next.command is (act-ranges next.command accepted.may_be_act) (earlier-none (question_of limits history next) accepted.accepted))

pub orderly : (limits : Bounds) (history : List Act) → IsLegal limits history → IsOrderlyBy history
orderly limits history legal = legal-all limits IsOrderlyBy orderly-start (orderly-more limits) history legal

-- ---- a conversion chooses questions of its event

pub accepted-choices : (limits : Bounds) (history : List Act) (account moment : ℕ) (command : Command) → IsOrderlyBy history → AreNone (earlier (question_of limits history (act account moment command))) → AreChoices (events history) command
accepted-choices limits history account moment (Convert event set amount) is none =
    let q : Question = question_of limits history (act account moment (Convert event set amount)) in
    let parts = or_parts (set == 0) (is_outside (slice_get (events history) event) set) (accepted-proper q none) in
    by (slice_get (events history) event) refl parts.0 parts.1
  where
    by : (o : Option EventView) → slice_get (events history) event ≡ o → (set == 0) ≡ false → is_outside o set ≡ false → MatchOption o ⊤ (λ e. (length e.conditions ≤ 32) × IsChoice (length e.conditions) set)
    by None at some inside = tt
    by (Some e) at some inside = ((is.sizes event e at).0, record { some = grind (arith, nat_tests, some); inside = grind (arith, nat_tests, inside) })
accepted-choices limits history account moment command is none = tt
