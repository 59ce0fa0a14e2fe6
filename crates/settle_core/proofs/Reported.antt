-- The tables have what a history prepared, reported and answered, and an accepted command may be entered into them.
use Rattle.std.proofs.Common.{◌≡◌, ℕ, zero, suc, ◌+◌, ◌*◌, ◌<◌, ◌≤◌, Bool, true, false, cond, List, [], ◌∷◌, ◌++◌, length, Option, Some, None, refl, sym, ap, subst, ◌∙◌, arith, length-append, append-nil, append_assoc}
use Rattle.std.specs.Prelude.{◌==◌, min, nat_le, nat_lt, is_some, option_and_then, position, replicate, slice_get, slice_set, MatchOption}
use Rattle.std.specs.List.{position_or_len}
use Rattle.std.proofs.lemmas.Bool.{eqb-true, or_parts}
use Rattle.std.proofs.lemmas.Bool.Decides.{nat_tests}
use Rattle.std.proofs.lemmas.List.{length-replicate, length-set}
use Rattle.std.proofs.lemmas.Option.{slice_get_within}
use Rattle.command_words.specs.declared.act.Act.{Act}
use Rattle.command_words.specs.declared.command.Command.{Command}
use Rattle.command_words.specs.declared.command.Command.TheVariants.{Prepare, Event, Report, Answer}
use Rattle.condition_sets.specs.declared.names.TheConstants.{EXCHANGE}
use Rattle.condition_table.proofs.Reports.{numerators-push, set-elsewhere, set-here}
use Rattle.condition_table.specs.Conditions.{ConditionsView, IsReport, numerators_at, place_of, same_facts}
use Rattle.condition_table.specs.declared.facts.Facts.{Facts}
use Rattle.event_table.specs.Events.{EventView, EventsView, MayAnswer, question_facts, question_in, yes}
use Rattle.ledger_book.specs.Ledger.{LedgerView}
use Rattle.settle_core.specs.Book.{Payouts, answer_of, answered_by, answers, conditions, events, numerators_on, prepared_by, reported_by, reports, told}
use Rattle.settle_core.specs.Bounds.{Bounds}
use Rattle.settle_core.specs.Kept.{AreReported, IsKept, MayEnter, numerators_after, questions_made}
use Rattle.settle_core.specs.Legal.{IsAccepted}
use Rattle.settle_core.specs.Verdict.{question_of}
use Rattle.settle_core.proofs.Entered.{IsFirstAnswer, accepted-answer, accepted-report, orderly}
use Rattle.settle_core.proofs.Orderly.{IsOrderlyBy, IsQuestionIn, answer-form, numerators-more, numerators-put, questions-many}
use Rattle.settle_core.proofs.Verdicts.{AreNone, earlier, earlier-none, accepted-new, accepted-table}

-- ---- what is told of each condition

-- several conditions more, of which nothing is told
none-behind : (numerators : List (Option (List ℕ))) (n c : ℕ) → numerators_at (numerators ++ replicate n None) c ≡ numerators_at numerators c
none-behind [] n c = nothing n c
  where
    nothing : (n c : ℕ) → numerators_at (replicate n None) c ≡ None
    nothing zero c = refl
    nothing (suc n) zero = refl
    nothing (suc n) (suc c) = nothing n c
none-behind (x ∷ xs) n zero = refl
none-behind (x ∷ xs) n (suc c) = none-behind xs n c

-- a condition of which something is told
reported-set : (facts : List Facts) (numerators : List (Option (List ℕ))) (before after : ℕ → Option (List ℕ)) (c : ℕ) (ns : List ℕ) → c < length facts → AreReported facts numerators before
    → ((d : ℕ) → after d ≡ cond (d == c) (Some ns) (before d)) → AreReported facts (slice_set numerators c (Some ns)) after
reported-set facts numerators before after c ns inside is told = record {
  as_many = omega (arith, is.as_many, length-set numerators c (Some ns));
  each = λ d. at d (d == c) refl ∙ sym (told d);
}
  where
    at : (d : ℕ) (b : Bool) → (d == c) ≡ b → numerators_at (slice_set numerators c (Some ns)) d ≡ cond (d == c) (Some ns) (before d)
    at d true here =
        let place : d ≡ c = eqb-true d c here in
        rw here (ap (numerators_at (slice_set numerators c (Some ns))) place ∙ set-here numerators c ns (omega (arith, inside, is.as_many)))
    at d false other = rw other (set-elsewhere numerators c d (Some ns) (apart d other) ∙ is.each d)
      where
        apart : (d : ℕ) → (d == c) ≡ false → d ≡ c → ⊥
        apart d other same = grind (arith, nat_tests)

-- as much is told behind nothing
reported-nil : (facts : List Facts) (numerators : List (Option (List ℕ))) (before after : ℕ → Option (List ℕ)) → ((d : ℕ) → after d ≡ before d) → AreReported facts numerators before → AreReported (facts ++ []) numerators after
reported-nil facts numerators before after same is = record {
  as_many = omega (arith, is.as_many, length-append facts []);
  each = λ d. is.each d ∙ sym (same d);
}

-- what is told by reports and answers, and nothing behind them
told-nil : (rs ans : List Payouts) (d : ℕ) → numerators_on ((rs ++ []) ++ (ans ++ [])) d ≡ numerators_on (rs ++ ans) d
told-nil rs ans d = λ i. numerators_on (append-nil rs i ++ append-nil ans i) d

-- with a report behind the others
told-report : (rs ans : List Payouts) (c : ℕ) (ns : List ℕ) (d : ℕ) → numerators_on (rs ++ ans) c ≡ None
    → numerators_on ((rs ++ record { condition = c; numerators = ns } ∷ []) ++ (ans ++ [])) d ≡ cond (d == c) (Some ns) (numerators_on (rs ++ ans) d)
told-report rs ans c ns d none =
    (λ i. numerators_on ((rs ++ record { condition = c; numerators = ns } ∷ []) ++ append-nil ans i) d)
    ∙ (ap (λ xs. numerators_on xs d) (append_assoc rs (record { condition = c; numerators = ns } ∷ []) ans) ∙ numerators-put rs ans c ns d none)

-- with an answer behind the others
told-answer : (rs ans : List Payouts) (c : ℕ) (ns : List ℕ) (d : ℕ) → numerators_on (rs ++ ans) c ≡ None
    → numerators_on ((rs ++ []) ++ (ans ++ record { condition = c; numerators = ns } ∷ [])) d ≡ cond (d == c) (Some ns) (numerators_on (rs ++ ans) d)
told-answer rs ans c ns d none =
    (λ i. numerators_on (append-nil rs i ++ (ans ++ record { condition = c; numerators = ns } ∷ [])) d)
    ∙ (ap (λ xs. numerators_on xs d) (sym (append_assoc rs ans (record { condition = c; numerators = ns } ∷ []))) ∙ numerators-more (rs ++ ans) c ns d none)

-- a question's condition is prepared
question-inside : (cs : List Facts) (c : ℕ) → IsQuestionIn cs c → c < length cs
question-inside cs c is = by (slice_get cs c) refl is
  where
    by : (o : Option Facts) → slice_get cs c ≡ o → MatchOption o ⊥ (λ f. (f.oracle ≡ EXCHANGE) × (f.slots ≡ 2)) → c < length cs
    by None at none = absurd none
    by (Some f) at is = slice_get_within cs c f at

-- a question by its event
asked : (history : List Act) (event question : ℕ) (won : Bool) (right : IsFirstAnswer history event question won) → question_in (events history) event question ≡ Some right.condition
asked history event question won right = ap (option_and_then (λ (e : EventView). slice_get e.conditions question)) right.there ∙ right.asked

-- what an accepted command tells
pub reported-after : (limits : Bounds) (history : List Act) (account moment : ℕ) (command : Command) (numerators : List (Option (List ℕ))) → IsOrderlyBy history
    → AreNone (earlier (question_of limits history (record { moment = moment; account = account; command = command }))) → AreReported (conditions history) numerators (told history)
    → AreReported (conditions history ++ prepared_by (events history) command) (numerators_after (events history) numerators command)
    (λ c. numerators_on ((reports history ++ reported_by command) ++ (answers history ++ answered_by (events history) command)) c)
reported-after limits history account moment (Prepare oracle question slots) numerators orderly none is = record {
  as_many = omega (arith, is.as_many, length-append (conditions history) (record { oracle = oracle; question = question; slots = slots } ∷ []), length-append numerators (None ∷ []));
  each = λ c. numerators-push numerators c ∙ (is.each c ∙ sym (told-nil (reports history) (answers history) c));
}
reported-after limits history account moment (Event oracle questions fee) numerators orderly none is = record {
  as_many = omega (
    arith,
    is.as_many,
    length-append (conditions history) (prepared_by (events history) (Event oracle questions fee)),
    questions-many (length (events history)) 0 questions,
    length-append numerators (replicate questions None),
    length-replicate {A = Option (List ℕ)} questions None,
  );
  each = λ c. none-behind numerators questions c ∙ (is.each c ∙ sym (told-nil (reports history) (answers history) c));
}
reported-after limits history account moment (Report condition payouts) numerators orderly none is =
    let right = accepted-report limits history account moment condition payouts none in
    let inside = slice_get_within (conditions history) condition right.facts right.there in
    reported-nil (conditions history) (slice_set numerators condition (Some payouts)) _ _ (λ d. refl)
    (reported-set (conditions history) numerators (told history) _ condition payouts inside is (λ d. told-report (reports history) (answers history) condition payouts d right.untold))
reported-after limits history account moment (Answer event question won) numerators orderly none is =
    let right = accepted-answer limits history account moment event question won none in
    let at = asked history event question won right in
    let inside = question-inside (conditions history) right.condition (orderly.questions event question right.condition at) in
    rw at (reported-nil (conditions history) (slice_set numerators right.condition (Some (answer_of won))) _ _ (λ d. refl)
    (reported-set (conditions history) numerators (told history) _ right.condition (answer_of won) inside is (λ d. told-answer (reports history) (answers history) right.condition (answer_of won) d right.untold)))
reported-after limits history account moment command numerators orderly none is = reported-nil (conditions history) numerators _ _ (told-nil (reports history) (answers history)) is

-- ---- what may be entered

-- nothing is found where nothing passes
found-none : (p : Facts → Bool) (xs : List Facts) → ((c : ℕ) (f : Facts) → slice_get xs c ≡ Some f → p f ≡ false) → position p xs ≡ None
found-none p xs fails = let all : position_or_len p xs ≡ length xs = past p xs fails in rw all (by (length xs))
  where
    past : (p : Facts → Bool) (xs : List Facts) → ((c : ℕ) (f : Facts) → slice_get xs c ≡ Some f → p f ≡ false) → position_or_len p xs ≡ length xs
    past p [] fails = refl
    past p (x ∷ xs) fails =
        let first : p x ≡ false = fails 0 x refl in
        let rest = past p xs (λ c f at. fails (suc c) f at) in
        rw first (omega (arith, rest))

    by : (n : ℕ) → cond (nat_lt n n) (Some n) None ≡ None
    by n = let no_less : nat_lt n n ≡ false = grind (arith, nat_tests) in rw no_less refl

-- a question of another oracle, or with a number below, isn't the one at a place of a new event
other-question : (e place : ℕ) (f : Facts) → (f.oracle ≡ EXCHANGE → f.question < 32 * e) → same_facts (question_facts e place) f ≡ false
other-question e place f low = by (f.oracle == EXCHANGE) refl
  where
    by : (b : Bool) → (f.oracle == EXCHANGE) ≡ b → same_facts (question_facts e place) f ≡ false
    by true own =
        let below = low (eqb-true f.oracle EXCHANGE own) in
        let other : (f.question == 32 * e + place) ≡ false = grind (arith, nat_tests, below) in
        rw (own, other) refl
    by false other = rw other refl

none-found : (o : Option ℕ) → is_some o ≡ false → o ≡ None
none-found None none = refl
none-found (Some n) none = cc

-- an answer is YES where it says so
says-yes : (won : Bool) → answer_of won ≡ yes → won ≡ true
says-yes true is = refl
says-yes false is = cc

two-slots : (cs : List Facts) (c : ℕ) → IsQuestionIn cs c → MatchOption (slice_get cs c) ⊥ (λ f. f.slots ≡ 2)
two-slots cs c is = by (slice_get cs c) is
  where
    by : (o : Option Facts) → MatchOption o ⊥ (λ f. (f.oracle ≡ EXCHANGE) × (f.slots ≡ 2)) → MatchOption o ⊥ (λ f. f.slots ≡ 2)
    by None is = is
    by (Some f) is = is.1

-- an accepted command may be entered into tables that have what the history gives, and room
may-enter : (limits : Bounds) (made : EventsView) (table : ConditionsView) (history : List Act) (account moment : ℕ) (command : Command) → IsOrderlyBy history
    → AreNone (earlier (question_of limits history (record { moment = moment; account = account; command = command }))) → made.events ≡ events history → made.limit ≡ limits.events → table.facts ≡ conditions history
    → AreReported table.facts table.numerators (told history) → table.limit ≡ limits.conditions → 0 < table.room → questions_made command ≤ min made.room table.room → MayEnter made table command
may-enter limits made table history account moment (Prepare oracle question slots) orderly none events_are most_events facts_are are most room several =
    let q = question_of limits history (record { moment = moment; account = account; command = Prepare oracle question slots }) in
    let new = accepted-new q none in
    let left = accepted-table q none in (
      ap (place_of (record { oracle = oracle; question = question; slots = slots })) facts_are ∙ none-found _ new,
      grind (arith, nat_tests, left, most, ap length facts_are),
      room,
    )
may-enter limits made table history account moment (Event oracle questions fee) orderly none events_are most_events facts_are are most room several =
    let q = question_of limits history (record { moment = moment; account = account; command = Event oracle questions fee }) in
    let left = or_parts (nat_le limits.events (length (events history))) (nat_lt limits.conditions (length (conditions history) + questions)) (accepted-table q none) in
    let first = left.0 in
    let second = left.1 in (
      (λ place inside.
          ap (place_of (question_facts (length made.events) place)) facts_are
          ∙ (ap (λ (n : ℕ). place_of (question_facts n place) (conditions history)) (ap length events_are)
          ∙ found-none (same_facts (question_facts (length (events history)) place)) (conditions history) (λ c f at. other-question (length (events history)) place f (orderly.numbered c f at)))),
      grind (arith, nat_tests, first, most_events, ap length events_are),
      grind (arith, nat_tests, second, most, ap length facts_are),
      omega (arith, several),
      omega (arith, several),
    )
may-enter limits made table history account moment (Report condition payouts) orderly none events_are most_events facts_are are most room several =
    let right = accepted-report limits history account moment condition payouts none in (
      are.each condition ∙ right.untold,
      subst (λ (o : Option Facts). MatchOption o ⊥ (λ f. IsReport f.slots payouts)) (sym (ap (λ (fs : List Facts). slice_get fs condition) facts_are ∙ right.there)) right.is,
    )
may-enter limits made table history account moment (Answer event question won) orderly none events_are most_events facts_are are most room several =
    let right = accepted-answer limits history account moment event question won none in
    let own = orderly.questions event question right.condition (asked history event question won right) in
    let may : MayAnswer right.made table right.condition (answer_of won) = record {
      form = answer-form won;
      first = are.each right.condition ∙ right.untold;
      two_slots = subst (λ (fs : List Facts). MatchOption (slice_get fs right.condition) ⊥ (λ f. f.slots ≡ 2)) (sym facts_are) (two-slots (conditions history) right.condition own);
      one_winner = λ says. right.first (says-yes won says);
    } in
    subst (λ (o : Option EventView). MatchOption o ⊥ (λ e. MatchOption (slice_get e.conditions question) ⊥ (λ condition. MayAnswer e table condition (answer_of won)))) (sym (ap (λ (es : List EventView). slice_get es event) events_are ∙ right.there))
    (subst (λ (o : Option ℕ). MatchOption o ⊥ (λ condition. MayAnswer right.made table condition (answer_of won))) (sym right.asked) may)
may-enter limits made table history account moment command orderly none events_are most_events facts_are are most room several = tt

pub kept-enters : (limits : Bounds) (made : EventsView) (table : ConditionsView) (ledger : LedgerView) (history : List Act) (act : Act) → IsKept limits made table ledger history → IsAccepted limits history act
    → 0 < table.room → questions_made act.command ≤ min made.room table.room → MayEnter made table act.command
kept-enters limits made table ledger history act kept accepted room several =
    may-enter limits made table history act.account act.moment act.command (orderly limits history kept.legal) (earlier-none (question_of limits history act) accepted.accepted)
    kept.events kept.most_events kept.conditions kept.reports kept.most room several
