-- The vault of a legal history covers what all holdings are worth, whatever comes out.
use Rattle.std.proofs.Common.{◌≡◌, ◌≢◌, ℕ, suc, ◌+◌, ◌-◌, ◌*◌, ◌<◌, ◌≤◌, Bool, true, false, cond, List, [], ◌∷◌, ◌++◌, length, get_or, Option, Some, None, All, refl, sym, ap, subst, ◌∙◌, arith, inl, inr, append-nil}
use Rattle.std.specs.Prelude.{◌==◌, ⊤, Contains, sum, option_and_then, slice_get, MatchOption}
use Rattle.std.proofs.lemmas.Bool.{cases_Bool, eqb-true}
use Rattle.std.proofs.lemmas.Bool.Decides.{nat_tests}
use Rattle.std.proofs.lemmas.List.{map-append}
use Rattle.std.proofs.lemmas.List.Elements.{All-contains, All-map, All-weaker}
use Rattle.std.proofs.lemmas.List.Sums.{sum_by-append, sum_by-cons}
use Rattle.std.proofs.lemmas.Option.{slice_get-get_or}
use Rattle.std.proofs.Math.Nat.{le_of_mul-le-mul_left, mul_comm, add-mul}
use Rattle.collection_keys.specs.Collections.{Pairs, root}
use Rattle.collection_keys.specs.Comparing.{same_collection}
use Rattle.command_words.proofs.Acts.{act-ranges}
use Rattle.command_words.specs.Command.{in_ranges}
use Rattle.command_words.specs.declared.act.Act.{Act}
use Rattle.command_words.specs.declared.command.Command.{Command}
use Rattle.command_words.specs.declared.command.Command.TheVariants.{Prepare, Event, Report, Answer}
use Rattle.condition_sets.specs.declared.amount.TheConstants.{MAX_AMOUNT}
use Rattle.condition_sets.specs.declared.names.TheConstants.{EXCHANGE}
use Rattle.condition_table.specs.Conditions.{IsReport}
use Rattle.condition_table.specs.declared.facts.Facts.{Facts}
use Rattle.coverage_law.proofs.Holdings.{held-need, taken-within}
use Rattle.coverage_law.proofs.Needs.{paid-cons, paid-none, taken-cons, taken-none}
use Rattle.coverage_law.proofs.Worths.{cash-worth, denominator-some, with_slot-lawful}
use Rattle.coverage_law.specs.Need.{held_worth, need, paid_worth, taken_worth}
use Rattle.coverage_law.specs.Outcomes.{Outcome, IsLawful, HaveWinners, winners}
use Rattle.coverage_law.specs.Worth.{worth, denominator, denominator_of}
use Rattle.event_table.specs.Events.{EventView, is_yes, numbers_from, questions_from, winner_in, yes}
use Rattle.ledger_book.specs.Entries.{AreEntries}
use Rattle.ledger_book.specs.Postings.{IsFunded, burnt, minted, paid_to, paid_to_account, taken_from, taken_from_account}
use Rattle.ledger_book.specs.declared.posting.Posting.{Posting}
use Rattle.settle_core.specs.Book.{Book, Payouts, answered_by, answers, book, conditions, conversions, converted_by, entered, events, events_after, numerators_on, postings, postings_of, prepared_by, reported_by, reports}
use Rattle.settle_core.specs.Bounds.{Bounds}
use Rattle.settle_core.specs.Coverage.{CanPay, outlook, outlook_of, questions_of, results, results_of}
use Rattle.settle_core.specs.Legal.{IsAccepted, IsLegal}
use Rattle.settle_core.specs.Postings.{balance, deposit_of, deposited, supply, vault, withdrawal_of, withdrawn}
use Rattle.settle_core.specs.Refusals.{Question}
use Rattle.settle_core.specs.Verdict.{question_of, verdict}
use Rattle.command_words.specs.declared.refusal.Refusal.TheVariants.{SupplyLimit}
use Rattle.ledger_book.specs.Staging.{is_above_supply}
use Rattle.settle_core.proofs.Entered.{accepted-report, orderly-more, orderly-with}
use Rattle.settle_core.proofs.Funded.{funded-by}
use Rattle.settle_core.proofs.Histories.{book-more, deposited-more, withdrawn-more}
use Rattle.settle_core.proofs.Inductions.{legal-all}
use Rattle.settle_core.proofs.Known.{known-both, known-posted}
use Rattle.settle_core.proofs.Lists.{behind-holds, front-holds, get-before, none-told-before, told-before}
use Rattle.settle_core.proofs.Lowest.{earlier-of-supply}
use Rattle.settle_core.proofs.Markets.{AreTraded, traded-more, traded-start}
use Rattle.settle_core.proofs.Matched.{IsMatched, accepted-match}
use Rattle.settle_core.proofs.Moves.{moved-exact, moved-within}
use Rattle.settle_core.proofs.Orderly.{IsAnswer, IsOrderlyBy, IsOrderlyOf, IsQuestionIn, each-question, orderly-start, plain, questions-answered, right-of}
use Rattle.settle_core.proofs.Settled.{IsSettled, settled-all, settled-fewer, settled-posted, settled-prepared, settled-reported, settled-start}
use Rattle.settle_core.proofs.Verdicts.{AreNone, earlier, earlier-none, accepted-vault}

-- what holds of the book of a history with what was paid in and out
abbrev pub IsSettledOf : Book → ℕ → ℕ → Type 0
IsSettledOf b paid_in paid_out =
    IsSettled b.conditions b.reports b.postings paid_in paid_out (λ outcome. IsLawful (outlook_of b) outcome) (λ outcome. HaveWinners outcome b.conversions)

abbrev pub IsSettledBy : List Act → Type 0
IsSettledBy history = IsSettledOf (book history) (deposited history) (withdrawn history)

-- the same behind a command
abbrev IsSettledWith : List Act → Act → Type 0
IsSettledWith history act = IsSettledOf (entered (book history) act) (deposited history + deposit_of act.command) (withdrawn history + withdrawal_of act.command)

-- what adds nothing to a table leaves it
settled-same : (cs cs' : List Facts) (rs rs' : List Payouts) (ps ps' : List Posting) (paid_in paid_in' paid_out paid_out' : ℕ) (IsOne HasWon : Outcome → Type 0) → cs ≡ cs' → rs ≡ rs' → ps ≡ ps' → paid_in ≡ paid_in' → paid_out ≡ paid_out'
    → IsSettled cs rs ps paid_in paid_out IsOne HasWon → IsSettled cs' rs' ps' paid_in' paid_out' IsOne HasWon
settled-same cs cs' rs rs' ps ps' paid_in paid_in' paid_out paid_out' IsOne HasWon c r p i o =
    subst (λ (x : List Facts). IsSettled cs rs ps paid_in paid_out IsOne HasWon → IsSettled x rs' ps' paid_in' paid_out' IsOne HasWon) c
    (subst (λ (x : List Payouts). IsSettled cs rs ps paid_in paid_out IsOne HasWon → IsSettled cs x ps' paid_in' paid_out' IsOne HasWon) r
    (subst (λ (x : List Posting). IsSettled cs rs ps paid_in paid_out IsOne HasWon → IsSettled cs rs x paid_in' paid_out' IsOne HasWon) p
    (subst (λ (x : ℕ). IsSettled cs rs ps paid_in paid_out IsOne HasWon → IsSettled cs rs ps x paid_out' IsOne HasWon) i
    (subst (λ (x : ℕ). IsSettled cs rs ps paid_in paid_out IsOne HasWon → IsSettled cs rs ps paid_in x IsOne HasWon) o (λ is. is)))))

-- ---- fewer outcomes

-- of the questions of each event at most one wins, also without the last event
winners-before : (outcome : Outcome) (prepared : ℕ) (es : List EventView) (command : Command) → All (λ qs. winners outcome qs ≤ 1) (questions_of (events_after prepared es command)) → All (λ qs. winners outcome qs ≤ 1) (questions_of es)
winners-before outcome prepared es (Event oracle questions fee) few =
    let new : EventView = record { oracle = oracle; bips = fee; conditions = numbers_from prepared questions; winner = None } in
    front-holds (λ (qs : List ℕ). winners outcome qs ≤ 1) (questions_of es) (questions_of (new ∷ []))
    (subst (λ (lists : List (List ℕ)). All (λ qs. winners outcome qs ≤ 1) lists) (map-append (λ (event : EventView). event.conditions) es (new ∷ [])) few)
winners-before outcome prepared es (Answer event question won) few =
    subst (λ (lists : List (List ℕ)). All (λ qs. winners outcome qs ≤ 1) lists) (questions-answered es event question won (slice_get es event) refl) few
winners-before outcome prepared es command few = few

-- what is lawful behind a command was before it
lawful-before : (b : Book) (act : Act) (outcome : Outcome) → IsLawful (outlook_of (entered b act)) outcome → IsLawful (outlook_of b) outcome
lawful-before b act outcome lawful = record {
  slots = λ c f at. lawful.slots c f (get-before b.conditions (prepared_by b.events act.command) c f at);
  answers = λ c ns told. lawful.answers c ns (told-before b.answers (answered_by b.events act.command) c ns told);
  one_winner = winners-before outcome (length b.conditions) b.events act.command lawful.one_winner;
}

fewer : (b : Book) (paid_in paid_out : ℕ) (act : Act) → IsSettledOf b paid_in paid_out
    → IsSettled b.conditions b.reports b.postings paid_in paid_out (λ outcome. IsLawful (outlook_of (entered b act)) outcome) (λ outcome. HaveWinners outcome (entered b act).conversions)
fewer b paid_in paid_out act so_far =
    settled-fewer b.conditions b.reports b.postings paid_in paid_out (λ outcome. IsLawful (outlook_of b) outcome) (λ outcome. HaveWinners outcome b.conversions) _ _ so_far
    (lawful-before b act) (λ outcome won. front-holds (λ (qs : List ℕ). winners outcome qs ≡ 1) b.conversions (converted_by b.events act.command) won)

-- ---- one command more

-- what an accepted command posts takes what is there, so that no position falls below 0
above-more : (limits : Bounds) (history : List Act) (act : Act) → IsOrderlyBy history → IsMatched history act.command → IsFunded (λ a k. 0) (postings history) → AreNone (earlier (question_of limits history act))
    → IsFunded (λ a k. 0) (postings history ++ postings_of (book history) act.account act.command)
above-more limits history act is matched above none a k =
    let ps = postings history in
    let qs = postings_of (book history) act.account act.command in
    omega (
      arith,
      above a k,
      funded-by limits history act.account act.moment act.command is matched none a k,
      sum_by-append (paid_to_account a k) ps qs,
      sum_by-append (taken_from_account a k) ps qs,
    )

-- a command that prepares and reports nothing
posted : (limits : Bounds) (history : List Act) (act : Act) → IsOrderlyBy history → IsMatched history act.command → IsSettledBy history
    → prepared_by (events history) act.command ≡ [] → reported_by act.command ≡ [] → AreNone (earlier (question_of limits history act)) → IsSettledWith history act
posted limits history act is matched so_far no_condition no_report none =
    let b = book history in
    let IsOne : Outcome → Type 0 = λ outcome. IsLawful (outlook_of (entered b act)) outcome in
    let HasWon : Outcome → Type 0 = λ outcome. HaveWinners outcome (entered b act).conversions in
    settled-same (conditions history) _ (reports history) _ _ _ _ _ _ _ IsOne HasWon (sym (ap (λ cs. conditions history ++ cs) no_condition ∙ append-nil (conditions history))) (sym (ap (λ rs. reports history ++ rs) no_report ∙ append-nil (reports history))) refl refl refl
    (settled-posted (conditions history) (reports history) (postings history) (postings_of b act.account act.command) (deposited history) (withdrawn history) (deposit_of act.command) (withdrawal_of act.command) IsOne HasWon
    (fewer b (deposited history) (withdrawn history) act so_far)
    (above-more limits history act is matched so_far.above none)
    (known-both (length (conditions history)) (postings history) (postings_of b act.account act.command) so_far.known (known-posted limits history act.account act.moment act.command is matched none))
    (λ outcome lawful. moved-within limits history act.account act.moment act.command outcome is (lawful-before b act outcome lawful) matched none)
    (λ before outcome lawful won. moved-exact limits history act.account act.moment act.command outcome is (lawful-before b act outcome lawful) before
    (behind-holds (λ (qs : List ℕ). winners outcome qs ≡ 1) b.conversions (converted_by b.events act.command) won) matched none))

-- a condition of another oracle isn't answered, and is no event's question
unanswered : (history : List Act) (c : ℕ) (f : Facts) → IsOrderlyBy history → slice_get (conditions history) c ≡ Some f → (f.oracle ≡ EXCHANGE → ⊥) → numerators_on (answers history) c ≡ None
unanswered history c f is at other = by (numerators_on (answers history) c) refl
  where
    by : (o : Option (List ℕ)) → numerators_on (answers history) c ≡ o → o ≡ None
    by None told = refl
    by (Some ns) told = absurd (plain (conditions history) c f at other (is.answers c ns told).0)

apart : (history : List Act) (c : ℕ) (f : Facts) → IsOrderlyBy history → slice_get (conditions history) c ≡ Some f → (f.oracle ≡ EXCHANGE → ⊥) → All (λ questions. All (λ q. q ≢ c) questions) (questions_of (events history))
apart history c f is at other =
    All-map (λ (qs : List ℕ). All (λ q. q ≢ c) qs) (λ (event : EventView). event.conditions) (events history)
    (λ e d inside. each-question (λ (q : ℕ). q ≢ c) (events history) e (get_or (events history) e d) (slice_get-get_or (events history) e d inside)
    (λ i q there same. plain (conditions history) c f at other (subst (λ (x : ℕ). IsQuestionIn (conditions history) x) same (is.questions e i q there))))

-- a report on a condition that is there
reported-more : (limits : Bounds) (history : List Act) (account moment condition : ℕ) (payouts : List ℕ) → IsOrderlyBy history → IsSettledBy history
    → AreNone (earlier (question_of limits history (record { account = account; command = Report condition payouts; moment = moment }))) → IsSettledWith history (record { account = account; command = Report condition payouts; moment = moment })
reported-more limits history account moment condition payouts is so_far none =
    let act : Act = record { account = account; command = Report condition payouts; moment = moment } in
    let b = book history in
    let IsOne : Outcome → Type 0 = λ outcome. IsLawful (outlook_of (entered b act)) outcome in
    let HasWon : Outcome → Type 0 = λ outcome. HaveWinners outcome (entered b act).conversions in
    let right = accepted-report limits history account moment condition payouts none in
    settled-same _ _ _ _ _ _ _ _ _ _ IsOne HasWon (sym (append-nil (conditions history))) refl (sym (append-nil (postings history))) (omega arith) (omega arith)
    (settled-reported (conditions history) (reports history) (postings history) (deposited history) (withdrawn history) IsOne HasWon condition right.facts payouts (fewer b (deposited history) (withdrawn history) act so_far)
    right.there (none-told-before (reports history) (answers history) condition right.untold) right.is
    (λ outcome s lawful inside. with_slot-lawful (outlook_of (entered b act)) outcome condition s right.facts lawful
    (ap (λ (cs : List Facts). slice_get cs condition) (append-nil (conditions history)) ∙ right.there) inside
    (ap (λ (ans : List Payouts). numerators_on ans condition) (append-nil (answers history)) ∙ unanswered history condition right.facts is right.there right.other)
    (apart history condition right.facts is right.there right.other)))

-- each command that no refusal below that of a supply meets
pub settled-with : (limits : Bounds) (history : List Act) (account moment : ℕ) (command : Command) → IsOrderlyBy history → IsMatched history command → IsSettledBy history
    → AreNone (earlier (question_of limits history (record { account = account; command = command; moment = moment }))) → IsSettledWith history (record { account = account; command = command; moment = moment })
settled-with limits history account moment (Prepare oracle question slots) is matched so_far none =
    let act : Act = record { account = account; command = Prepare oracle question slots; moment = moment } in
    let b = book history in
    settled-same _ _ _ _ _ _ _ _ _ _ _ _ refl (sym (append-nil (reports history))) (sym (append-nil (postings history))) (omega arith) (omega arith)
    (settled-prepared (conditions history) (reports history) (postings history) (deposited history) (withdrawn history) (λ outcome. IsLawful (outlook_of (entered b act)) outcome) (λ outcome. HaveWinners outcome (entered b act).conversions)
    (record { oracle = oracle; question = question; slots = slots }) (right-of b is) (fewer b (deposited history) (withdrawn history) act so_far))
settled-with limits history account moment (Event oracle questions fee) is matched so_far none =
    let act : Act = record { account = account; command = Event oracle questions fee; moment = moment } in
    let b = book history in
    settled-same _ _ _ _ _ _ _ _ _ _ _ _ refl (sym (append-nil (reports history))) (sym (append-nil (postings history))) (omega arith) (omega arith)
    (settled-all (conditions history) (reports history) (postings history) (deposited history) (withdrawn history) (λ outcome. IsLawful (outlook_of (entered b act)) outcome) (λ outcome. HaveWinners outcome (entered b act).conversions)
    (questions_from (length (events history)) 0 questions) (right-of b is) (fewer b (deposited history) (withdrawn history) act so_far))
settled-with limits history account moment (Report condition payouts) is matched so_far none = reported-more limits history account moment condition payouts is so_far none
settled-with limits history account moment command is matched so_far none = posted limits history (record { account = account; command = command; moment = moment }) is matched so_far refl refl none

settled-more : (limits : Bounds) (history : List Act) (act : Act) → IsOrderlyBy history → AreTraded history → IsSettledBy history → IsAccepted limits history act → IsSettledBy (history ++ act ∷ [])
settled-more limits history act is trades so_far accepted =
    let none = earlier-none (question_of limits history act) accepted.accepted in
    let matched = accepted-match limits history act.account act.moment act.command trades (act-ranges act.command accepted.may_be_act) none in
    subst (λ (b : Book). IsSettledOf b (deposited (history ++ act ∷ [])) (withdrawn (history ++ act ∷ []))) (sym (book-more history act))
    (subst (λ (paid_in : ℕ). IsSettledOf (entered (book history) act) paid_in (withdrawn (history ++ act ∷ []))) (sym (deposited-more history act))
    (subst (λ (paid_out : ℕ). IsSettledOf (entered (book history) act) (deposited history + deposit_of act.command) paid_out) (sym (withdrawn-more history act))
    (settled-with limits history act.account act.moment act.command is matched so_far none)))

-- what holds of a legal history: the three go on together
record Holds (history : List Act) : Type 0 where
  pub orderly : IsOrderlyBy history
  pub trades : AreTraded history
  pub settled : IsSettledBy history

sound : (limits : Bounds) (history : List Act) → IsLegal limits history → Holds history
sound limits history legal =
    legal-all limits Holds (record { orderly = orderly-start; trades = traded-start; settled = settled-start _ _ })
    (λ h act so_far accepted. record {
      orderly = orderly-more limits h act so_far.orderly accepted;
      trades = traded-more limits h act so_far.trades accepted;
      settled = settled-more limits h act so_far.orderly so_far.trades so_far.settled accepted;
    }) history legal

pub settled : (limits : Bounds) (history : List Act) → IsLegal limits history → IsSettledBy history
settled limits history legal = (sound limits history legal).settled

-- ---- what follows

-- no denominator is 0
den-some : (b : Book) → IsOrderlyOf b → 0 < denominator (results_of b)
den-some b is = denominator-some (results_of b) (λ c. some c (numerators_on b.reports c) refl)
  where
    by : (o : Option Facts) (ns : List ℕ) → MatchOption o ⊥ (λ f. IsReport f.slots ns) → 0 < sum ns
    by None ns right = absurd right
    by (Some f) ns right = right.some

    some : (c : ℕ) (o : Option (List ℕ)) → numerators_on b.reports c ≡ o → 0 < denominator_of o
    some c None told = omega arith
    some c (Some ns) told = by (slice_get b.conditions c) ns (right-of b is c ns told)

-- ---- there is a lawful outcome: what was answered, and NO of all else

abbrev slot_told : Option (List ℕ) → ℕ
slot_told None = 1
slot_told (Some ns) = cond (is_yes ns) 0 1

abbrev standing : List Payouts → Outcome
standing ans c = slot_told (numerators_on ans c)

-- none of them wins
winners-none : (outcome : Outcome) (qs : List ℕ) → ((j d : ℕ) → slice_get qs j ≡ Some d → outcome d ≡ 0 → ⊥) → winners outcome qs ≡ 0
winners-none outcome [] nobody = refl
winners-none outcome (q ∷ qs) nobody =
    let rest = winners-none outcome qs (λ j d at. nobody (suc j) d at) in
    elim (cases_Bool (outcome q == 0)) [
      | inl wins ↦ absurd (nobody 0 q refl (eqb-true (outcome q) 0 wins))
      | inr other ↦ rw other (omega (arith, rest))
    ]

-- one at most, where any two are at one place
winners-one : (outcome : Outcome) (qs : List ℕ) → ((i j c d : ℕ) → slice_get qs i ≡ Some c → slice_get qs j ≡ Some d → outcome c ≡ 0 → outcome d ≡ 0 → i ≡ j) → winners outcome qs ≤ 1
winners-one outcome [] same = omega arith
winners-one outcome (q ∷ qs) same =
    elim (cases_Bool (outcome q == 0)) [
      | inl wins ↦
          let rest = winners-none outcome qs (λ j d at won. absurd (omega (arith, same 0 (suc j) q d refl at (eqb-true (outcome q) 0 wins) won))) in
          rw wins (omega (arith, rest))
      | inr other ↦
          let rest = winners-one outcome qs (λ i j c d at there one two. omega (arith, same (suc i) (suc j) c d at there one two)) in
          rw other (omega (arith, rest))
    ]

slot-few : (o : Option (List ℕ)) → slot_told o ≤ 1
slot-few None = omega arith
slot-few (Some ns) = by (is_yes ns)
  where
    by : (b : Bool) → cond b 0 1 ≤ 1
    by true = omega arith
    by false = omega arith

-- an answer gives its slot the 1
slot-answered : (ns : List ℕ) → IsAnswer ns → slice_get ns (slot_told (Some ns)) ≡ Some 1
slot-answered ns is = elim is [
  | inl won ↦ rw won refl
  | inr lost ↦ rw lost refl
]

-- the first slot of what was answered is that of YES
slot-yes : (o : Option (List ℕ)) → MatchOption o ⊤ IsAnswer → slot_told o ≡ 0 → o ≡ Some yes
slot-yes None is first = absurd (omega (arith, first))
slot-yes (Some ns) is first = elim is [
  | inl won ↦ ap Some won
  | inr lost ↦ absurd (omega (arith, sym (ap (λ (xs : List ℕ). slot_told (Some xs)) lost) ∙ first))
]

standing-lawful : (b : Book) → IsOrderlyOf b → IsLawful (outlook_of b) (standing b.answers)
standing-lawful b is = record {
  slots = λ c f at. omega (arith, is.slots c f at, slot-few (numerators_on b.answers c));
  answers = λ c ns told. ap (λ (o : Option (List ℕ)). slice_get ns (slot_told o)) told ∙ slot-answered ns (is.answers c ns told).1;
  one_winner = All-map (λ (qs : List ℕ). winners (standing b.answers) qs ≤ 1) (λ (event : EventView). event.conditions) b.events
      (λ e d inside. winners-one (standing b.answers) (get_or b.events e d).conditions
      (λ i j c x at there one two. place e (get_or b.events e d) (slice_get-get_or b.events e d inside) i j c x at there one two));
}
  where
    form : (c : ℕ) (o : Option (List ℕ)) → numerators_on b.answers c ≡ o → MatchOption o ⊤ IsAnswer
    form c None told = tt
    form c (Some ns) told = (is.answers c ns told).1

    wins : (e : ℕ) (event : EventView) → slice_get b.events e ≡ Some event → (i c : ℕ) → slice_get event.conditions i ≡ Some c → standing b.answers c ≡ 0 → winner_in b.events e ≡ Some i
    wins e event at i c there first =
        is.winners e i c (ap (option_and_then (λ (x : EventView). slice_get x.conditions i)) at ∙ there) (slot-yes (numerators_on b.answers c) (form c (numerators_on b.answers c) refl) first)

    place : (e : ℕ) (event : EventView) → slice_get b.events e ≡ Some event → (i j c d : ℕ) → slice_get event.conditions i ≡ Some c → slice_get event.conditions j ≡ Some d → standing b.answers c ≡ 0 → standing b.answers d ≡ 0 → i ≡ j
    place e event at i j c d here there one two =
        let both : Some i ≡ Some j = sym (wins e event at i c here one) ∙ wins e event at j d there two in
        cc

-- what is no more so many times is no more
times-le : (x y d : ℕ) → 0 < d → x * d ≤ y * d → x ≤ y
times-le x y d some le =
    let turned : d * x ≤ d * y = omega (arith, le, mul_comm x d, mul_comm y d) in
    le_of_mul-le-mul_left turned some

-- no more was paid out of the vault than into it
pub paid-out : (limits : Bounds) (history : List Act) → IsLegal limits history → withdrawn history ≤ deposited history
paid-out limits history legal =
    let all = sound limits history legal in
    let v : Pairs → ℕ = worth (results history) (standing (answers history)) in
    let d = denominator (results history) in
    let within = all.settled.within (standing (answers history)) (standing-lawful (book history) all.orderly) in
    times-le (withdrawn history) (deposited history) d (den-some (book history) all.orderly) (omega (arith, within, taken-within v (postings history) all.settled.above))

-- what the vault holds is what was paid in beyond what was paid out
vault-parts : (paid_in paid_out d : ℕ) → paid_out ≤ paid_in → paid_in * d ≡ paid_out * d + (paid_in - paid_out) * d
vault-parts paid_in paid_out d less =
    let whole : paid_in ≡ paid_out + (paid_in - paid_out) = omega (arith, less) in
    ap (λ n. n * d) whole ∙ add-mul paid_out (paid_in - paid_out) d

-- where one question of each event wins, one of those of each conversion does
each-converted : (limits : Bounds) (history : List Act) (outcome : Outcome) → IsLegal limits history → HaveWinners outcome (outlook history).events → HaveWinners outcome (conversions history)
each-converted limits history outcome legal won =
    All-weaker (Contains (questions_of (events history))) (λ (qs : List ℕ). winners outcome qs ≡ 1) (λ qs has. All-contains (λ (x : List ℕ). winners outcome x ≡ 1) (questions_of (events history)) qs won has)
    (conversions history) (sound limits history legal).orderly.converted

-- the vault covers all holdings at each lawful outcome, and exactly before any report where one question of each event wins
pub can-pay : (limits : Bounds) (history : List Act) → IsLegal limits history → CanPay history
can-pay limits history legal =
    let is = settled limits history legal in
    let parts = vault-parts (deposited history) (withdrawn history) (denominator (results history)) (paid-out limits history legal) in
    record {
      covered = λ outcome lawful. omega (arith, is.within outcome lawful, parts);
      exact = λ before outcome lawful won. omega (arith, is.exact before outcome lawful (each-converted limits history outcome legal won), parts);
      exact_where_converted = λ before outcome lawful won. omega (arith, is.exact before outcome lawful won, parts);
    }

-- there is a lawful outcome
pub possible : (limits : Bounds) (history : List Act) → IsLegal limits history → (outcome : Outcome) × IsLawful (outlook history) outcome
possible limits history legal = (standing (answers history), standing-lawful (book history) (sound limits history legal).orderly)

-- what all holdings are worth is balance times worth over the positions that hold anything
pub held : (limits : Bounds) (history : List Act) (value : Pairs → ℕ) (positions : List (ℕ × Pairs)) → IsLegal limits history → AreEntries (balance history) positions
    → held_worth value (balance history) positions ≡ need value (postings history)
held limits history value positions legal entries = held-need value (postings history) positions (settled limits history legal).above entries

-- ---- cash

-- what something is worth besides cash
besides : (Pairs → ℕ) → Pairs → ℕ
besides value k = cond (same_collection k root) 0 (value k)

-- what postings pay is cash, at what that is worth, and other shares; and so is what they take
cash-apart : (value : Pairs → ℕ) (amount : ℕ) (k : Pairs) → amount * value k ≡ cond (same_collection k root) amount 0 * value root + amount * besides value k
unfolding besides
cash-apart value amount [] = omega arith
cash-apart value amount (p ∷ ps) = omega arith

paid-apart : (value : Pairs → ℕ) (ps : List Posting) → paid_worth value ps ≡ minted ps root * value root + paid_worth (besides value) ps
paid-apart value [] = omega (arith, paid-none value, paid-none (besides value))
paid-apart value (p ∷ ps) =
    omega (
      arith,
      paid-apart value ps,
      cash-apart value p.paid p.collection,
      paid-cons value p ps,
      paid-cons (besides value) p ps,
      ap (λ n. n * value root) (sum_by-cons (paid_to root) p ps),
      add-mul (paid_to root p) (minted ps root) (value root),
    )

taken-apart : (value : Pairs → ℕ) (ps : List Posting) → taken_worth value ps ≡ burnt ps root * value root + taken_worth (besides value) ps
taken-apart value [] = omega (arith, taken-none value, taken-none (besides value))
taken-apart value (p ∷ ps) =
    omega (
      arith,
      taken-apart value ps,
      cash-apart value p.taken p.collection,
      taken-cons value p ps,
      taken-cons (besides value) p ps,
      ap (λ n. n * value root) (sum_by-cons (taken_from root) p ps),
      add-mul (taken_from root p) (burnt ps root) (value root),
    )

-- the cash that was minted is what was burnt and what was paid in, at the most
cash-within : (b : Book) (paid_in paid_out : ℕ) → IsOrderlyOf b → IsSettledOf b paid_in paid_out → minted b.postings root + paid_out ≤ burnt b.postings root + paid_in
cash-within b paid_in paid_out orderly is =
    let outcome = standing b.answers in
    let ps = b.postings in
    let v : Pairs → ℕ = worth (results_of b) outcome in
    let d = denominator (results_of b) in
    let cash : v root ≡ d = cash-worth (results_of b) outcome in
    times-le (minted ps root + paid_out) (burnt ps root + paid_in) d (den-some b orderly)
    (omega (
      arith,
      is.within outcome (standing-lawful b orderly),
      taken-within (besides v) ps is.above,
      paid-apart v ps,
      taken-apart v ps,
      ap (λ n. minted ps root * n) cash,
      ap (λ n. burnt ps root * n) cash,
      add-mul (minted ps root) paid_out d,
      add-mul (burnt ps root) paid_in d,
    ))

-- the cash of all accounts together is within the vault
pub cash : (limits : Bounds) (history : List Act) → IsLegal limits history → supply history root ≤ vault history
cash limits history legal =
    let all = sound limits history legal in
    omega (arith, cash-within (book history) _ _ all.orderly all.settled, paid-out limits history legal)

-- the vault of a legal history is within its limit
vault-bound : (limits : Bounds) (history : List Act) → IsLegal limits history → vault history ≤ MAX_AMOUNT
vault-bound limits history legal =
    legal-all limits (λ h. vault h ≤ MAX_AMOUNT) (omega arith)
    (λ h act so_far accepted. omega (arith, accepted-vault (question_of limits h act) (earlier-none (question_of limits h act) accepted.accepted) so_far, deposited-more h act, withdrawn-more h act))
    history legal

-- one for cash, and nothing for any share
cash_value : Pairs → ℕ
cash_value k = cond (same_collection k root) 1 0

one-cash : (amount : ℕ) (k : Pairs) → amount * cash_value k ≡ cond (same_collection k root) amount 0
unfolding cash_value
one-cash amount [] = omega arith
one-cash amount (p ∷ ps) = omega arith

cash-paid : (ps : List Posting) → paid_worth cash_value ps ≡ minted ps root
cash-paid [] = paid-none cash_value
cash-paid (p ∷ ps) = omega (arith, cash-paid ps, one-cash p.paid p.collection, paid-cons cash_value p ps, sum_by-cons (paid_to root) p ps)

cash-taken : (ps : List Posting) → taken_worth cash_value ps ≡ burnt ps root
cash-taken [] = taken-none cash_value
cash-taken (p ∷ ps) = omega (arith, cash-taken ps, one-cash p.taken p.collection, taken-cons cash_value p ps, sum_by-cons (taken_from root) p ps)

-- no more cash was burnt than minted
burnt-within : (limits : Bounds) (history : List Act) → IsLegal limits history → burnt (postings history) root ≤ minted (postings history) root
burnt-within limits history legal =
    omega (arith, taken-within cash_value (postings history) (settled limits history legal).above, cash-paid (postings history), cash-taken (postings history))

-- and a command that is refused for a supply isn't for that of cash
pub cash-fits : (q : Question) (supplied : ℕ) → IsLegal q.limits q.history → in_ranges q.command ≡ true → verdict q ≡ Some (SupplyLimit supplied)
    → is_above_supply (supply q.history) (postings_of (book q.history) q.account q.command) root ≡ false
cash-fits q supplied legal ranges is =
    let none = earlier-of-supply q supplied is in
    let all = sound q.limits q.history legal in
    let act : Act = record { account = q.account; command = q.command; moment = q.moment } in
    let matched = accepted-match q.limits q.history q.account q.moment q.command all.trades ranges none in
    let more = settled-with q.limits q.history q.account q.moment q.command all.orderly matched all.settled none in
    let orderly = orderly-with q.limits q.history q.account q.moment q.command all.orderly ranges none in
    let ps = postings q.history in
    let qs = postings_of (book q.history) q.account q.command in
    let within = cash-within (entered (book q.history) act) _ _ orderly more in
    let limit = accepted-vault q none (vault-bound q.limits q.history legal) in
    let fits : supply q.history root + minted qs root ≤ MAX_AMOUNT + burnt qs root
    = omega (arith, within, limit, sum_by-append (paid_to root) ps qs, sum_by-append (taken_from root) ps qs, paid-out q.limits q.history legal, burnt-within q.limits q.history legal) in
    grind (arith, nat_tests, fits)
