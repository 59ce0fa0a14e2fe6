-- What an exchange keeps goes on with each accepted act.
use Rattle.std.proofs.Common.{◌≡◌, ℕ, ◌+◌, ◌^◌, ◌<◌, ◌≤◌, List, length, [], ◌∷◌, ◌++◌, sym, ◌∙◌, ap, arith, length-append, refl, false, subst, None}
use Rattle.std.specs.Prelude.{ℤ, pos, ◌+ℤ◌, ◌≤ℤ◌, option_map, nat_le, Bool, true, Option, Some}
use Rattle.std.proofs.lemmas.Bool.Decides.{nat_tests}
use Rattle.command_words.specs.declared.refusal.Refusal.{Refusal}
use Rattle.command_words.specs.declared.refusal.Refusal.TheVariants.{SupplyLimit, EntriesLimit, HistoryFull}
use Rattle.std.proofs.lemmas.Int.{ints}
use Rattle.condition_sets.specs.declared.amount.TheConstants.{MAX_AMOUNT}
use Rattle.command_words.specs.declared.act.Act.{Act}
use Rattle.condition_table.specs.declared.facts.Facts.{Facts}
use Rattle.settle_core.specs.Book.{book, conditions, events, events_after, postings, postings_of, prepared_by, told}
use Rattle.settle_core.specs.Bounds.{Bounds}
use Rattle.collection_keys.specs.Collections.{Pairs}
use Rattle.collection_keys.proofs.Sameness.{same_collection_Decides}
use Rattle.event_table.specs.Events.{EventView, EventsView}
use Rattle.ledger_book.specs.Entries.{HasEntries, AreEntries, has_position, held_after, entries_of}
use Rattle.ledger_book.specs.Ledger.{LedgerView, IsEmpty, HoldSame, amount_at, supply_at, names}
use Rattle.ledger_book.specs.Naming.{new_names}
use Rattle.ledger_book.specs.Postings.{credits, debits, minted, burnt, paid_to, taken_from, paid_to_account, taken_from_account, IsFunded}
use Rattle.ledger_book.specs.Staging.{oversupplied}
use Rattle.ledger_book.proofs.Fresh.{length-new_names}
use Rattle.settle_core.specs.Kept.{AreReported, IsKept, most_posted, numerators_after}
use Rattle.settle_core.specs.Legal.{IsAccepted}
use Rattle.ledger_book.specs.declared.posting.Posting.{Posting}
use Rattle.settle_core.specs.Postings.{deposit_of, withdrawal_of, balance, supply}
use Rattle.settle_core.specs.Exchange.{AreChangesOf, vault_change}
use Rattle.settle_core.specs.declared.changes.Changes.{Changes}
use Rattle.condition_table.specs.Conditions.{ConditionsView, numerators_at}
use Rattle.settle_core.specs.OrderRules.{where_}
use Rattle.settle_core.specs.Refusals.{is_above_entries}
use Rattle.settle_core.specs.Verdict.{question_of, first_some}
use Rattle.command_words.specs.declared.act.TheConstants.{MAX_HISTORY}
use Rattle.command_words.proofs.Acts.{act-makes, act-ranges}
use Rattle.settle_core.proofs.EntryCounts.{after-within, after-counted, counted-new}
use Rattle.settle_core.proofs.Histories.{IsLegal-more, conditions-more, deposited-more, events-more, length-more, sum-more, told-more, withdrawn-more}
use Rattle.settle_core.proofs.Coverage.{paid-out}
use Rattle.settle_core.proofs.Entered.{accepted-choices, orderly}
use Rattle.settle_core.proofs.Posted.{AreChoices, posted-few}
use Rattle.settle_core.proofs.Reported.{reported-after}
use Rattle.settle_core.proofs.Verdicts.{earlier-none, accepted-within, accepted-vault, accepted-supply, accepted-entries}

-- the balances and the supplies that are kept are those of the history
pub kept-balance : (limits : Bounds) (made : EventsView) (table : ConditionsView) (ledger : LedgerView) (history : List Act) → IsKept limits made table ledger history → (a : ℕ) (k : Pairs) → balance history a k ≡ amount_at ledger a k
kept-balance limits made table ledger history kept a k = omega (arith, kept.balances a k)

pub kept-supply : (limits : Bounds) (made : EventsView) (table : ConditionsView) (ledger : LedgerView) (history : List Act) → IsKept limits made table ledger history → (k : Pairs) → supply history k ≡ supply_at ledger k
kept-supply limits made table ledger history kept k = omega (arith, kept.supplies k)

-- an accepted act pays no more into the vault than it may hold, and no more out of it than there is
pub kept-pays : (limits : Bounds) (made : EventsView) (table : ConditionsView) (ledger : LedgerView) (history : List Act) (act : Act) → IsKept limits made table ledger history → IsAccepted limits history act → ledger.vault + deposit_of act.command ≤ MAX_AMOUNT
kept-pays limits made table ledger history act kept accepted =
    omega (arith, kept.vault, accepted-vault (question_of limits history act) (earlier-none (question_of limits history act) accepted.accepted) (omega (arith, kept.vault, kept.funded)))

pub kept-covers : (limits : Bounds) (made : EventsView) (table : ConditionsView) (ledger : LedgerView) (history : List Act) (act : Act) → IsKept limits made table ledger history → IsAccepted limits history act → withdrawal_of act.command ≤ ledger.vault + deposit_of act.command
kept-covers limits made table ledger history act kept accepted =
    omega (arith, kept.vault, paid-out limits history kept.legal, paid-out limits (history ++ act ∷ []) (IsLegal-more limits history act kept.legal accepted), deposited-more history act, withdrawn-more history act)

-- the set of an accepted conversion chooses questions of its event
pub kept-choices : (limits : Bounds) (made : EventsView) (table : ConditionsView) (ledger : LedgerView) (history : List Act) (act : Act) → IsKept limits made table ledger history → IsAccepted limits history act → AreChoices (events history) act.command
kept-choices limits made table ledger history act kept accepted = accepted-choices limits history act.account act.moment act.command (orderly limits history kept.legal) (earlier-none (question_of limits history act) accepted.accepted)

-- the changes of an act take what the ledger holds
pub kept-funded : (limits : Bounds) (made : EventsView) (table : ConditionsView) (ledger : LedgerView) (history : List Act) (ps : List Posting) → IsKept limits made table ledger history → IsFunded (balance history) ps → IsFunded (amount_at ledger) ps
kept-funded limits made table ledger history ps kept funded =
    subst (λ (held : ℕ → Pairs → ℕ). IsFunded held ps) (λ i a k. kept-balance limits made table ledger history kept a k i) funded

-- the changes of an accepted act leave every supply within its limit
pub kept-admitted : (limits : Bounds) (made : EventsView) (table : ConditionsView) (ledger : LedgerView) (history : List Act) (act : Act) (changes : Changes) → IsKept limits made table ledger history → IsAccepted limits history act → AreChangesOf history act.account act.command changes → oversupplied (supply_at ledger) changes.staged.postings ≡ None
kept-admitted limits made table ledger history act changes kept accepted are =
    ap (oversupplied (supply_at ledger)) are.postings
    ∙ (sym (ap (λ (supplied : Pairs → ℕ). oversupplied supplied (postings_of (book history) act.account act.command)) (λ i k. kept-supply limits made table ledger history kept k i))
    ∙ accepted-supply (question_of limits history act) accepted.accepted)

-- and the vault within its own
pub kept-vault : (limits : Bounds) (made : EventsView) (table : ConditionsView) (ledger : LedgerView) (history : List Act) (act : Act) (changes : Changes) → IsKept limits made table ledger history → IsAccepted limits history act → AreChangesOf history act.account act.command changes → (pos ledger.vault +ℤ changes.staged.vault) ≤ℤ pos MAX_AMOUNT
kept-vault limits made table ledger history act changes kept accepted are =
    subst (λ (change : ℤ). (pos ledger.vault +ℤ change) ≤ℤ pos MAX_AMOUNT) (sym are.vault) (omega (arith, ints, kept-pays limits made table ledger history act kept accepted))

pub kept-vault_low : (limits : Bounds) (made : EventsView) (table : ConditionsView) (ledger : LedgerView) (history : List Act) (act : Act) (changes : Changes) → IsKept limits made table ledger history → IsAccepted limits history act → AreChangesOf history act.account act.command changes → pos 0 ≤ℤ (pos ledger.vault +ℤ changes.staged.vault)
kept-vault_low limits made table ledger history act changes kept accepted are =
    subst (λ (change : ℤ). pos 0 ≤ℤ (pos ledger.vault +ℤ change)) (sym are.vault) (omega (arith, ints, kept-covers limits made table ledger history act kept accepted))

-- and no more balances than there may be
pub kept-entries : (limits : Bounds) (made : EventsView) (table : ConditionsView) (ledger : LedgerView) (history : List Act) (act : Act) (changes : Changes) → IsKept limits made table ledger history → IsAccepted limits history act → AreChangesOf history act.account act.command changes
    → (n : ℕ) → HasEntries (held_after (amount_at ledger) changes.staged.postings) n → n ≤ ledger.limit
kept-entries limits made table ledger history act changes kept accepted are n has =
    let funded = kept-funded limits made table ledger history changes.staged.postings kept are.funded in
    let fits = subst (λ (ps : List Posting). is_above_entries limits.entries (postings history) ps ≡ false) (sym are.postings) (accepted-entries (question_of limits history act) accepted.accepted) in
    omega (arith, kept.limit, after-within (amount_at ledger) (postings history) changes.staged.postings limits.entries kept.balances funded kept.entries fits n has)

-- the ledger has room for as many names as the changes may give
pub kept-names : (limits : Bounds) (made : EventsView) (table : ConditionsView) (ledger : LedgerView) (history : List Act) (act : Act) (changes : Changes) → IsKept limits made table ledger history → IsAccepted limits history act → AreChangesOf history act.account act.command changes
    → length (names ledger) + length changes.staged.postings < 2 ^ 32
kept-names limits made table ledger history act changes kept accepted are =
    let few : length changes.staged.postings ≤ most_posted = subst (λ (ps : List Posting). length ps ≤ most_posted) (sym are.postings) (posted-few (book history) act.account act.command (act-ranges act.command accepted.may_be_act) (kept-choices limits made table ledger history act kept accepted)) in
    omega (arith, kept.names, kept.few, kept.within, kept.bounded, few)

-- the table has what was told with an accepted act
kept-reported : (limits : Bounds) (made made' : EventsView) (table table' : ConditionsView) (ledger : LedgerView) (history : List Act) (act : Act) → IsKept limits made table ledger history → IsAccepted limits history act
    → table'.facts ≡ table.facts ++ prepared_by made.events act.command → table'.numerators ≡ numerators_after made.events table.numerators act.command → AreReported table'.facts table'.numerators (told (history ++ act ∷ []))
kept-reported limits made made' table table' ledger history act kept accepted facts told' =
    let before : AreReported (conditions history) table.numerators (told history) = subst (λ (fs : List Facts). AreReported fs table.numerators (told history)) kept.conditions kept.reports in
    let after = reported-after limits history act.account act.moment act.command table.numerators (orderly limits history kept.legal) (earlier-none (question_of limits history act) accepted.accepted) before in
    let facts_are : table'.facts ≡ conditions history ++ prepared_by (events history) act.command = facts ∙ (λ i. kept.conditions i ++ prepared_by (kept.events i) act.command) in
    let told_are : table'.numerators ≡ numerators_after (events history) table.numerators act.command = told' ∙ ap (λ (es : List EventView). numerators_after es table.numerators act.command) kept.events in
    let then : ℕ → Option (List ℕ) = told (history ++ act ∷ []) in
    let here : AreReported (conditions history ++ prepared_by (events history) act.command) (numerators_after (events history) table.numerators act.command) then
    = subst (λ (t : ℕ → Option (List ℕ)). AreReported (conditions history ++ prepared_by (events history) act.command) (numerators_after (events history) table.numerators act.command) t) (sym (told-more history act)) after in
    subst (λ (fs : List Facts). AreReported fs table'.numerators then) (sym facts_are)
    (subst (λ (ns : List (Option (List ℕ))). AreReported (conditions history ++ prepared_by (events history) act.command) ns then) (sym told_are) here)

pub kept-more : (limits : Bounds) (made made' : EventsView) (table table' : ConditionsView) (ledger ledger' : LedgerView) (history : List Act) (act : Act) (changes : Changes) → IsKept limits made table ledger history → IsAccepted limits history act → AreChangesOf history act.account act.command changes
    → table'.facts ≡ table.facts ++ prepared_by made.events act.command → table'.numerators ≡ numerators_after made.events table.numerators act.command → made'.events ≡ events_after (length table.facts) made.events act.command
    → table'.limit ≡ table.limit → made'.limit ≡ made.limit
    → ((a : ℕ) (k : Pairs) → amount_at ledger' a k + debits changes.staged.postings a k ≡ amount_at ledger a k + credits changes.staged.postings a k)
    → ((k : Pairs) → supply_at ledger' k + burnt changes.staged.postings k ≡ supply_at ledger k + minted changes.staged.postings k)
    → pos ledger'.vault ≡ pos ledger.vault +ℤ changes.staged.vault
    → names ledger' ≡ names ledger ++ new_names (names ledger) changes.staged.postings → ledger'.limit ≡ ledger.limit
    → IsKept limits made' table' ledger' (history ++ act ∷ [])
kept-more limits made made' table table' ledger ledger' history act changes kept accepted are facts told' events' limit most_made balances' supplies' vault' names' most' =
    let funded_here = kept-funded limits made table ledger history changes.staged.postings kept are.funded in
    let posted = length-more history act in
    let as_many : length changes.staged.postings ≡ length (postings_of (book history) act.account act.command) = ap length are.postings in
    let paid_in : pos ledger'.vault ≡ pos ledger.vault +ℤ vault_change act.command = vault' ∙ ap (λ (change : ℤ). pos ledger.vault +ℤ change) are.vault in
    let moved_in : ledger'.vault + withdrawal_of act.command ≡ ledger.vault + deposit_of act.command = omega (arith, ints, paid_in) in
    record {
      legal = IsLegal-more limits history act kept.legal accepted;
      within = omega (arith, length-append history (act ∷ []), accepted-within (question_of limits history act) accepted.accepted (act-makes act.command accepted.may_be_act));
      bounded = kept.bounded;
      events = events' ∙ ((λ i. events_after (length (kept.conditions i)) (kept.events i) act.command) ∙ sym (events-more history act));
      most_events = most_made ∙ kept.most_events;
      reports = kept-reported limits made made' table table' ledger history act kept accepted facts told';
      conditions = facts ∙ ((λ i. kept.conditions i ++ prepared_by (kept.events i) act.command) ∙ sym (conditions-more history act));
      most = limit ∙ kept.most;
      vault = omega (arith, moved_in, kept.vault, paid-out limits history kept.legal, deposited-more history act, withdrawn-more history act);
      funded = omega (arith, moved_in, kept-pays limits made table ledger history act kept accepted);
      balances = λ a k.
          let moved = subst (λ (ps : List Posting). amount_at ledger' a k + debits ps a k ≡ amount_at ledger a k + credits ps a k) are.postings (balances' a k) in
          omega (arith, kept.balances a k, moved, sum-more (paid_to_account a k) history act, sum-more (taken_from_account a k) history act);
      supplies = λ k.
          let moved = subst (λ (ps : List Posting). supply_at ledger' k + burnt ps k ≡ supply_at ledger k + minted ps k) are.postings (supplies' k) in
          omega (arith, kept.supplies k, moved, sum-more (paid_to k) history act, sum-more (taken_from k) history act);
      limit = most' ∙ kept.limit;
      entries = λ n has. omega (arith, kept.limit, kept-entries limits made table ledger history act changes kept accepted are n (counted-new (amount_at ledger) (amount_at ledger') changes.staged.postings n funded_here balances' has));
      names = omega (arith, kept.names, posted, as_many, ap length names', length-append (names ledger) (new_names (names ledger) changes.staged.postings), length-new_names (names ledger) changes.staged.postings);
      few = omega (arith, kept.few, posted, posted-few (book history) act.account act.command (act-ranges act.command accepted.may_be_act) (kept-choices limits made table ledger history act kept accepted), length-append history (act ∷ []));
    }

pub hold-same : (ledger : LedgerView) → HoldSame ledger ledger
hold-same ledger = record { amounts = λ a k. refl; supplies = λ k. refl; names = refl; vault = refl; limit = refl }

-- what was reported stays with what is prepared and reported
reported-same : (table table' : ConditionsView) (reported : ℕ → Option (List ℕ)) → table'.facts ≡ table.facts → table'.numerators ≡ table.numerators → AreReported table.facts table.numerators reported → AreReported table'.facts table'.numerators reported
reported-same table table' reported facts numerators is = record {
  as_many = omega (arith, is.as_many, ap length facts, ap length numerators);
  each = λ c. ap (λ (ns : List (Option (List ℕ))). numerators_at ns c) numerators ∙ is.each c;
}

-- what is kept stays where the table and the ledger have more room alone
pub kept-same : (limits : Bounds) (made made' : EventsView) (table table' : ConditionsView) (ledger ledger' : LedgerView) (history history' : List Act) → IsKept limits made table ledger history → made'.events ≡ made.events → made'.limit ≡ made.limit → table'.facts ≡ table.facts → table'.numerators ≡ table.numerators → table'.limit ≡ table.limit → HoldSame ledger ledger' → history' ≡ history → IsKept limits made' table' ledger' history'
kept-same limits made made' table table' ledger ledger' history history' kept made_same most_made facts numerators limit same acts =
    subst (λ (h : List Act). IsKept limits made' table' ledger' h) (sym acts) (record {
      legal = kept.legal;
      within = kept.within;
      bounded = kept.bounded;
      events = made_same ∙ kept.events;
      most_events = most_made ∙ kept.most_events;
      conditions = facts ∙ kept.conditions;
      reports = reported-same table table' (told history) facts numerators kept.reports;
      most = limit ∙ kept.most;
      vault = same.vault ∙ kept.vault;
      funded = omega (arith, same.vault, kept.funded);
      balances = λ a k. omega (arith, same.amounts a k, kept.balances a k);
      supplies = λ k. omega (arith, same.supplies k, kept.supplies k);
      limit = same.limit ∙ kept.limit;
      entries = λ n has. kept.entries n (subst (λ (f : ℕ → Pairs → ℕ). HasEntries f n) (λ i a k. same.amounts a k i) has);
      names = omega (arith, kept.names, ap length same.names);
      few = kept.few;
    })

-- ---- the empty history

none-counted : (held : ℕ → Pairs → ℕ) (n : ℕ) → ((a : ℕ) (k : Pairs) → held a k ≡ 0) → HasEntries held n → n ≤ 0
none-counted held n nothing has = counted has.0 has.1 has.2
  where
    counted : (ps : List (ℕ × Pairs)) → AreEntries held ps → length ps ≡ n → n ≤ 0
    counted [] are is = omega (arith, is)
    counted (p ∷ ps) are is = absurd (omega (arith, are.each p.0 p.1 (here p ps), nothing p.0 p.1))
      where
        here : (p : ℕ × Pairs) (ps : List (ℕ × Pairs)) → has_position (p ∷ ps) p.0 p.1 ≡ true
        here p ps = grind (arith, nat_tests, (same_collection_Decides p.1 p.1).1 refl)

pub kept-empty : (limits : Bounds) (made : EventsView) (table : ConditionsView) (ledger : LedgerView) (history : List Act) → history ≡ [] → limits.history ≤ MAX_HISTORY → made.events ≡ [] → made.limit ≡ limits.events → table.facts ≡ [] → table.numerators ≡ [] → table.limit ≡ limits.conditions → IsEmpty ledger → ledger.limit ≡ limits.entries
    → IsKept limits made table ledger history
kept-empty limits made table ledger history none bounded made_none most_made facts numerators limit empty entries =
    subst (λ (h : List Act). IsKept limits made table ledger h) (sym none) (record {
      legal = λ place act at. cc;
      within = omega arith;
      bounded = bounded;
      events = made_none;
      most_events = most_made;
      conditions = facts;
      reports = record { as_many = omega (arith, ap length facts, ap length numerators); each = λ c. ap (λ (ns : List (Option (List ℕ))). numerators_at ns c) numerators };
      most = limit;
      vault = empty.vault;
      funded = omega (arith, empty.vault);
      balances = λ a k. omega (arith, empty.amounts a k);
      supplies = λ k. omega (arith, empty.supplies k);
      limit = entries;
      entries = λ n has. omega (arith, none-counted (amount_at ledger) n empty.amounts has);
      names = omega (arith, ap length empty.names);
      few = omega arith;
    })

-- ---- the refusals of changes that are staged

pub kept-oversupplied : (limits : Bounds) (made : EventsView) (table : ConditionsView) (ledger : LedgerView) (history : List Act) (ps : List Posting) → IsKept limits made table ledger history → oversupplied (supply history) ps ≡ oversupplied (supply_at ledger) ps
kept-oversupplied limits made table ledger history ps kept = ap (λ (supplied : Pairs → ℕ). oversupplied supplied ps) (λ i k. kept-supply limits made table ledger history kept k i)

pub kept-few : (limits : Bounds) (made : EventsView) (table : ConditionsView) (ledger : LedgerView) (history : List Act) (ps : List Posting) → IsKept limits made table ledger history → IsFunded (balance history) ps
    → ((n : ℕ) → HasEntries (held_after (amount_at ledger) ps) n → n ≤ ledger.limit) → is_above_entries limits.entries (postings history) ps ≡ false
kept-few limits made table ledger history [] kept funded few = refl
kept-few limits made table ledger history (p ∷ ps) kept funded few =
    let n = few (entries_of (postings history ++ p ∷ ps)) (after-counted (amount_at ledger) (postings history) (p ∷ ps) kept.balances (kept-funded limits made table ledger history (p ∷ ps) kept funded)) in
    let most = kept.limit in
    grind (arith, nat_tests, n, most)

pub kept-many : (limits : Bounds) (made : EventsView) (table : ConditionsView) (ledger : LedgerView) (history : List Act) (ps : List Posting) → IsKept limits made table ledger history → IsFunded (balance history) ps → 0 < length ps
    → ((n : ℕ) → HasEntries (held_after (amount_at ledger) ps) n → ledger.limit < n) → is_above_entries limits.entries (postings history) ps ≡ true
kept-many limits made table ledger history [] kept funded some many = absurd (omega (arith, some))
kept-many limits made table ledger history (p ∷ ps) kept funded some many =
    let n = many (entries_of (postings history ++ p ∷ ps)) (after-counted (amount_at ledger) (postings history) (p ∷ ps) kept.balances (kept-funded limits made table ledger history (p ∷ ps) kept funded)) in
    let most = kept.limit in
    grind (arith, nat_tests, n, most)

-- the last refusals, by what the ledger admits
abbrev pub last_refusals : Bounds → List Act → List Posting → Option Refusal
last_refusals limits history ps = first_some (option_map SupplyLimit (oversupplied (supply history) ps) ∷ where_ (is_above_entries limits.entries (postings history) ps) EntriesLimit ∷ where_ (nat_le limits.history (length history)) HistoryFull ∷ [])

pub last-by : (limits : Bounds) (history : List Act) (ps : List Posting) (supplied : Option ℕ) (many full : Bool) → oversupplied (supply history) ps ≡ supplied → is_above_entries limits.entries (postings history) ps ≡ many
    → nat_le limits.history (length history) ≡ full → last_refusals limits history ps ≡ first_some (option_map SupplyLimit supplied ∷ where_ many EntriesLimit ∷ where_ full HistoryFull ∷ [])
last-by limits history ps supplied many full one two three = rw (one, two, three) refl

pub last-supply : (limits : Bounds) (history : List Act) (ps : List Posting) (supplied : ℕ) → oversupplied (supply history) ps ≡ Some supplied → last_refusals limits history ps ≡ Some (SupplyLimit supplied)
last-supply limits history ps supplied is = rw is refl

pub last-many : (limits : Bounds) (history : List Act) (ps : List Posting) → oversupplied (supply history) ps ≡ None → is_above_entries limits.entries (postings history) ps ≡ true → last_refusals limits history ps ≡ Some EntriesLimit
last-many limits history ps none many = rw (none, many) refl

pub last-full : (limits : Bounds) (history : List Act) (ps : List Posting) → oversupplied (supply history) ps ≡ None → is_above_entries limits.entries (postings history) ps ≡ false → nat_le limits.history (length history) ≡ true → last_refusals limits history ps ≡ Some HistoryFull
last-full limits history ps none few full = rw (none, few, full) refl

pub last-none : (limits : Bounds) (history : List Act) (ps : List Posting) → oversupplied (supply history) ps ≡ None → is_above_entries limits.entries (postings history) ps ≡ false → nat_le limits.history (length history) ≡ false → last_refusals limits history ps ≡ None
last-none limits history ps none few full = rw (none, few, full) refl
