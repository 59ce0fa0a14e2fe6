-- The verdict on a split, a merge, a redemption and a conversion, by what the call that plans one is told and answers.
use Rattle.std.proofs.Common.{◌≡◌, ◌==◌, ◌^◌, ℕ, Bool, true, false, List, [], ◌∷◌, length, Option, Some, None, refl, sym, ap, ◌∙◌}
use Rattle.std.specs.Prelude.{nat_le, Err, option_map, slice_get, MatchOption}
use Rattle.collection_keys.specs.Collections.{Pairs}
use Rattle.command_words.specs.declared.act.Act.{Act}
use Rattle.command_words.specs.declared.command.Command.TheVariants.{Redeem, Convert}
use Rattle.command_words.specs.declared.refusal.Refusal.{Refusal}
use Rattle.command_words.specs.declared.refusal.Refusal.TheVariants.{HistoryFull, Unfunded}
use Rattle.condition_sets.specs.declared.names.TheConstants.{EXCHANGE}
use Rattle.condition_sets.specs.declared.partition.Union.{Union}
use Rattle.condition_table.specs.Conditions.{ConditionsView, numerators_at}
use Rattle.event_table.specs.Events.{EventsView}
use Rattle.convert_positions.specs.Converting.{ConvertedBy, convert_postings, short_question}
use Rattle.event_table.specs.Events.{EventView, EventsView, facts_of}
use Rattle.event_table.specs.declared.events.EventFacts.{EventFacts}
use Rattle.ledger_book.specs.Ledger.{LedgerView, amount_at}
use Rattle.ledger_book.specs.Planning.{first_short}
use Rattle.ledger_book.specs.declared.plan_fault.PlanFault.{PlanFault}
use Rattle.ledger_book.specs.declared.posting.Posting.{Posting}
use Rattle.report_redeem.specs.Redeeming.{redeem_postings}
use Rattle.split_merge.specs.Splitting.{merge_postings, parts_of, split_postings, whole_of}
use Rattle.settle_core.specs.Book.{book, conditions, converted_in, events, held_in, redeemed_in, told}
use Rattle.settle_core.specs.Bounds.{Bounds}
use Rattle.settle_core.specs.Kept.{IsKept}
use Rattle.settle_core.specs.Keys.{union_in, whole_in}
use Rattle.settle_core.specs.Postings.{balance}
use Rattle.settle_core.specs.OrderRules.{where_}
use Rattle.settle_core.specs.Refusals.{Question, choice_refusals, entries_limit, supply_limit}
use Rattle.settle_core.specs.Verdict.{AnsweredBy, first_some, verdict}
use Rattle.settle_core.proofs.KeptLemmas.{kept-balance, last_refusals}
use Rattle.settle_core.proofs.Partings.{IsToFund, convert-front, front-refused, parting, question, redeem-front, short-none, short-some}

-- what the account holds, what it splits or merges, and how much, are what the call is told
pub record AreTold (history : List Act) (account : ℕ) (parent : Pairs) (condition : ℕ) (sets : List ℕ) (amount : ℕ) (held : Pairs → ℕ) (whole : Pairs) (parts : List Pairs) (n : ℕ) : Type 0 where
  pub has : balance history account ≡ held
  pub moves : amount ≡ n
  pub from_whole : whole_in (conditions history) parent condition sets ≡ whole
  pub from_parts : parts_of parent condition sets ≡ parts

-- what an exchange keeps tells it so
pub partition-told : (limits : Bounds) (made : EventsView) (table : ConditionsView) (ledger : LedgerView) (history : List Act) → IsKept limits made table ledger history
    → (account : ℕ) (parent key p : Pairs) (condition : ℕ) (sets bits named : List ℕ) (u : Union) (amount n : ℕ) → key ≡ parent → bits ≡ sets → p ≡ key → u ≡ union_in table.facts condition bits → named ≡ bits → n ≡ amount
    → AreTold history account parent condition sets amount (amount_at ledger account) (whole_of u p condition) (parts_of p condition named) n
partition-told limits made table ledger history kept account parent key p condition sets bits named u amount n is_key are_bits is_parent is_union are_named is_amount =
    let own : parent ≡ p = sym (is_parent ∙ is_key) in
    let union : union_in (conditions history) condition sets ≡ u = (λ i. union_in (sym kept.conditions i) condition (sym are_bits i)) ∙ sym is_union in
    let bits_are : sets ≡ named = sym (are_named ∙ are_bits) in
    record {
      has = λ i k. kept-balance limits made table ledger history kept account k i;
      moves = sym is_amount;
      from_whole = λ i. whole_of (union i) (own i) condition;
      from_parts = λ i. parts_of (own i) condition (bits_are i);
    }

-- a merge takes the parts, and a split the whole
abbrev pub taken_of : Bool → Pairs → List Pairs → List Pairs
taken_of true whole parts = parts
taken_of false whole parts = whole ∷ []

abbrev pub posted_of : Bool → ℕ → Pairs → List Pairs → ℕ → List Posting
posted_of true account whole parts n = merge_postings account whole parts n
posted_of false account whole parts n = split_postings account whole parts n

-- the call is short
pub parting-short : (merges : Bool) (limits : Bounds) (history : List Act) (account : ℕ) (parent : Pairs) (condition : ℕ) (sets : List ℕ) (amount now : ℕ) (held : Pairs → ℕ) (whole : Pairs) (parts : List Pairs) (n have place : ℕ)
    → IsToFund (question limits history account (parting merges parent condition sets amount) now) → AreTold history account parent condition sets amount held whole parts n
    → first_short held n (taken_of merges whole parts) ≡ Some (place, have) → verdict (question limits history account (parting merges parent condition sets amount) now) ≡ Some (Unfunded have place)
parting-short true limits history account parent condition sets amount now held whole parts n have place front told short =
    short-some (question limits history account (parting true parent condition sets amount) now) _ have place amount (balance history account) (parts_of parent condition sets) front
    ((λ i. first_short (told.has i) (told.moves i) (told.from_parts i)) ∙ short)
parting-short false limits history account parent condition sets amount now held whole parts n have place front told short =
    short-some (question limits history account (parting false parent condition sets amount) now) _ have place amount (balance history account) (whole_in (conditions history) parent condition sets ∷ []) front
    ((λ i. first_short (told.has i) (told.moves i) (told.from_whole i ∷ [])) ∙ short)

-- or what is refused at last decides, of what the call has staged
pub parting-last : (merges : Bool) (limits : Bounds) (history : List Act) (account : ℕ) (parent : Pairs) (condition : ℕ) (sets : List ℕ) (amount now : ℕ) (held : Pairs → ℕ) (whole : Pairs) (parts : List Pairs) (n : ℕ) (ps : List Posting)
    → IsToFund (question limits history account (parting merges parent condition sets amount) now) → AreTold history account parent condition sets amount held whole parts n
    → first_short held n (taken_of merges whole parts) ≡ None → ps ≡ posted_of merges account whole parts n
    → verdict (question limits history account (parting merges parent condition sets amount) now) ≡ last_refusals limits history ps
parting-last true limits history account parent condition sets amount now held whole parts n ps front told funds posted =
    let q : Question = question limits history account (parting true parent condition sets amount) now in
    short-none q (supply_limit q) (entries_limit q) (where_ (nat_le limits.history (length history)) HistoryFull) amount (balance history account) (parts_of parent condition sets) front
    ((λ i. first_short (told.has i) (told.moves i) (told.from_parts i)) ∙ funds)
    ∙ ap (last_refusals limits history) ((λ i. merge_postings account (told.from_whole i) (told.from_parts i) (told.moves i)) ∙ sym posted)
parting-last false limits history account parent condition sets amount now held whole parts n ps front told funds posted =
    let q : Question = question limits history account (parting false parent condition sets amount) now in
    short-none q (supply_limit q) (entries_limit q) (where_ (nat_le limits.history (length history)) HistoryFull) amount (balance history account) (whole_in (conditions history) parent condition sets ∷ []) front
    ((λ i. first_short (told.has i) (told.moves i) (told.from_whole i ∷ [])) ∙ funds)
    ∙ ap (last_refusals limits history) ((λ i. split_postings account (told.from_whole i) (told.from_parts i) (told.moves i)) ∙ sym posted)

-- ---- redemptions

-- what is refused at last decides of a redemption of a reported condition, of what the call has staged
pub redeem-last : (limits : Bounds) (made : EventsView) (table : ConditionsView) (ledger : LedgerView) (history : List Act) → IsKept limits made table ledger history
    → (account : ℕ) (parent key p : Pairs) (condition : ℕ) (sets bits named : List ℕ) (now : ℕ) (ns : List ℕ) (ps : List Posting) → (account == EXCHANGE) ≡ false → key ≡ parent → bits ≡ sets → p ≡ key → named ≡ bits
    → first_some (choice_refusals table.facts key condition bits) ≡ None → numerators_at table.numerators condition ≡ Some ns → ps ≡ redeem_postings (amount_at ledger) account p condition ns named
    → verdict (question limits history account (Redeem parent condition sets) now) ≡ last_refusals limits history ps
redeem-last limits made table ledger history kept account parent key p condition sets bits named now ns ps allowed is_key are_bits is_parent are_named none reported posted =
    let is : told history condition ≡ Some ns = sym (kept.reports.each condition) ∙ reported in
    let holds : held_in (book history) ≡ amount_at ledger = λ i a k. kept-balance limits made table ledger history kept a k i in
    let here : ps ≡ redeemed_in (book history) account parent condition sets (Some ns)
    = posted ∙ (λ i. redeem_postings (sym holds i) account ((is_parent ∙ is_key) i) condition ns ((are_named ∙ are_bits) i)) in
    redeem-front limits history account parent key condition sets bits now table.facts (Some ns) allowed is_key are_bits kept.conditions none is
    ∙ ap (last_refusals limits history) (ap (redeemed_in (book history) account parent condition sets) is ∙ sym here)

-- ---- conversions

-- what the call that plans a conversion finds of its event
abbrev pub In : EventsView → ℕ → (EventView → Type 0) → Type 0
In made event P = MatchOption (slice_get made.events event) ⊥ P

-- the set is inside the questions of an event of these facts
pub made-inside : (o : Option EventView) (facts : EventFacts) (set : ℕ) → option_map facts_of o ≡ Some facts → nat_le (2 ^ facts.questions) set ≡ false → MatchOption o ⊥ (λ view. nat_le (2 ^ length view.conditions) set ≡ false)
made-inside None facts set found inside = cc
made-inside (Some view) facts set found inside =
    let same : facts_of view ≡ facts = cc in
    ap (λ (f : EventFacts). nat_le (2 ^ f.questions) set) same ∙ inside

-- a conversion of an event's questions, by its verdict where nothing was found wrong with the set
pub convert-front_of : (limits : Bounds) (made : EventsView) (table : ConditionsView) (ledger : LedgerView) (history : List Act) → IsKept limits made table ledger history
    → (account event set amount now n : ℕ) (view : EventView) → (account == EXCHANGE) ≡ false → (set == 0) ≡ false → slice_get made.events event ≡ Some view → nat_le (2 ^ length view.conditions) set ≡ false → n ≡ amount
    → let q : Question = question limits history account (Convert event set amount) now in
    verdict q ≡ first_some (option_map (λ short. Unfunded short.1 short.0) (short_question (amount_at ledger account) n set view.conditions)
    ∷ None ∷ None ∷ None ∷ None ∷ supply_limit q ∷ entries_limit q ∷ where_ (nat_le limits.history (length history)) HistoryFull ∷ [])
convert-front_of limits made table ledger history kept account event set amount now n view allowed some at inside is_amount =
    let q : Question = question limits history account (Convert event set amount) now in
    let there : slice_get (events history) event ≡ Some view = ap (λ (es : List EventView). slice_get es event) (sym kept.events) ∙ at in
    let holds : balance history account ≡ amount_at ledger account = λ i k. kept-balance limits made table ledger history kept account k i in
    convert-front limits history account event set amount now view allowed some there inside
    ∙ (λ i. first_some (option_map (λ short. Unfunded short.1 short.0) (short_question (holds i) (sym is_amount i) set view.conditions) ∷ None ∷ None ∷ None ∷ None ∷ supply_limit q ∷ entries_limit q ∷ where_ (nat_le limits.history (length history)) HistoryFull ∷ []))

-- the call failed: what is refused for it is refused
pub convert-refused : (X : Type 0) (limits : Bounds) (made : EventsView) (table : ConditionsView) (ledger : LedgerView) (history : List Act) → IsKept limits made table ledger history
    → (account event set amount now n : ℕ) (fault : PlanFault) (r : Refusal) → (account == EXCHANGE) ≡ false → (set == 0) ≡ false → In made event (λ view. nat_le (2 ^ length view.conditions) set ≡ false) → n ≡ amount
    → In made event (λ view. ConvertedBy (short_question (amount_at ledger account) n set view.conditions) (Err fault))
    → ((short : Option (ℕ × ℕ)) → ConvertedBy short (Err fault) → AnsweredBy {X = X} (option_map (λ short. Unfunded short.1 short.0) short) (Err r))
    → AnsweredBy {X = X} (verdict (question limits history account (Convert event set amount) now)) (Err r)
convert-refused X limits made table ledger history kept account event set amount now n fault r allowed some inside is_amount short refuses = by (slice_get made.events event) refl inside short
  where
    by : (o : Option EventView) → slice_get made.events event ≡ o → MatchOption o ⊥ (λ view. nat_le (2 ^ length view.conditions) set ≡ false) → MatchOption o ⊥ (λ view. ConvertedBy (short_question (amount_at ledger account) n set view.conditions) (Err fault))
        → AnsweredBy {X = X} (verdict (question limits history account (Convert event set amount) now)) (Err r)
    by None at inside short = absurd inside
    by (Some view) at inside short =
        front-refused X X (question limits history account (Convert event set amount) now) (option_map (λ short. Unfunded short.1 short.0) (short_question (amount_at ledger account) n set view.conditions)) _ r
        (convert-front_of limits made table ledger history kept account event set amount now n view allowed some at inside is_amount) (refuses (short_question (amount_at ledger account) n set view.conditions) short)

-- or what is refused at last decides, of what the call has staged
pub convert-last : (limits : Bounds) (made : EventsView) (table : ConditionsView) (ledger : LedgerView) (history : List Act) → IsKept limits made table ledger history
    → (account event set amount now n : ℕ) (ps : List Posting) → (account == EXCHANGE) ≡ false → (set == 0) ≡ false → In made event (λ view. nat_le (2 ^ length view.conditions) set ≡ false) → n ≡ amount
    → In made event (λ view. short_question (amount_at ledger account) n set view.conditions ≡ None) → In made event (λ view. ps ≡ convert_postings account n view.bips set view.conditions)
    → verdict (question limits history account (Convert event set amount) now) ≡ last_refusals limits history ps
convert-last limits made table ledger history kept account event set amount now n ps allowed some inside is_amount funds posted = by (slice_get made.events event) refl inside funds posted
  where
    by : (o : Option EventView) → slice_get made.events event ≡ o → MatchOption o ⊥ (λ view. nat_le (2 ^ length view.conditions) set ≡ false) → MatchOption o ⊥ (λ view. short_question (amount_at ledger account) n set view.conditions ≡ None)
        → MatchOption o ⊥ (λ view. ps ≡ convert_postings account n view.bips set view.conditions) → verdict (question limits history account (Convert event set amount) now) ≡ last_refusals limits history ps
    by None at inside funds posted = absurd inside
    by (Some view) at inside funds posted =
        let there : slice_get (events history) event ≡ Some view = ap (λ (es : List EventView). slice_get es event) (sym kept.events) ∙ at in
        let here : converted_in (slice_get (events history) event) account set amount ≡ ps
        = ap (λ (o : Option EventView). converted_in o account set amount) there ∙ (ap (λ (m : ℕ). convert_postings account m view.bips set view.conditions) (sym is_amount) ∙ sym posted) in
        convert-front_of limits made table ledger history kept account event set amount now n view allowed some at inside is_amount ∙ (rw funds refl ∙ ap (last_refusals limits history) here)
