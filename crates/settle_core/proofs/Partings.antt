-- The verdict on commands, refusal by refusal.
use Rattle.std.proofs.Common.{◌≡◌, ◌==◌, ◌^◌, ℕ, cond, Bool, true, false, List, [], ◌∷◌, ◌++◌, length, Option, None, Some, Err, refl, sym, ap, ◌∙◌, arith}
use Rattle.std.specs.Prelude.{not, nat_le, nat_lt, ◌||◌, is_some, is_none, slice_get, option_and_then, option_map}
use Rattle.std.specs.List.{list_any}
use Rattle.std.proofs.lemmas.Bool.Decides.{nat_tests}
use Rattle.std.proofs.lemmas.Option.{slice_get_within}
use Rattle.collection_keys.specs.Collections.{Pairs, part}
use Rattle.collection_keys.specs.declared.collection.TheConstants.{MAX_PAIRS}
use Rattle.command_words.specs.declared.act.Act.{Act}
use Rattle.command_words.specs.declared.command.Command.{Command}
use Rattle.command_words.specs.declared.command.Command.TheVariants.{Deposit, Withdraw, Move, Split, Merge, Report, Answer, Redeem, Convert, Place, Match, Lapse}
use Rattle.command_words.specs.declared.refusal.Refusal.{Refusal}
use Rattle.command_words.specs.declared.refusal.Refusal.TheVariants.{NoCondition, TableFull, NoMarket, OrderExpired, NonceOld, BadSet, BadPartition, Held, TooDeep, BadPayouts, NotReported, NoEvent, Unfunded, HistoryFull, Memory}
use Rattle.condition_sets.specs.declared.names.TheConstants.{EXCHANGE, OPERATOR}
use Rattle.convert_positions.specs.Converting.{short_question}
use Rattle.convert_positions.specs.Questions.{conditions_of}
use Rattle.event_table.specs.Events.{EventView, facts_of, question_in, winner_in}
use Rattle.event_table.specs.declared.events.EventFacts.{EventFacts}
use Rattle.ledger_book.specs.Planning.{first_short}
use Rattle.settle_core.specs.Book.{book, conditions, events, postings_of, told}
use Rattle.settle_core.specs.Bounds.{Bounds}
use Rattle.order_rules.specs.declared.side.Side.{Side}
use Rattle.order_table.specs.Orders.{open_in}
use Rattle.settle_core.specs.OrderRules.{at_first, has_expired, match_refusals, never_placed, shut, still_paid, where_}
use Rattle.settle_core.specs.Orders.{is_market, nonce, order_state, orders, placed}
use Rattle.settle_core.specs.Rules.{funding_refusals}
use Rattle.settle_core.specs.Postings.{balance}
use Rattle.settle_core.specs.Refusals.{Question, not_allowed, already_reported, bad_payouts, not_reported, no_event, determined, no_market, no_order, not_open, order_expired, nonce_old, self_match, repeated_order, wrong_pair, not_crossing, overfill, unfunded, exchange_short, too_little, still_funded, vault_limit, supply_limit, entries_limit, history_full, choice_refusals, partition_refusals, is_no_report, is_outside}
use Rattle.settle_core.specs.Keys.{is_unprepared, is_improper, key_is_unprepared, key_is_improper, is_no_partition}
use Rattle.settle_core.specs.Verdict.{verdict, first_some, AnsweredBy}
use Rattle.condition_table.specs.declared.facts.Facts.{Facts}
use Rattle.settle_core.proofs.KeptLemmas.{last_refusals}

-- ---- the first that is there, among some that are none

five-some : (a b c d e : Option Refusal) (rest : List (Option Refusal)) (r : Refusal) → first_some (a ∷ b ∷ c ∷ d ∷ e ∷ []) ≡ Some r → first_some (None ∷ a ∷ None ∷ None ∷ b ∷ c ∷ d ∷ e ∷ rest) ≡ Some r
five-some (Some x) b c d e rest r is = is
five-some None (Some x) c d e rest r is = is
five-some None None (Some x) d e rest r is = is
five-some None None None (Some x) e rest r is = is
five-some None None None None (Some x) rest r is = is
five-some None None None None None rest r is = cc

five-none : (a b c d e : Option Refusal) (rest : List (Option Refusal)) → first_some (a ∷ b ∷ c ∷ d ∷ e ∷ []) ≡ None → first_some (None ∷ a ∷ None ∷ None ∷ b ∷ c ∷ d ∷ e ∷ rest) ≡ first_some rest
five-none (Some x) b c d e rest none = cc
five-none None (Some x) c d e rest none = cc
five-none None None (Some x) d e rest none = cc
five-none None None None (Some x) e rest none = cc
five-none None None None None (Some x) rest none = cc
five-none None None None None None rest none = refl

-- ---- the verdict

abbrev unprepared : List Facts → Pairs → ℕ → Option Refusal
unprepared prepared parent condition = where_ (key_is_unprepared prepared parent || is_unprepared prepared condition) NoCondition

abbrev improper : List Facts → Pairs → ℕ → List ℕ → Option Refusal
improper prepared parent condition sets = where_ (key_is_improper prepared parent || list_any (is_improper prepared condition) sets) BadSet

abbrev no_partition : List ℕ → Option Refusal
no_partition sets = where_ (is_no_partition sets) BadPartition

abbrev held : Pairs → ℕ → Option Refusal
held parent condition = where_ (is_some (part parent condition)) Held

abbrev deep : Pairs → Option Refusal
deep parent = where_ (nat_lt 3 (length parent)) TooDeep

-- the refusals from number 13 on
abbrev later : Question → List (Option Refusal)
later q =
    already_reported q ∷ bad_payouts q ∷ not_reported q ∷ no_event q ∷ determined q
    ∷ no_market q ∷ no_order q ∷ not_open q ∷ order_expired q ∷ nonce_old q
    ∷ self_match q ∷ repeated_order q ∷ wrong_pair q ∷ not_crossing q ∷ overfill q
    ∷ unfunded q ∷ exchange_short q ∷ too_little q ∷ still_funded q
    ∷ vault_limit q ∷ supply_limit q ∷ entries_limit q ∷ history_full q ∷ []

abbrev pub question : Bounds → List Act → ℕ → Command → ℕ → Question
question limits history account command now = record { limits = limits; history = history; account = account; command = command; moment = now }

-- nothing that comes before what isn't there refuses the question
abbrev pub IsToFund : Question → Type 0
IsToFund q = verdict q ≡ first_some (unfunded q ∷ None ∷ None ∷ None ∷ None ∷ supply_limit q ∷ entries_limit q ∷ where_ (nat_le q.limits.history (length q.history)) HistoryFull ∷ [])

-- a merge, or a split
abbrev pub parting : Bool → Pairs → ℕ → List ℕ → ℕ → Command
parting true parent condition sets amount = Merge parent condition sets amount
parting false parent condition sets amount = Split parent condition sets amount

-- a command that may not be asked
pub refused-first : (q : Question) (r : Refusal) → not_allowed q ≡ Some r → verdict q ≡ Some r
unfolding verdict
refused-first q r is = rw is refl

-- a parent or sets that aren't right
pub front-some : (merges : Bool) (limits : Bounds) (history : List Act) (account : ℕ) (parent : Pairs) (condition : ℕ) (sets : List ℕ) (amount now : ℕ) (r : Refusal) → (account == EXCHANGE) ≡ false
    → first_some (partition_refusals (conditions history) parent condition sets) ≡ Some r → verdict (question limits history account (parting merges parent condition sets amount) now) ≡ Some r
unfolding verdict
front-some true limits history account parent condition sets amount now r allowed is =
    rw allowed (five-some (unprepared (conditions history) parent condition) (improper (conditions history) parent condition sets) (no_partition sets) (held parent condition) (deep parent) (later (question limits history account (parting true parent condition sets amount) now)) r is)
front-some false limits history account parent condition sets amount now r allowed is =
    rw allowed (five-some (unprepared (conditions history) parent condition) (improper (conditions history) parent condition sets) (no_partition sets) (held parent condition) (deep parent) (later (question limits history account (parting false parent condition sets amount) now)) r is)

-- the same as an answer
pub front-answered : (X Y : Type 0) (merges : Bool) (limits : Bounds) (history : List Act) (account : ℕ) (parent key : Pairs) (condition : ℕ) (sets bits : List ℕ) (amount now : ℕ) (prepared : List Facts) (r : Refusal) → (account == EXCHANGE) ≡ false
    → key ≡ parent → bits ≡ sets → prepared ≡ conditions history → AnsweredBy {X = X} (first_some (partition_refusals prepared key condition bits)) (Err r)
    → AnsweredBy {X = Y} (verdict (question limits history account (parting merges parent condition sets amount) now)) (Err r)
front-answered X Y merges limits history account parent key condition sets bits amount now prepared Memory allowed one two three by = tt
front-answered X Y merges limits history account parent key condition sets bits amount now prepared r allowed one two three by =
    front-some merges limits history account parent condition sets amount now r allowed (same-front history parent key condition sets bits prepared one two three ∙ by)
  where
    same-front : (history : List Act) (parent key : Pairs) (condition : ℕ) (sets bits : List ℕ) (prepared : List Facts) → key ≡ parent → bits ≡ sets → prepared ≡ conditions history
        → first_some (partition_refusals (conditions history) parent condition sets) ≡ first_some (partition_refusals prepared key condition bits)
    same-front history parent key condition sets bits prepared one two three = λ i. first_some (partition_refusals (sym three i) (sym one i) condition (sym two i))

-- behind them comes what isn't there, and then what is refused at last
pub front-none : (merges : Bool) (limits : Bounds) (history : List Act) (account : ℕ) (parent key : Pairs) (condition : ℕ) (sets bits : List ℕ) (amount now : ℕ) (prepared : List Facts) → (account == EXCHANGE) ≡ false
    → key ≡ parent → bits ≡ sets → prepared ≡ conditions history → first_some (partition_refusals prepared key condition bits) ≡ None
    → IsToFund (question limits history account (parting merges parent condition sets amount) now)
unfolding verdict
front-none true limits history account parent key condition sets bits amount now prepared allowed one two three none =
    let here : first_some (partition_refusals (conditions history) parent condition sets) ≡ None = (λ i. first_some (partition_refusals (sym three i) (sym one i) condition (sym two i))) ∙ none in
    rw allowed (five-none (unprepared (conditions history) parent condition) (improper (conditions history) parent condition sets) (no_partition sets) (held parent condition) (deep parent) (later (question limits history account (parting true parent condition sets amount) now)) here)
front-none false limits history account parent key condition sets bits amount now prepared allowed one two three none =
    let here : first_some (partition_refusals (conditions history) parent condition sets) ≡ None = (λ i. first_some (partition_refusals (sym three i) (sym one i) condition (sym two i))) ∙ none in
    rw allowed (five-none (unprepared (conditions history) parent condition) (improper (conditions history) parent condition sets) (no_partition sets) (held parent condition) (deep parent) (later (question limits history account (parting false parent condition sets amount) now)) here)

-- what a command takes isn't there
pub short-some : (q : Question) (rest : List (Option Refusal)) (have place amount : ℕ) (held : Pairs → ℕ) (taken : List Pairs) → verdict q ≡ first_some (option_map (λ short. Unfunded short.1 short.0) (first_short held amount taken) ∷ rest)
    → first_short held amount taken ≡ Some (place, have) → verdict q ≡ Some (Unfunded have place)
short-some q rest have place amount held taken is short = is ∙ rw short refl

-- or it is, and what is refused at last decides
pub short-none : (q : Question) (a b c : Option Refusal) (amount : ℕ) (held : Pairs → ℕ) (taken : List Pairs) → verdict q ≡ first_some (option_map (λ short. Unfunded short.1 short.0) (first_short held amount taken) ∷ None ∷ None ∷ None ∷ None ∷ a ∷ b ∷ c ∷ [])
    → first_short held amount taken ≡ None → verdict q ≡ first_some (a ∷ b ∷ c ∷ [])
short-none q a b c amount held taken is none = is ∙ rw none refl

-- ---- deposits

pub deposit-above : (limits : Bounds) (history : List Act) (account to amount now : ℕ) (r : Refusal) → let q : Question = question limits history account (Deposit to amount) now in
    not_allowed q ≡ None → vault_limit q ≡ Some r → verdict q ≡ Some r
unfolding verdict
deposit-above limits history account to amount now r allowed above = rw (allowed, above) refl

pub deposit-last : (limits : Bounds) (history : List Act) (account to amount now : ℕ) → let q : Question = question limits history account (Deposit to amount) now in
    not_allowed q ≡ None → vault_limit q ≡ None → verdict q ≡ last_refusals limits history (postings_of (book history) account (Deposit to amount))
unfolding verdict
deposit-last limits history account to amount now allowed vault = rw (allowed, vault) refl

-- ---- a command that takes an amount of one position

-- the first that may be there is answered, or memory was wanting
pub front-refused : (X Y : Type 0) (q : Question) (o : Option Refusal) (rest : List (Option Refusal)) (r : Refusal) → verdict q ≡ first_some (o ∷ rest) → AnsweredBy {X = X} o (Err r) → AnsweredBy {X = Y} (verdict q) (Err r)
front-refused X Y q o rest Memory is by = tt
front-refused X Y q o rest r is by = is ∙ rw by refl

-- what it takes isn't there
pub short-answered : (X Y : Type 0) (q : Question) (rest : List (Option Refusal)) (amount : ℕ) (held : Pairs → ℕ) (taken : List Pairs) (r : Refusal)
    → verdict q ≡ first_some (option_map (λ short. Unfunded short.1 short.0) (first_short held amount taken) ∷ rest)
    → AnsweredBy {X = X} (option_map (λ short. Unfunded short.1 short.0) (first_short held amount taken)) (Err r) → AnsweredBy {X = Y} (verdict q) (Err r)
short-answered X Y q rest amount held taken r is by = front-refused X Y q (option_map (λ short. Unfunded short.1 short.0) (first_short held amount taken)) rest r is by

-- a withdrawal is refused for what isn't there, and then for what is refused at last
pub withdraw-front : (limits : Bounds) (history : List Act) (account amount now : ℕ) → (account == EXCHANGE) ≡ false → IsToFund (question limits history account (Withdraw amount) now)
unfolding verdict
withdraw-front limits history account amount now allowed = rw allowed refl

-- and so is a move, of a key that is right
pub move-front : (limits : Bounds) (history : List Act) (account to : ℕ) (key : Pairs) (amount now : ℕ) → (account == EXCHANGE) ≡ false → (to == EXCHANGE) ≡ false
    → key_is_unprepared (conditions history) key ≡ false → key_is_improper (conditions history) key ≡ false → nat_lt MAX_PAIRS (length key) ≡ false → IsToFund (question limits history account (Move to key amount) now)
unfolding verdict
move-front limits history account to key amount now allowed other there proper few = rw (allowed, other, there, proper, few) refl

-- ---- reports

-- a condition without numerators isn't reported
pub none-told : (o : Option (List ℕ)) → is_some o ≡ false → o ≡ None
none-told None none = refl
none-told (Some ns) none = cc

-- a report by the oracle on a condition that wasn't reported
pub report-front : (limits : Bounds) (history : List Act) (account condition : ℕ) (payouts : List ℕ) (now : ℕ) (facts : Facts) (bad full : Bool) → let q : Question = question limits history account (Report condition payouts) now in
    (account == EXCHANGE) ≡ false → slice_get (conditions history) condition ≡ Some facts → (facts.oracle == account) ≡ true
    → told history condition ≡ None → is_no_report (Some facts) payouts ≡ bad → nat_le limits.history (length history) ≡ full
    → verdict q ≡ first_some (where_ bad BadPayouts ∷ where_ full HistoryFull ∷ [])
unfolding verdict
report-front limits history account condition payouts now facts true full allowed at own none is_bad is_full =
    let inside = slice_get_within (conditions history) condition facts at in
    let there : is_unprepared (conditions history) condition ≡ false = grind (arith, nat_tests, inside) in
    let badly : is_no_report (slice_get (conditions history) condition) payouts ≡ true = ap (λ (o : Option Facts). is_no_report o payouts) at ∙ is_bad in
    rw (allowed, badly, at, there, own, none) refl
report-front limits history account condition payouts now facts false full allowed at own none is_bad is_full =
    let inside = slice_get_within (conditions history) condition facts at in
    let there : is_unprepared (conditions history) condition ≡ false = grind (arith, nat_tests, inside) in
    let badly : is_no_report (slice_get (conditions history) condition) payouts ≡ false = ap (λ (o : Option Facts). is_no_report o payouts) at ∙ is_bad in
    rw (allowed, badly, at, there, own, none, is_full) refl

-- ---- redemptions

four-some : (a b c d : Option Refusal) (rest : List (Option Refusal)) (r : Refusal) → first_some (a ∷ b ∷ c ∷ d ∷ []) ≡ Some r → first_some (None ∷ a ∷ None ∷ None ∷ b ∷ None ∷ c ∷ d ∷ rest) ≡ Some r
four-some (Some x) b c d rest r is = is
four-some None (Some x) c d rest r is = is
four-some None None (Some x) d rest r is = is
four-some None None None (Some x) rest r is = is
four-some None None None None rest r is = cc

four-none : (a b c d : Option Refusal) (rest : List (Option Refusal)) → first_some (a ∷ b ∷ c ∷ d ∷ []) ≡ None → first_some (None ∷ a ∷ None ∷ None ∷ b ∷ None ∷ c ∷ d ∷ rest) ≡ first_some rest
four-none (Some x) b c d rest none = cc
four-none None (Some x) c d rest none = cc
four-none None None (Some x) d rest none = cc
four-none None None None (Some x) rest none = cc
four-none None None None None rest none = refl

-- a parent or sets that aren't right
choice-some : (limits : Bounds) (history : List Act) (account : ℕ) (parent : Pairs) (condition : ℕ) (sets : List ℕ) (now : ℕ) (r : Refusal) → (account == EXCHANGE) ≡ false
    → first_some (choice_refusals (conditions history) parent condition sets) ≡ Some r → verdict (question limits history account (Redeem parent condition sets) now) ≡ Some r
unfolding verdict
choice-some limits history account parent condition sets now r allowed is =
    rw allowed (four-some (unprepared (conditions history) parent condition) (improper (conditions history) parent condition sets) (held parent condition) (deep parent) (later (question limits history account (Redeem parent condition sets) now)) r is)

same-choice : (history : List Act) (parent key : Pairs) (condition : ℕ) (sets bits : List ℕ) (prepared : List Facts) → key ≡ parent → bits ≡ sets → prepared ≡ conditions history
    → first_some (choice_refusals (conditions history) parent condition sets) ≡ first_some (choice_refusals prepared key condition bits)
same-choice history parent key condition sets bits prepared one two three = λ i. first_some (choice_refusals (sym three i) (sym one i) condition (sym two i))

pub choice-answered : (X Y : Type 0) (limits : Bounds) (history : List Act) (account : ℕ) (parent key : Pairs) (condition : ℕ) (sets bits : List ℕ) (now : ℕ) (prepared : List Facts) (r : Refusal) → (account == EXCHANGE) ≡ false
    → key ≡ parent → bits ≡ sets → prepared ≡ conditions history → AnsweredBy {X = X} (first_some (choice_refusals prepared key condition bits)) (Err r)
    → AnsweredBy {X = Y} (verdict (question limits history account (Redeem parent condition sets) now)) (Err r)
choice-answered X Y limits history account parent key condition sets bits now prepared Memory allowed one two three by = tt
choice-answered X Y limits history account parent key condition sets bits now prepared r allowed one two three by =
    choice-some limits history account parent condition sets now r allowed (same-choice history parent key condition sets bits prepared one two three ∙ by)

reported-or-not : (limits : Bounds) (history : List Act) (account : ℕ) (parent : Pairs) (condition : ℕ) (sets : List ℕ) (now : ℕ) (o : Option (List ℕ)) → let q : Question = question limits history account (Redeem parent condition sets) now in
    told history condition ≡ o → first_some (later q) ≡ first_some (where_ (is_none o) NotReported ∷ supply_limit q ∷ entries_limit q ∷ where_ (nat_le limits.history (length history)) HistoryFull ∷ [])
reported-or-not limits history account parent condition sets now None is = rw is refl
reported-or-not limits history account parent condition sets now (Some ns) is = rw is refl

-- behind them comes a condition that wasn't reported, and then what is refused at last
pub redeem-front : (limits : Bounds) (history : List Act) (account : ℕ) (parent key : Pairs) (condition : ℕ) (sets bits : List ℕ) (now : ℕ) (prepared : List Facts) (o : Option (List ℕ)) → let q : Question = question limits history account (Redeem parent condition sets) now in
    (account == EXCHANGE) ≡ false → key ≡ parent → bits ≡ sets → prepared ≡ conditions history → first_some (choice_refusals prepared key condition bits) ≡ None → told history condition ≡ o
    → verdict q ≡ first_some (where_ (is_none o) NotReported ∷ supply_limit q ∷ entries_limit q ∷ where_ (nat_le limits.history (length history)) HistoryFull ∷ [])
unfolding verdict
redeem-front limits history account parent key condition sets bits now prepared o allowed one two three none is =
    let here : first_some (choice_refusals (conditions history) parent condition sets) ≡ None = same-choice history parent key condition sets bits prepared one two three ∙ none in
    rw allowed (four-none (unprepared (conditions history) parent condition) (improper (conditions history) parent condition sets) (held parent condition) (deep parent) (later (question limits history account (Redeem parent condition sets) now)) here
    ∙ reported-or-not limits history account parent condition sets now o is)

-- ---- answers

-- an answer by the event's oracle to a question that is there and not answered, where no other was answered YES
pub answer-front : (limits : Bounds) (history : List Act) (account event place : ℕ) (won : Bool) (now : ℕ) (facts : EventFacts) (c : ℕ) (full : Bool) → let q : Question = question limits history account (Answer event place won) now in
    (account == EXCHANGE) ≡ false → option_map facts_of (slice_get (events history) event) ≡ Some facts → (facts.oracle == account) ≡ true → question_in (events history) event place ≡ Some c
    → told history c ≡ None → cond won (winner_in (events history) event) None ≡ None → nat_le limits.history (length history) ≡ full → verdict q ≡ first_some (where_ full HistoryFull ∷ [])
unfolding verdict
answer-front limits history account event place won now facts c full allowed found own asked none first is_full = by (slice_get (events history) event) refl found
  where
    by : (o : Option EventView) → slice_get (events history) event ≡ o → option_map facts_of o ≡ Some facts → verdict (question limits history account (Answer event place won) now) ≡ first_some (where_ full HistoryFull ∷ [])
    by None at found = cc
    by (Some made) at found =
        let same : facts_of made ≡ facts = cc in
        let oracle : (made.oracle == account) ≡ true = ap (λ (f : EventFacts). f.oracle == account) same ∙ own in
        let there : slice_get made.conditions place ≡ Some c = sym (ap (option_and_then (λ (e : EventView). slice_get e.conditions place)) at) ∙ asked in
        let inside = slice_get_within made.conditions place c there in
        let within : nat_le (length made.conditions) place ≡ false = grind (arith, nat_tests, inside) in
        let nobody : cond won made.winner None ≡ None = sym (ap (λ (o : Option EventView). cond won (option_and_then (λ (e : EventView). e.winner) o) None) at) ∙ first in
        rw (allowed, at, oracle, within, there, none, nobody, is_full) refl

-- ---- conversions

-- the refusals of a conversion whose set isn't empty, by its event
abbrev conversion_refusals : Question → (Pairs → ℕ) → ℕ → ℕ → Option EventView → List (Option Refusal)
conversion_refusals q held amount set o =
    where_ (is_outside o set) BadSet ∷ None ∷ None ∷ None ∷ None ∷ None ∷ None ∷ where_ (is_none o) NoEvent ∷ None
    ∷ None ∷ None ∷ None ∷ None ∷ None ∷ None ∷ None ∷ None ∷ None ∷ None
    ∷ option_map (λ short. Unfunded short.1 short.0) (short_question held amount set (conditions_of o)) ∷ None ∷ None ∷ None ∷ None
    ∷ supply_limit q ∷ entries_limit q ∷ where_ (nat_le q.limits.history (length q.history)) HistoryFull ∷ []

conversion-refused : (limits : Bounds) (history : List Act) (account event set amount now : ℕ) → let q : Question = question limits history account (Convert event set amount) now in
    (account == EXCHANGE) ≡ false → (set == 0) ≡ false → verdict q ≡ first_some (conversion_refusals q (balance history account) amount set (slice_get (events history) event))
unfolding verdict
conversion-refused limits history account event set amount now allowed some = rw (allowed, some) refl

-- a conversion of a set of an event's questions is refused for what isn't there, and then for what is refused at last
pub convert-front : (limits : Bounds) (history : List Act) (account event set amount now : ℕ) (made : EventView) → let q : Question = question limits history account (Convert event set amount) now in
    (account == EXCHANGE) ≡ false → (set == 0) ≡ false → slice_get (events history) event ≡ Some made → nat_le (2 ^ length made.conditions) set ≡ false
    → verdict q ≡ first_some (option_map (λ short. Unfunded short.1 short.0) (short_question (balance history account) amount set made.conditions)
    ∷ None ∷ None ∷ None ∷ None ∷ supply_limit q ∷ entries_limit q ∷ where_ (nat_le limits.history (length history)) HistoryFull ∷ [])
convert-front limits history account event set amount now made allowed some at inside =
    let q : Question = question limits history account (Convert event set amount) now in
    let rest : List (Option Refusal) =
    None ∷ None ∷ None ∷ None ∷ None ∷ None ∷ None ∷ None
    ∷ None ∷ None ∷ None ∷ None ∷ None ∷ None ∷ None ∷ None ∷ None ∷ None
    ∷ option_map (λ short. Unfunded short.1 short.0) (short_question (balance history account) amount set made.conditions) ∷ None ∷ None ∷ None ∷ None
    ∷ supply_limit q ∷ entries_limit q ∷ where_ (nat_le limits.history (length history)) HistoryFull ∷ [] in
    conversion-refused limits history account event set amount now allowed some
    ∙ (ap (λ (o : Option EventView). first_some (conversion_refusals q (balance history account) amount set o)) at
    ∙ ap (λ (b : Bool). first_some (where_ b BadSet ∷ rest)) inside)

-- one that is refused for its set, or for an event that isn't made
pub convert-outside : (limits : Bounds) (history : List Act) (account event set amount now : ℕ) (o : Option EventView) → let q : Question = question limits history account (Convert event set amount) now in
    (account == EXCHANGE) ≡ false → (set == 0) ≡ false → slice_get (events history) event ≡ o → is_outside o set ≡ true → verdict q ≡ Some BadSet
convert-outside limits history account event set amount now o allowed some at outside =
    let q : Question = question limits history account (Convert event set amount) now in
    conversion-refused limits history account event set amount now allowed some
    ∙ (ap (λ (x : Option EventView). first_some (conversion_refusals q (balance history account) amount set x)) at ∙ by o outside)
  where
    by : (o : Option EventView) → is_outside o set ≡ true → first_some (conversion_refusals (question limits history account (Convert event set amount) now) (balance history account) amount set o) ≡ Some BadSet
    by None outside = cc
    by (Some made) outside = rw outside refl

-- ---- orders

-- an order that may be placed by the account is refused for the first of six causes
pub place-front : (limits : Bounds) (history : List Act) (account market set : ℕ) (side : Side) (making taking expires number fee now : ℕ) (above token open_ expired same full : Bool)
    → let q : Question = question limits history account (Place market set side making taking expires number fee) now in
    (account == OPERATOR) ≡ false → (account == EXCHANGE) ≡ false → nat_le limits.orders (open_in (orders history) market) ≡ above → ((set == 1) || (set == 2)) ≡ token → is_market history market ≡ open_
    → has_expired expires now ≡ expired → (number == nonce history account) ≡ same → nat_le limits.history (length history) ≡ full
    → verdict q ≡ first_some (where_ above TableFull ∷ where_ (not token) BadSet ∷ where_ (not open_) NoMarket ∷ where_ expired (OrderExpired 0) ∷ where_ (not same) (NonceOld (nonce history account) 0) ∷ where_ full HistoryFull ∷ [])
unfolding verdict
place-front limits history account market set side making taking expires number fee now true token open_ expired same full operator exchange a t o e s f = rw (operator, exchange, a) refl
place-front limits history account market set side making taking expires number fee now false false open_ expired same full operator exchange a t o e s f = rw (operator, exchange, a, t) refl
place-front limits history account market set side making taking expires number fee now false true false expired same full operator exchange a t o e s f = rw (operator, exchange, a, t, o) refl
place-front limits history account market set side making taking expires number fee now false true true true same full operator exchange a t o e s f = rw (operator, exchange, a, t, o, e) refl
place-front limits history account market set side making taking expires number fee now false true true false false full operator exchange a t o e s f = rw (operator, exchange, a, t, o, e, s) refl
place-front limits history account market set side making taking expires number fee now false true true false true full operator exchange a t o e s f = rw (operator, exchange, a, t, o, e, s, f) refl

-- ---- matches

-- a match by the operator is refused for its orders first, then for what its parts pay and get, and then at last
pub match-front : (limits : Bounds) (history : List Act) (account taker fill : ℕ) (makers : List (ℕ × ℕ)) (now : ℕ) → let q : Question = question limits history account (Match taker fill makers) now in
    (account == OPERATOR) ≡ true
    → verdict q ≡ first_some (match_refusals (order_state history) (nonce history) now taker fill makers ++ (funding_refusals (placed history) (balance history) taker fill makers
    ++ None ∷ None ∷ supply_limit q ∷ entries_limit q ∷ where_ (nat_le limits.history (length history)) HistoryFull ∷ []))
unfolding verdict
match-front limits history account taker fill makers now operator = rw operator refl

-- ---- lapses

-- an order that the operator lapses is refused for the first of four causes
pub lapse-front : (limits : Bounds) (history : List Act) (account order now : ℕ) → let q : Question = question limits history account (Lapse order) now in
    (account == OPERATOR) ≡ true
    → verdict q ≡ first_some (never_placed (order_state history) 0 ((order, 0) ∷ []) ∷ at_first (order_state history) shut 0 ((order, 0) ∷ [])
    ∷ still_paid (nonce history) now (balance history) (order_state history order) ∷ where_ (nat_le limits.history (length history)) HistoryFull ∷ [])
unfolding verdict
lapse-front limits history account order now operator = rw operator (skip (never_placed (order_state history) 0 ((order, 0) ∷ [])) (at_first (order_state history) shut 0 ((order, 0) ∷ [])) (still_paid (nonce history) now (balance history) (order_state history order)) (where_ (nat_le limits.history (length history)) HistoryFull))
  where
    skip : (a b c d : Option Refusal)
        → first_some (a ∷ b ∷ None ∷ None ∷ None ∷ None ∷ None ∷ None ∷ None ∷ None ∷ None ∷ None ∷ c ∷ None ∷ None ∷ None ∷ d ∷ []) ≡ first_some (a ∷ b ∷ c ∷ d ∷ [])
    skip (Some x) b c d = refl
    skip None (Some x) c d = refl
    skip None None (Some x) d = refl
    skip None None None d = refl
