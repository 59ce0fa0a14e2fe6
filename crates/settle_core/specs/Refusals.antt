-- The refusals of a command, each where its condition holds, in the order of their numbers. A rule names the commands
-- for which it says something, and none of the others is refused by it.
use Rattle.std.specs.Prelude.{◌==◌, ℕ, ◌+◌, ◌^◌, ◌&&◌, ◌||◌, Bool, true, false, not, nat_lt, nat_le, if◌then◌else◌, List, [], ◌∷◌, ◌++◌, length, Option, Some, None, option_map, is_some, is_none, slice_get, sum}
use Rattle.condition_sets.specs.declared.amount.TheConstants.{MAX_AMOUNT}
use Rattle.condition_sets.specs.declared.names.TheConstants.{OPERATOR, EXCHANGE}
use Rattle.command_words.specs.Command.{makes_act}
use Rattle.command_words.specs.declared.command.Command.{Command}
use Rattle.command_words.specs.declared.command.Command.TheVariants.{Deposit, Withdraw, Move, Prepare, Event, Split, Merge, Report, Answer, Redeem, Convert, Market, Place, Cancel, Match, Lapse, Cross}
use Rattle.command_words.specs.declared.act.Act.{Act}
use Rattle.command_words.specs.declared.refusal.Refusal.{Refusal}
use Rattle.command_words.specs.declared.refusal.Refusal.TheVariants.{NotAllowed, NoCondition, AlreadyPrepared, TableFull, BadSet, BadPartition, Held, TooDeep, AlreadyReported, BadPayouts, NotReported, NoEvent, Determined, NoMarket, OrderExpired, NonceOld, Unfunded, ExchangeShort, TooLittle, VaultLimit, SupplyLimit, EntriesLimit, HistoryFull}
use Rattle.condition_table.specs.declared.facts.Facts.{Facts}
use Rattle.convert_positions.specs.Converting.{short_question}
use Rattle.convert_positions.specs.Questions.{conditions_in}
use Rattle.event_table.specs.Events.{EventView, question_in, winner_in}
use Rattle.settle_core.specs.Book.{Book, book, conditions, events, held_in, postings, postings_of, told}
use Rattle.match_kinds.specs.Settling.{unfunded as unfunded_part}
use Rattle.match_kinds.specs.declared.part.Part.{Part}
use Rattle.order_table.specs.Orders.{OrderView, open_in}
use Rattle.order_table.specs.declared.order.OrderState.{OrderState}
use Rattle.order_table.specs.declared.order.Placed.{Placed}
use Rattle.settle_core.specs.Bounds.{Bounds}
use Rattle.settle_core.specs.Matches.{little_in, part_of, parts_in, short_in}
use Rattle.settle_core.specs.OrderRules.{at_first, expired, has_expired, never_placed, of_makers, orders_changed, orders_matched, orders_named, outdated, overfilled, own, repeats, shut, still_funded_by, uncrossed, unpaired, where_}
use Rattle.settle_core.specs.Orders.{is_market, nonce, order_state, orders, placed}
use Rattle.condition_table.specs.Conditions.{place_of}
use Rattle.settle_core.specs.Keys.{is_unprepared, is_improper, key_of, sets_of, key_is_unprepared, sets_are_unprepared, key_is_improper, sets_are_improper, is_no_partition, is_held, most_pairs, whole_in}
use Rattle.settle_core.specs.Postings.{balance, supply, vault}
use Rattle.ledger_book.specs.Entries.{entries_of}
use Rattle.ledger_book.specs.Planning.{first_short}
use Rattle.ledger_book.specs.Staging.{oversupplied}
use Rattle.ledger_book.specs.declared.posting.Posting.{Posting}
use Rattle.collection_keys.specs.Collections.{Pairs, part, root}
use Rattle.std.specs.List.{list_any}
use Rattle.split_merge.specs.Splitting.{parts_of}

-- what is asked, by whom and when, and of which history within which limits
pub record Question : Type 0 where
  pub limits : Bounds
  pub history : List Act
  pub account : ℕ
  pub command : Command
  pub moment : ℕ

-- ---- 5 to 12

-- a condition's oracle alone may report on it, where it is prepared
abbrev pub may_report : Option Facts → ℕ → Bool
may_report None account = true
may_report (Some facts) account = facts.oracle == account

-- and an event's oracle alone may answer its questions, where it is made
abbrev pub may_answer : Option EventView → ℕ → Bool
may_answer None account = true
may_answer (Some event) account = event.oracle == account

-- who may ask a command: deposits and events are the operator's, and the exchange's own account takes no part
abbrev pub may_ask : List Facts → List EventView → ℕ → Command → Bool
may_ask prepared made account (Deposit to amount) = (account == OPERATOR) && not (to == EXCHANGE)
may_ask prepared made account (Move to key amount) = not (account == EXCHANGE) && not (to == EXCHANGE)
may_ask prepared made account (Prepare oracle question slots) = not (account == EXCHANGE) && not (oracle == EXCHANGE)
may_ask prepared made account (Event oracle questions fee) = (account == OPERATOR) && not (oracle == EXCHANGE)
may_ask prepared made account (Report condition payouts) = not (account == EXCHANGE) && may_report (slice_get prepared condition) account
may_ask prepared made account (Answer event question won) = not (account == EXCHANGE) && may_answer (slice_get made event) account
may_ask prepared made account (Market condition) = account == OPERATOR
may_ask prepared made account (Place market set side making taking expires nonce fee) = not (account == OPERATOR) && not (account == EXCHANGE)
may_ask prepared made account (Match taker fill makers) = account == OPERATOR
may_ask prepared made account (Lapse order) = account == OPERATOR
may_ask prepared made account (Cross market) = account == OPERATOR
may_ask prepared made account command = not (account == EXCHANGE)

-- an order's maker alone may cancel it, where it was placed
abbrev pub is_maker : Option OrderView → ℕ → Bool
is_maker None account = true
is_maker (Some order) account = order.placed.account == account

abbrev pub may_end : List OrderView → ℕ → Command → Bool
may_end placed account (Cancel order) = is_maker (slice_get placed order) account
may_end placed account command = true

abbrev pub not_allowed : Question → Option Refusal
not_allowed q = where_ (not (may_ask (conditions q.history) (events q.history) q.account q.command && may_end (orders q.history) q.account q.command)) NotAllowed

-- an event has no question of a place
abbrev pub is_past_questions : Option EventView → ℕ → Bool
is_past_questions None question = false
is_past_questions (Some event) question = nat_le (length event.conditions) question

-- a condition that the command names isn't prepared, or the question that it names isn't there
abbrev pub names_none : List Facts → List EventView → Command → Bool
names_none prepared made (Report condition payouts) = is_unprepared prepared condition
names_none prepared made (Answer event question won) = is_past_questions (slice_get made event) question
names_none prepared made (Market condition) = is_unprepared prepared condition
names_none prepared made command = key_is_unprepared prepared (key_of command) || sets_are_unprepared prepared (sets_of command)

abbrev pub no_condition : Question → Option Refusal
no_condition q = where_ (names_none (conditions q.history) (events q.history) q.command) NoCondition

-- the condition is prepared already: the same oracle, question and number of slots
abbrev pub prepares_again : List Facts → Command → Bool
prepares_again prepared (Prepare oracle question slots) = is_some (place_of (record { oracle = oracle; question = question; slots = slots }) prepared)
prepares_again prepared command = false

-- the condition is a market already
abbrev pub opens_again : (ℕ → Bool) → Command → Bool
opens_again is_open (Market condition) = is_open condition
opens_again is_open command = false

abbrev pub already_prepared : Question → Option Refusal
already_prepared q = where_ (prepares_again (conditions q.history) q.command || opens_again (is_market q.history) q.command) AlreadyPrepared

-- no condition is left to prepare, no event to make, or fewer conditions than an event has questions
abbrev pub is_above_table : Bounds → List Facts → List EventView → Command → Bool
is_above_table most prepared made (Prepare oracle question slots) = nat_le most.conditions (length prepared)
is_above_table most prepared made (Event oracle questions fee) = nat_le most.events (length made) || nat_lt most.conditions (length prepared + questions)
is_above_table most prepared made command = false

-- as many orders of the market are open as may be
abbrev pub is_above_orders : ℕ → List OrderView → Command → Bool
is_above_orders most placed (Place market set side making taking expires nonce fee) = nat_le most (open_in placed market)
is_above_orders most placed command = false

abbrev pub table_full : Question → Option Refusal
table_full q = where_ (is_above_table q.limits (conditions q.history) (events q.history) q.command || is_above_orders q.limits.orders (orders q.history) q.command) TableFull

-- a set has a question past an event's last
abbrev pub is_outside : Option EventView → ℕ → Bool
is_outside None set = false
is_outside (Some event) set = nat_le (2 ^ length event.conditions) set

-- a condition has another number of slots than two
abbrev pub isnt_two : Option Facts → Bool
isnt_two None = false
isnt_two (Some facts) = not (facts.slots == 2)

-- a set that the command names isn't proper for its condition, or chooses no questions of its event, or no token of a market
abbrev pub names_bad_set : List Facts → List EventView → Command → Bool
names_bad_set prepared made (Convert event set amount) = (set == 0) || is_outside (slice_get made event) set
names_bad_set prepared made (Market condition) = isnt_two (slice_get prepared condition)
names_bad_set prepared made (Place market set side making taking expires nonce fee) = not ((set == 1) || (set == 2))
names_bad_set prepared made command = key_is_improper prepared (key_of command) || sets_are_improper prepared (sets_of command)

abbrev pub bad_set : Question → Option Refusal
bad_set q = where_ (names_bad_set (conditions q.history) (events q.history) q.command) BadSet

-- what is split or merged are no two sets or more that are apart
abbrev pub names_no_partition : Command → Bool
names_no_partition (Split parent condition sets amount) = is_no_partition sets
names_no_partition (Merge parent condition sets amount) = is_no_partition sets
names_no_partition command = false

abbrev pub bad_partition : Question → Option Refusal
bad_partition q = where_ (names_no_partition q.command) BadPartition

-- the parent has the condition
abbrev pub already_held : Question → Option Refusal
already_held q = where_ (is_held (key_of q.command) (sets_of q.command)) Held

-- a key has more pairs than a collection may have, and a parent more than leave room for one
abbrev pub too_deep : Question → Option Refusal
too_deep q = where_ (nat_lt (most_pairs (sets_of q.command)) (length (key_of q.command))) TooDeep

-- the refusals 6 to 12 of a command that names a parent and sets of any kind
abbrev pub choice_refusals : List Facts → Pairs → ℕ → List ℕ → List (Option Refusal)
choice_refusals prepared parent condition sets =
    where_ (key_is_unprepared prepared parent || is_unprepared prepared condition) NoCondition
    ∷ where_ (key_is_improper prepared parent || list_any (is_improper prepared condition) sets) BadSet
    ∷ where_ (is_some (part parent condition)) Held
    ∷ where_ (nat_lt 3 (length parent)) TooDeep ∷ []

-- the refusals 6 to 12 of a command that names a parent and a partition
abbrev pub partition_refusals : List Facts → Pairs → ℕ → List ℕ → List (Option Refusal)
partition_refusals prepared parent condition sets =
    where_ (key_is_unprepared prepared parent || is_unprepared prepared condition) NoCondition
    ∷ where_ (key_is_improper prepared parent || list_any (is_improper prepared condition) sets) BadSet
    ∷ where_ (is_no_partition sets) BadPartition
    ∷ where_ (is_some (part parent condition)) Held
    ∷ where_ (nat_lt 3 (length parent)) TooDeep ∷ []

-- ---- 13 to 17

-- a question is answered
abbrev pub is_answered : (ℕ → Option (List ℕ)) → Option ℕ → Bool
is_answered numerators None = false
is_answered numerators (Some condition) = is_some (numerators condition)

-- the condition has its numerators already
abbrev pub reports_again : (ℕ → Option (List ℕ)) → List EventView → Command → Bool
reports_again numerators made (Report condition payouts) = is_some (numerators condition)
reports_again numerators made (Answer event question won) = is_answered numerators (question_in made event question)
reports_again numerators made command = false

abbrev pub already_reported : Question → Option Refusal
already_reported q = where_ (reports_again (told q.history) (events q.history) q.command) AlreadyReported

-- the numerators aren't one for each slot, or their sum is 0
abbrev pub is_no_report : Option Facts → List ℕ → Bool
is_no_report None payouts = false
is_no_report (Some facts) payouts = not (length payouts == facts.slots) || (sum payouts == 0)

abbrev pub reports_badly : List Facts → Command → Bool
reports_badly prepared (Report condition payouts) = is_no_report (slice_get prepared condition) payouts
reports_badly prepared command = false

abbrev pub bad_payouts : Question → Option Refusal
bad_payouts q = where_ (reports_badly (conditions q.history) q.command) BadPayouts

-- the condition has no numerators yet
abbrev pub redeems_early : (ℕ → Option (List ℕ)) → Command → Bool
redeems_early numerators (Redeem parent condition sets) = is_none (numerators condition)
redeems_early numerators command = false

abbrev pub not_reported : Question → Option Refusal
not_reported q = where_ (redeems_early (told q.history) q.command) NotReported

-- the event that a command names isn't made
abbrev pub names_no_event : List EventView → Command → Bool
names_no_event made (Answer event question won) = is_none (slice_get made event)
names_no_event made (Convert event set amount) = is_none (slice_get made event)
names_no_event made command = false

abbrev pub no_event : Question → Option Refusal
no_event q = where_ (names_no_event (events q.history) q.command) NoEvent

-- the question that was answered YES, where an answer says it of another
abbrev pub winner_before : List EventView → Command → Option ℕ
winner_before made (Answer event question won) = if won then winner_in made event else None
winner_before made command = None

abbrev pub determined : Question → Option Refusal
determined q = option_map Determined (winner_before (events q.history) q.command)

-- ---- 18 to 22

-- an order is placed or a crossing asked for where there is no market
abbrev pub names_no_market : (ℕ → Bool) → Command → Bool
names_no_market is_open (Place market set side making taking expires nonce fee) = not (is_open market)
names_no_market is_open (Cross market) = not (is_open market)
names_no_market is_open command = false

abbrev pub no_market : Question → Option Refusal
no_market q = where_ (names_no_market (is_market q.history) q.command) NoMarket

-- an order that a command names was never placed
abbrev pub no_order : Question → Option Refusal
no_order q = never_placed (order_state q.history) 0 (orders_named q.command)

-- an order that it would end or fill is ended or filled already
abbrev pub not_open : Question → Option Refusal
not_open q = at_first (order_state q.history) shut 0 (orders_changed q.command)

-- a new order has expired, or one of a match has
abbrev pub expired_in : (ℕ → Option OrderState) → ℕ → Command → Option Refusal
expired_in known now (Place market set side making taking expires nonce fee) = where_ (has_expired expires now) (OrderExpired 0)
expired_in known now command = at_first known (expired now) 0 (orders_matched command)

abbrev pub order_expired : Question → Option Refusal
order_expired q = expired_in (order_state q.history) q.moment q.command

-- the nonce of a new order, or of one of a match, isn't its maker's present one
abbrev pub outdated_in : (ℕ → Option OrderState) → (ℕ → ℕ) → ℕ → Command → Option Refusal
outdated_in known nonces account (Place market set side making taking expires nonce fee) = where_ (not (nonce == nonces account)) (NonceOld (nonces account) 0)
outdated_in known nonces account command = at_first known (outdated nonces) 0 (orders_matched command)

abbrev pub nonce_old : Question → Option Refusal
nonce_old q = outdated_in (order_state q.history) (nonce q.history) q.account q.command

-- ---- 23 to 27: a match's makers, and how much of its orders is left

abbrev pub self_match : Question → Option Refusal
self_match q = of_makers (order_state q.history) own q.command

abbrev pub repeated_order : Question → Option Refusal
repeated_order q = repeats q.command

abbrev pub wrong_pair : Question → Option Refusal
wrong_pair q = of_makers (order_state q.history) unpaired q.command

abbrev pub not_crossing : Question → Option Refusal
not_crossing q = of_makers (order_state q.history) uncrossed q.command

abbrev pub overfill : Question → Option Refusal
overfill q = at_first (order_state q.history) overfilled 0 (orders_matched q.command)

-- ---- 28 to 35

-- the amount that a command takes of each of some collections of the caller, place by place
abbrev pub amount_of : Command → ℕ
amount_of (Withdraw amount) = amount
amount_of (Move to key amount) = amount
amount_of (Split parent condition sets amount) = amount
amount_of (Merge parent condition sets amount) = amount
amount_of command = 0

abbrev pub taken_by : List Facts → Command → List Pairs
taken_by prepared (Withdraw amount) = root ∷ []
taken_by prepared (Move to key amount) = key ∷ []
taken_by prepared (Split parent condition sets amount) = whole_in prepared parent condition sets ∷ []
taken_by prepared (Merge parent condition sets amount) = parts_of parent condition sets
taken_by prepared command = []

-- the first part of a match that isn't funded, with what its account has
abbrev pub unfunded_in : (ℕ → Pairs → ℕ) → Option Placed → ℕ → List Part → Option (ℕ × ℕ)
unfunded_in held None fill makers = None
unfunded_in held (Some taker) fill makers = unfunded_part held taker.market (part_of taker fill) makers

-- the first place of which less is held than is taken, with what is held there; a conversion takes NO of each question of
-- its set, by the question's place in the event, and a match what each of its parts pays
abbrev pub short_of : Book → ℕ → Command → Option (ℕ × ℕ)
short_of b a (Convert event set amount) = short_question (held_in b a) amount set (conditions_in b.events event)
short_of b a (Match taker fill makers) = unfunded_in (held_in b) (slice_get b.placed taker) fill (parts_in b.placed makers)
short_of b a command = first_short (held_in b a) (amount_of command) (taken_by b.conditions command)

-- less is held than is taken
abbrev pub unfunded : Question → Option Refusal
unfunded q = option_map (λ short. Unfunded short.1 short.0) (short_of (book q.history) q.account q.command)

-- with a maker of a match more goes out of the exchange than came in
abbrev pub short_by : List Placed → Command → Option ℕ
short_by placed (Match taker fill makers) = short_in (slice_get placed taker) fill (parts_in placed makers)
short_by placed command = None

abbrev pub exchange_short : Question → Option Refusal
exchange_short q = option_map ExchangeShort (short_by (placed q.history) q.command)

-- its taker gets less than its limit wants
abbrev pub little_by : List Placed → Command → Option (ℕ × ℕ)
little_by placed (Match taker fill makers) = little_in (slice_get placed taker) fill (parts_in placed makers)
little_by placed command = None

abbrev pub too_little : Question → Option Refusal
too_little q = option_map (λ little. TooLittle little.1 little.0) (little_by (placed q.history) q.command)

-- an order that would lapse is live, and its maker has what is left of it
abbrev pub still_funded : Question → Option Refusal
still_funded q = still_funded_by (order_state q.history) (nonce q.history) q.moment (balance q.history) q.command

-- the vault would hold more than it may
abbrev pub is_above_vault : ℕ → Command → Bool
is_above_vault in_vault (Deposit to amount) = nat_lt MAX_AMOUNT (in_vault + amount)
is_above_vault in_vault command = false

abbrev pub vault_limit : Question → Option Refusal
vault_limit q = where_ (is_above_vault (vault q.history) q.command) (VaultLimit (vault q.history))

-- a supply would be above its limit; the refusal tells the present one of the least such collection
abbrev pub supply_limit : Question → Option Refusal
supply_limit q = option_map SupplyLimit (oversupplied (supply q.history) (postings_of (book q.history) q.account q.command))

-- more balances would be other than 0 than the limit; what posts nothing leaves them as they are
abbrev pub is_above_entries : ℕ → List Posting → List Posting → Bool
is_above_entries most before [] = false
is_above_entries most before (p ∷ ps) = nat_lt most (entries_of (before ++ p ∷ ps))

abbrev pub entries_limit : Question → Option Refusal
entries_limit q = where_ (is_above_entries q.limits.entries (postings q.history) (postings_of (book q.history) q.account q.command)) EntriesLimit

abbrev pub history_full : Question → Option Refusal
history_full q = where_ (makes_act q.command && nat_le q.limits.history (length q.history)) HistoryFull
