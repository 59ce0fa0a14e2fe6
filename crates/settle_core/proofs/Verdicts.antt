-- What follows from a verdict.
use Rattle.std.proofs.Common.{◌≡◌, ℕ, ◌+◌, ◌<◌, ◌≤◌, List, [], ◌∷◌, ◌++◌, length, Option, Some, None, refl, arith, Bool, true, false}
use Rattle.std.specs.Prelude.{◌==◌, nat_le, nat_lt, ◌&&◌, ◌||◌, not, option_map, Err}
use Rattle.std.proofs.lemmas.Bool.{or_parts}
use Rattle.std.proofs.lemmas.Bool.Decides.{nat_tests}
use Rattle.collection_keys.specs.Collections.{Pairs}
use Rattle.collection_keys.specs.declared.collection.TheConstants.{MAX_PAIRS}
use Rattle.condition_sets.specs.declared.amount.TheConstants.{MAX_AMOUNT}
use Rattle.command_words.proofs.Acts.{act-of-parts}
use Rattle.command_words.specs.Command.{makes_act, is_act_form, may_be_act}
use Rattle.command_words.specs.Ranges.{is_short}
use Rattle.command_words.specs.declared.command.Command.{Command}
use Rattle.command_words.specs.declared.command.Command.TheVariants.{Deposit, Split, Merge, Move, Redeem, Place}
use Rattle.command_words.specs.declared.refusal.Refusal.{Refusal}
use Rattle.command_words.specs.declared.refusal.Refusal.TheVariants.{NotAllowed, NoCondition, AlreadyPrepared, TableFull, BadSet, BadPartition, Held, TooDeep, AlreadyReported, BadPayouts, NotReported, NoEvent, Determined, NoMarket, ExchangeShort, TooLittle, Unfunded, VaultLimit, SupplyLimit, EntriesLimit, HistoryFull, Memory}
use Rattle.ledger_book.specs.Staging.{oversupplied}
use Rattle.settle_core.specs.Book.{book, conditions, events, postings, postings_of, told}
use Rattle.settle_core.specs.Keys.{key_of, sets_of, is_held, most_pairs}
use Rattle.settle_core.specs.Legal.{IsPlannable}
use Rattle.settle_core.specs.OrderRules.{at_first, never_placed, of_makers, orders_changed, orders_matched, orders_named, overfilled, own, repeats, shut, unpaired, where_}
use Rattle.settle_core.specs.Orders.{is_market, order_state, orders, placed}
use Rattle.settle_core.specs.Postings.{supply, vault, deposit_of}
use Rattle.settle_core.specs.Refusals.{Question, may_ask, may_end, not_allowed, names_none, no_condition, prepares_again, opens_again, already_prepared, is_above_table, is_above_orders, table_full, names_bad_set, bad_set, names_no_partition, bad_partition, already_held, too_deep, reports_again, already_reported, reports_badly, bad_payouts, redeems_early, not_reported, names_no_event, no_event, winner_before, determined, names_no_market, no_market, no_order, not_open, order_expired, nonce_old, self_match, repeated_order, wrong_pair, not_crossing, overfill, exchange_short, little_by, too_little, still_funded, short_by, short_of, unfunded, is_above_vault, vault_limit, supply_limit, is_above_entries, entries_limit, history_full}
use Rattle.settle_core.specs.Verdict.{verdict, first_some, AnsweredBy}

-- a call that refuses by the verdict is answered by it
pub answered-err : (X : Type 0) (given : Option Refusal) (refusal : Refusal) → given ≡ Some refusal → AnsweredBy {X = X} given (Err refusal)
answered-err X given Memory same = tt
answered-err X given refusal same = same

-- each of the list is none
abbrev pub AreNone : {X : Type 0} → List (Option X) → Type 0
AreNone [] = Unit {0}
AreNone (o ∷ os) = (o ≡ None) × AreNone os

pub first_some-all : {X : Type 0} (os : List (Option X)) → first_some os ≡ None → AreNone os
first_some-all [] none = tt
first_some-all (Some x ∷ os) none = cc
first_some-all (None ∷ os) none = (refl, first_some-all os none)

-- the refusals with lower numbers than that of a supply: 5 to 32
abbrev pub earlier : Question → List (Option Refusal)
earlier q =
    not_allowed q ∷ no_condition q ∷ already_prepared q ∷ table_full q
    ∷ bad_set q ∷ bad_partition q ∷ already_held q ∷ too_deep q
    ∷ already_reported q ∷ bad_payouts q ∷ not_reported q ∷ no_event q ∷ determined q
    ∷ no_market q ∷ no_order q ∷ not_open q ∷ order_expired q ∷ nonce_old q
    ∷ self_match q ∷ repeated_order q ∷ wrong_pair q ∷ not_crossing q ∷ overfill q
    ∷ unfunded q ∷ exchange_short q ∷ too_little q ∷ still_funded q
    ∷ vault_limit q ∷ []

-- and those from there on
abbrev pub last : Question → List (Option Refusal)
last q = supply_limit q ∷ entries_limit q ∷ history_full q ∷ []

-- Of a list and another behind it the first that is there: that of the one, or else that of the other.
pub front-some : {X : Type 0} (os ps : List (Option X)) (x : X) → first_some os ≡ Some x → first_some (os ++ ps) ≡ Some x
front-some [] ps x is = cc
front-some (Some y ∷ os) ps x is = is
front-some (None ∷ os) ps x is = front-some os ps x is

pub front-past : {X : Type 0} (os ps : List (Option X)) → first_some os ≡ None → first_some (os ++ ps) ≡ first_some ps
front-past [] ps none = refl
front-past (Some y ∷ os) ps none = cc
front-past (None ∷ os) ps none = front-past os ps none

-- where none is there, none is on either side
front-none : {X : Type 0} (os ps : List (Option X)) → first_some (os ++ ps) ≡ None → AreNone os
front-none [] ps none = tt
front-none (Some x ∷ os) ps none = cc
front-none (None ∷ os) ps none = (refl, front-none os ps none)

behind-none : {X : Type 0} (os ps : List (Option X)) → first_some (os ++ ps) ≡ None → AreNone ps
behind-none [] ps none = first_some-all ps none
behind-none (Some x ∷ os) ps none = cc
behind-none (None ∷ os) ps none = behind-none os ps none

-- where nothing is refused, each condition is none
pub earlier-none : (q : Question) → verdict q ≡ None → AreNone (earlier q)
unfolding verdict
earlier-none q none = front-none (earlier q) (last q) none

last-none : (q : Question) → verdict q ≡ None → AreNone (last q)
unfolding verdict
last-none q none = behind-none (earlier q) (last q) none

-- a condition whose refusal isn't there doesn't hold
pub where_-none : (holds : Bool) (refusal : Refusal) → where_ holds refusal ≡ None → holds ≡ false
where_-none true refusal none = cc
where_-none false refusal none = refl

and_right : (a b : Bool) → a ≡ true → (a && b) ≡ false → b ≡ false
and_right true b first both = both
and_right false b first both = cc

-- an accepted command that makes an act finds the history within its limit
pub accepted-within : (q : Question) → verdict q ≡ None → makes_act q.command ≡ true → length q.history < q.limits.history
accepted-within q none acts =
    let all = last-none q none in
    let full : history_full q ≡ None = assumption (all) in
    let room : nat_le q.limits.history (length q.history) ≡ false = and_right (makes_act q.command) (nat_le q.limits.history (length q.history)) acts (where_-none _ HistoryFull full) in
    grind (arith, nat_tests, room)

deposit-within : (held : ℕ) (command : Command) → held ≤ MAX_AMOUNT → is_above_vault held command ≡ false → held + deposit_of command ≤ MAX_AMOUNT
deposit-within held (Deposit to amount) funded below = grind (arith, nat_tests, below)
deposit-within held command funded below = omega arith

-- an accepted command leaves the vault within its limit
pub accepted-vault : (q : Question) → AreNone (earlier q) → vault q.history ≤ MAX_AMOUNT → vault q.history + deposit_of q.command ≤ MAX_AMOUNT
accepted-vault q all funded =
    let limit : vault_limit q ≡ None = assumption (all) in
    deposit-within (vault q.history) q.command funded (where_-none _ (VaultLimit (vault q.history)) limit)

pub map-none : {X Y : Type 0} (f : X → Y) (o : Option X) → option_map f o ≡ None → o ≡ None
map-none f None none = refl
map-none f (Some x) none = cc

-- an accepted command prepares no condition again, and opens no market again
pub accepted-new : (q : Question) → AreNone (earlier q) → prepares_again (conditions q.history) q.command ≡ false
accepted-new q all =
    let new : already_prepared q ≡ None = assumption (all) in
    (or_parts (prepares_again (conditions q.history) q.command) (opens_again (is_market q.history) q.command) (where_-none _ AlreadyPrepared new)).0

pub accepted-market : (q : Question) → AreNone (earlier q) → opens_again (is_market q.history) q.command ≡ false
accepted-market q all =
    let new : already_prepared q ≡ None = assumption (all) in
    (or_parts (prepares_again (conditions q.history) q.command) (opens_again (is_market q.history) q.command) (where_-none _ AlreadyPrepared new)).1

-- it finds room in the tables
pub accepted-table : (q : Question) → AreNone (earlier q) → is_above_table q.limits (conditions q.history) (events q.history) q.command ≡ false
accepted-table q all =
    let room : table_full q ≡ None = assumption (all) in
    (or_parts (is_above_table q.limits (conditions q.history) (events q.history) q.command) (is_above_orders q.limits.orders (orders q.history) q.command) (where_-none _ TableFull room)).0

pub accepted-orders : (q : Question) → AreNone (earlier q) → is_above_orders q.limits.orders (orders q.history) q.command ≡ false
accepted-orders q all =
    let room : table_full q ≡ None = assumption (all) in
    (or_parts (is_above_table q.limits (conditions q.history) (events q.history) q.command) (is_above_orders q.limits.orders (orders q.history) q.command) (where_-none _ TableFull room)).1

-- the market of an order is one, and the order that a command ends is open
pub accepted-open_market : (q : Question) → AreNone (earlier q) → names_no_market (is_market q.history) q.command ≡ false
accepted-open_market q all =
    let is : no_market q ≡ None = assumption (all) in
    where_-none _ NoMarket is

pub accepted-order : (q : Question) → AreNone (earlier q) → never_placed (order_state q.history) 0 (orders_named q.command) ≡ None
accepted-order q all =
    let is : no_order q ≡ None = assumption (all) in
    is

pub accepted-open : (q : Question) → AreNone (earlier q) → at_first (order_state q.history) shut 0 (orders_changed q.command) ≡ None
accepted-open q all =
    let is : not_open q ≡ None = assumption (all) in
    is

-- the makers of a match aren't of its taker's account, each is named once, and can be matched with the taker
pub accepted-others : (q : Question) → AreNone (earlier q) → of_makers (order_state q.history) own q.command ≡ None
accepted-others q all =
    let is : self_match q ≡ None = assumption (all) in
    is

pub accepted-once : (q : Question) → AreNone (earlier q) → repeats q.command ≡ None
accepted-once q all =
    let is : repeated_order q ≡ None = assumption (all) in
    is

pub accepted-pairs : (q : Question) → AreNone (earlier q) → of_makers (order_state q.history) unpaired q.command ≡ None
accepted-pairs q all =
    let is : wrong_pair q ≡ None = assumption (all) in
    is

-- of each order of a match as much as its fill is left
pub accepted-left : (q : Question) → AreNone (earlier q) → at_first (order_state q.history) overfilled 0 (orders_matched q.command) ≡ None
accepted-left q all =
    let is : overfill q ≡ None = assumption (all) in
    is

-- no more goes out with a match than comes in, and its taker gets what its limit wants
pub accepted-flows : (q : Question) → AreNone (earlier q) → short_by (placed q.history) q.command ≡ None
accepted-flows q all =
    let is : exchange_short q ≡ None = assumption (all) in
    map-none ExchangeShort (short_by (placed q.history) q.command) is

pub accepted-proceeds : (q : Question) → AreNone (earlier q) → little_by (placed q.history) q.command ≡ None
accepted-proceeds q all =
    let is : too_little q ≡ None = assumption (all) in
    map-none (λ (little : ℕ × ℕ). TooLittle little.1 little.0) (little_by (placed q.history) q.command) is

-- an accepted command leaves every supply within its limit
pub accepted-supply : (q : Question) → verdict q ≡ None → oversupplied (supply q.history) (postings_of (book q.history) q.account q.command) ≡ None
accepted-supply q none =
    let all = last-none q none in
    let within : supply_limit q ≡ None = assumption (all) in
    map-none SupplyLimit (oversupplied (supply q.history) (postings_of (book q.history) q.account q.command)) within

-- an accepted command takes what is there
pub accepted-funds : (q : Question) → AreNone (earlier q) → short_of (book q.history) q.account q.command ≡ None
accepted-funds q all =
    let funded : unfunded q ≡ None = assumption (all) in
    map-none (λ (short : ℕ × ℕ). Unfunded short.1 short.0) (short_of (book q.history) q.account q.command) funded

-- an accepted command is one that its account may ask
pub accepted-asked : (q : Question) → AreNone (earlier q) → not (may_ask (conditions q.history) (events q.history) q.account q.command) ≡ false
accepted-asked q all =
    let is : not_allowed q ≡ None = assumption (all) in
    both-may (may_ask (conditions q.history) (events q.history) q.account q.command) (may_end (orders q.history) q.account q.command) (where_-none _ NotAllowed is)
  where
    both-may : (a b : Bool) → not (a && b) ≡ false → not a ≡ false
    both-may true b e = refl
    both-may false b e = e

-- the event that it names is made, and no other question of it was answered YES where it answers so
pub accepted-event : (q : Question) → AreNone (earlier q) → names_no_event (events q.history) q.command ≡ false
accepted-event q all =
    let is : no_event q ≡ None = assumption (all) in
    where_-none _ NoEvent is

pub accepted-first_winner : (q : Question) → AreNone (earlier q) → winner_before (events q.history) q.command ≡ None
accepted-first_winner q all =
    let is : determined q ≡ None = assumption (all) in
    map-none Determined (winner_before (events q.history) q.command) is

-- an accepted command leaves as many balances as there may be
pub accepted-entries : (q : Question) → verdict q ≡ None → is_above_entries q.limits.entries (postings q.history) (postings_of (book q.history) q.account q.command) ≡ false
accepted-entries q none =
    let all = last-none q none in
    let few : entries_limit q ≡ None = assumption (all) in
    where_-none _ EntriesLimit few

-- an accepted report is of a condition that wasn't reported, and may be one
pub accepted-first : (q : Question) → AreNone (earlier q) → reports_again (told q.history) (events q.history) q.command ≡ false
accepted-first q all =
    let is : already_reported q ≡ None = assumption (all) in
    where_-none _ AlreadyReported is

pub accepted-payouts : (q : Question) → AreNone (earlier q) → reports_badly (conditions q.history) q.command ≡ false
accepted-payouts q all =
    let is : bad_payouts q ≡ None = assumption (all) in
    where_-none _ BadPayouts is

-- what an accepted redemption names was reported
pub accepted-reported : (q : Question) → AreNone (earlier q) → redeems_early (told q.history) q.command ≡ false
accepted-reported q all =
    let is : not_reported q ≡ None = assumption (all) in
    where_-none _ NotReported is

-- an accepted key isn't too deep
pub accepted-depth : (q : Question) → AreNone (earlier q) → nat_lt (most_pairs (sets_of q.command)) (length (key_of q.command)) ≡ false
accepted-depth q all =
    let deep : too_deep q ≡ None = assumption (all) in
    where_-none _ TooDeep deep

-- what an accepted command splits and merges is a partition
pub accepted-partition : (q : Question) → AreNone (earlier q) → names_no_partition q.command ≡ false
accepted-partition q all =
    let is : bad_partition q ≡ None = assumption (all) in
    where_-none _ BadPartition is

-- its parent hasn't the condition
pub accepted-free : (q : Question) → AreNone (earlier q) → is_held (key_of q.command) (sets_of q.command) ≡ false
accepted-free q all =
    let free : already_held q ≡ None = assumption (all) in
    where_-none _ Held free

-- its conditions are prepared, and its sets proper
pub accepted-prepared : (q : Question) → AreNone (earlier q) → names_none (conditions q.history) (events q.history) q.command ≡ false
accepted-prepared q all =
    let is : no_condition q ≡ None = assumption (all) in
    where_-none _ NoCondition is

pub accepted-proper : (q : Question) → AreNone (earlier q) → names_bad_set (conditions q.history) (events q.history) q.command ≡ false
accepted-proper q all =
    let is : bad_set q ≡ None = assumption (all) in
    where_-none _ BadSet is

short-parent : (parent : Pairs) → nat_lt 3 (length parent) ≡ false → is_short parent ≡ true
short-parent parent few = grind (arith, nat_tests, few)

short-key : (key : Pairs) → nat_lt MAX_PAIRS (length key) ≡ false → is_short key ≡ true
short-key key few = grind (arith, nat_tests, few)

-- an accepted command may be an act's
pub accepted-may : (q : Question) → verdict q ≡ None → IsPlannable q.command → may_be_act q.command ≡ true
accepted-may q none plannable = act-of-parts q.command plannable.makes_act plannable.in_ranges (formed q.command (accepted-depth q (earlier-none q none)) (accepted-proper q (earlier-none q none)))
  where
    token : (b : Bool) → not b ≡ false → b ≡ true
    token true e = refl
    token false e = cc

    formed : (command : Command) → nat_lt (most_pairs (sets_of command)) (length (key_of command)) ≡ false → names_bad_set (conditions q.history) (events q.history) command ≡ false → is_act_form command ≡ true
    formed (Split parent condition sets amount) few proper = short-parent parent few
    formed (Merge parent condition sets amount) few proper = short-parent parent few
    formed (Move to key amount) few proper = short-key key few
    formed (Redeem parent condition sets) few proper = short-parent parent few
    formed (Place market set side making taking expires nonce fee) few proper = token ((set == 1) || (set == 2)) proper
    formed command few proper = refl
