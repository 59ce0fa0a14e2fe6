-- The first refusal that is there has the lowest number.
use Rattle.std.proofs.Common.{◌≡◌, ℕ, ◌+◌, ◌<◌, ◌≤◌, List, [], ◌∷◌, ◌++◌, length, Option, Some, None, refl, subst, arith, zero, suc, Bool, true, false}
use Rattle.std.specs.Prelude.{Contains, slice_index_or, option_map, ◌==◌, is_none}
use Rattle.std.specs.List.{list_any}
use Rattle.collection_keys.specs.Collections.{Pairs}
use Rattle.command_words.specs.declared.command.Command.{Command}
use Rattle.command_words.specs.declared.command.Command.TheVariants.{Match, Lapse, Place}
use Rattle.order_table.specs.declared.order.OrderState.{OrderState}
use Rattle.order_table.specs.declared.order.Placed.{Placed}
use Rattle.command_words.specs.Refusal.{code_of}
use Rattle.command_words.specs.declared.refusal.Refusal.{Refusal}
use Rattle.command_words.specs.declared.refusal.Refusal.TheVariants.{NotAllowed, NoCondition, AlreadyPrepared, TableFull, BadSet, BadPartition, Held, TooDeep, AlreadyReported, BadPayouts, NotReported, NoEvent, Determined, NoMarket, NoOrder, NotOpen, OrderExpired, NonceOld, SelfMatch, RepeatedOrder, WrongPair, NotCrossing, Overfill, Unfunded, ExchangeShort, TooLittle, Funded, VaultLimit, SupplyLimit, EntriesLimit, HistoryFull}
use Rattle.ledger_book.specs.Staging.{oversupplied}
use Rattle.settle_core.specs.Book.{book, events, postings_of}
use Rattle.settle_core.specs.OrderRules.{at_first, by_rule, by_taker, expired, never_placed, of_makers, or_else, orders_changed, orders_matched, orders_named, outdated, overfilled, own, repeated_from, repeats, shut, still_funded_by, still_paid, uncrossed, unpaired, where_}
use Rattle.settle_core.specs.Orders.{nonce, order_state, placed}
use Rattle.settle_core.specs.Postings.{balance, supply, vault}
use Rattle.settle_core.specs.Refusals.{Question, expired_in, little_by, outdated_in, short_by, short_of, winner_before}
use Rattle.settle_core.specs.Verdict.{first_some, refusals, verdict}
use Rattle.settle_core.proofs.Verdicts.{AreNone, earlier, last}

-- the refusal has this number, where it is there
abbrev pub IsNumbered : ℕ → Option Refusal → Type 0
IsNumbered number None = Unit {0}
IsNumbered number (Some refusal) = code_of refusal ≡ number

-- the refusals that are there have the number of their place, counted from this one
abbrev pub AreNumbered : ℕ → List (Option Refusal) → Type 0
AreNumbered number [] = Unit {0}
AreNumbered number (o ∷ os) = IsNumbered number o × AreNumbered (suc number) os

where_-numbered : (holds : Bool) (refusal : Refusal) → IsNumbered (code_of refusal) (where_ holds refusal)
where_-numbered true refusal = refl
where_-numbered false refusal = tt

-- a refusal that is there is numbered, whatever it tells
numbered-each : {X : Type 0} (number : ℕ) (refusal : X → Refusal) → ((x : X) → code_of (refusal x) ≡ number) → (o : Option X) → IsNumbered number (option_map refusal o)
numbered-each number refusal numbers None = tt
numbered-each number refusal numbers (Some x) = numbers x

-- so is what a rule says of the first order that it refuses, where it says so of each
or-numbered : (number : ℕ) (o p : Option Refusal) → IsNumbered number o → IsNumbered number p → IsNumbered number (or_else o p)
or-numbered number None p one other = other
or-numbered number (Some x) p one other = one

at_first-numbered : (number : ℕ) (known : ℕ → Option OrderState) (rule : ℕ → ℕ → OrderState → Option Refusal) → ((place fill : ℕ) (order : OrderState) → IsNumbered number (rule place fill order))
    → (place : ℕ) (named : List (ℕ × ℕ)) → IsNumbered number (at_first known rule place named)
at_first-numbered number known rule each place [] = tt
at_first-numbered number known rule each place (n ∷ ns) =
    or-numbered number (by_rule rule place n.1 (known n.0)) (at_first known rule (suc place) ns) (by (known n.0)) (at_first-numbered number known rule each (suc place) ns)
  where
    by : (o : Option OrderState) → IsNumbered number (by_rule rule place n.1 o)
    by None = tt
    by (Some order) = each place n.1 order

of_makers-numbered : (number : ℕ) (known : ℕ → Option OrderState) (rule : Placed → ℕ → ℕ → OrderState → Option Refusal) → ((taker : Placed) (place fill : ℕ) (order : OrderState) → IsNumbered number (rule taker place fill order))
    → (command : Command) → IsNumbered number (of_makers known rule command)
of_makers-numbered number known rule each (Match taker fill makers) = by (known taker)
  where
    by : (o : Option OrderState) → IsNumbered number (by_taker known rule o makers)
    by None = tt
    by (Some order) = at_first-numbered number known (rule order.placed) (each order.placed) 1 makers
of_makers-numbered number known rule each command = tt

unplaced-numbered : (known : ℕ → Option OrderState) (place : ℕ) (named : List (ℕ × ℕ)) → IsNumbered 19 (never_placed known place named)
unplaced-numbered known place [] = tt
unplaced-numbered known place (n ∷ ns) =
    or-numbered 19 (where_ (is_none (known n.0)) (NoOrder place)) (never_placed known (suc place) ns) (where_-numbered (is_none (known n.0)) (NoOrder place)) (unplaced-numbered known (suc place) ns)

repeated-numbered : (earlier : List (ℕ × ℕ)) (place : ℕ) (named : List (ℕ × ℕ)) → IsNumbered 24 (repeated_from earlier place named)
repeated-numbered earlier place [] = tt
repeated-numbered earlier place (n ∷ ns) =
    or-numbered 24 (where_ (list_any (λ (e : ℕ × ℕ). e.0 == n.0) earlier) (RepeatedOrder place)) (repeated_from (earlier ++ n ∷ []) (suc place) ns)
    (where_-numbered (list_any (λ (e : ℕ × ℕ). e.0 == n.0) earlier) (RepeatedOrder place)) (repeated-numbered (earlier ++ n ∷ []) (suc place) ns)

repeats-numbered : (command : Command) → IsNumbered 24 (repeats command)
repeats-numbered (Match taker fill makers) = repeated-numbered [] 1 makers
repeats-numbered command = tt

expired-numbered : (known : ℕ → Option OrderState) (now : ℕ) (command : Command) → IsNumbered 21 (expired_in known now command)
expired-numbered known now (Place market set side making taking expires nonce fee) = where_-numbered _ (OrderExpired 0)
expired-numbered known now (Match taker fill makers) = at_first-numbered 21 known (expired now) (λ place fill order. where_-numbered _ (OrderExpired place)) 0 ((taker, fill) ∷ makers)
expired-numbered known now command = tt

outdated-numbered : (known : ℕ → Option OrderState) (nonces : ℕ → ℕ) (account : ℕ) (command : Command) → IsNumbered 22 (outdated_in known nonces account command)
outdated-numbered known nonces account (Place market set side making taking expires nonce fee) = where_-numbered _ (NonceOld (nonces account) 0)
outdated-numbered known nonces account (Match taker fill makers) =
    at_first-numbered 22 known (outdated nonces) (λ place fill order. where_-numbered _ (NonceOld (nonces order.placed.account) place)) 0 ((taker, fill) ∷ makers)
outdated-numbered known nonces account command = tt

funded-numbered : (known : ℕ → Option OrderState) (nonces : ℕ → ℕ) (now : ℕ) (held : ℕ → Pairs → ℕ) (command : Command) → IsNumbered 31 (still_funded_by known nonces now held command)
funded-numbered known nonces now held (Lapse order) = by (known order)
  where
    by : (o : Option OrderState) → IsNumbered 31 (still_paid nonces now held o)
    by None = tt
    by (Some facts) = where_-numbered _ (Funded _)
funded-numbered known nonces now held command = tt

-- the refusals of a question stand in the order of their numbers, from 5 on
pub refusals-numbered : (q : Question) → AreNumbered 5 (refusals q)
refusals-numbered q =
    let known = order_state q.history in
    let open_ = at_first-numbered 20 known shut (λ place fill order. where_-numbered _ (NotOpen order.filled place)) 0 (orders_changed q.command) in
    let other = of_makers-numbered 23 known own (λ taker place fill order. where_-numbered _ (SelfMatch place)) q.command in
    let pair = of_makers-numbered 25 known unpaired (λ taker place fill order. where_-numbered _ (WrongPair place)) q.command in
    let crossing = of_makers-numbered 26 known uncrossed (λ taker place fill order. where_-numbered _ (NotCrossing _ place _)) q.command in
    let left = at_first-numbered 27 known overfilled (λ place fill order. where_-numbered _ (Overfill place _)) 0 (orders_matched q.command) in
    (where_-numbered _ NotAllowed, (where_-numbered _ NoCondition, (where_-numbered _ AlreadyPrepared, (where_-numbered _ TableFull, (where_-numbered _ BadSet, (where_-numbered _ BadPartition, (where_-numbered _ Held, (where_-numbered _ TooDeep, (where_-numbered _ AlreadyReported, (where_-numbered _ BadPayouts, (where_-numbered _ NotReported, (where_-numbered _ NoEvent, (numbered-each 17 Determined (λ winner. refl) (winner_before (events q.history) q.command), (where_-numbered _ NoMarket, (unplaced-numbered known 0 (orders_named q.command), (open_, (expired-numbered known q.moment q.command, (outdated-numbered known (nonce q.history) q.account q.command, (other, (repeats-numbered q.command, (pair, (crossing, (left, (numbered-each 28 (λ short. Unfunded short.1 short.0) (λ short. refl) (short_of (book q.history) q.account q.command), (numbered-each 29 ExchangeShort (λ place. refl) (short_by (placed q.history) q.command), (numbered-each 30 (λ little. TooLittle little.1 little.0) (λ little. refl) (little_by (placed q.history) q.command), (funded-numbered known (nonce q.history) q.moment (balance q.history) q.command, (where_-numbered _ (VaultLimit (vault q.history)), (numbered-each 33 SupplyLimit (λ in_all. refl) (oversupplied (supply q.history) (postings_of (book q.history) q.account q.command)), (where_-numbered _ EntriesLimit, (where_-numbered _ HistoryFull, tt)))))))))))))))))))))))))))))))

numbered : (number : ℕ) (o : Option Refusal) (refusal : Refusal) → IsNumbered number o → o ≡ Some refusal → code_of refusal ≡ number
numbered number o refusal is there = let P : Option Refusal → Type 0 = λ p. IsNumbered number p in subst P there is

at_least : (number : ℕ) (os : List (Option Refusal)) (k : ℕ) (other : Refusal) → AreNumbered number os → k < length os → slice_index_or os k (Some other) ≡ Some other → number ≤ code_of other
at_least number [] k other are inside at = absurd (omega arith)
at_least number (o ∷ os) zero other are inside at = omega (arith, numbered number o other are.0 at)
at_least number (o ∷ os) (suc k) other are inside at = omega (arith, at_least (suc number) os k other are.1 (omega arith) at)

-- the first that is there is among them
pub first_some-among : (os : List (Option Refusal)) (refusal : Refusal) → first_some os ≡ Some refusal → Contains os (Some refusal)
first_some-among [] refusal first = cc
first_some-among (Some x ∷ os) refusal first = (0, omega arith, first)
first_some-among (None ∷ os) refusal first =
    let found = first_some-among os refusal first in (suc found.0, omega (arith, found.1), found.2)

-- no other that is there has a lower number
pub first_some-lowest : (number : ℕ) (os : List (Option Refusal)) (k : ℕ) (refusal other : Refusal) → AreNumbered number os → first_some os ≡ Some refusal → k < length os → slice_index_or os k (Some other) ≡ Some other → code_of refusal ≤ code_of other
first_some-lowest number [] k refusal other are first inside at = cc
first_some-lowest number (Some x ∷ os) zero refusal other are first inside at =
    omega (arith, numbered number (Some x) refusal are.0 first, numbered number (Some x) other are.0 at)
first_some-lowest number (Some x ∷ os) (suc k) refusal other are first inside at =
    omega (arith, numbered number (Some x) refusal are.0 first, at_least (suc number) os k other are.1 (omega arith) at)
first_some-lowest number (None ∷ os) zero refusal other are first inside at = cc
first_some-lowest number (None ∷ os) (suc k) refusal other are first inside at =
    first_some-lowest (suc number) os k refusal other are.1 first (omega arith) at

-- where none is first, none is there
pub first_some-nowhere : (os : List (Option Refusal)) (k : ℕ) (refusal : Refusal) → first_some os ≡ None → k < length os → slice_index_or os k (Some refusal) ≡ Some refusal → ⊥
first_some-nowhere [] k refusal first inside at = absurd (omega arith)
first_some-nowhere (Some x ∷ os) k refusal first inside at = cc
first_some-nowhere (None ∷ os) zero refusal first inside at = cc
first_some-nowhere (None ∷ os) (suc k) refusal first inside at = first_some-nowhere os k refusal first (omega arith) at

-- a front of what is numbered is
numbered-front : (number : ℕ) (os ps : List (Option Refusal)) → AreNumbered number (os ++ ps) → AreNumbered number os
numbered-front number [] ps are = tt
numbered-front number (o ∷ os) ps are = (are.0, numbered-front (suc number) os ps are.1)

-- where the first that is there has a number behind a list, none is there in the list
none-below : (number : ℕ) (os ps : List (Option Refusal)) (refusal : Refusal) → AreNumbered number os → first_some (os ++ ps) ≡ Some refusal → number + length os ≤ code_of refusal → AreNone os
none-below number [] ps refusal are first above = tt
none-below number (Some x ∷ os) ps refusal are first above = absurd (omega (arith, above, numbered number (Some x) refusal are.0 first))
none-below number (None ∷ os) ps refusal are first above = (refl, none-below (suc number) os ps refusal are.1 first (omega (arith, above)))

-- a command that is refused for a supply meets no refusal with a lower number
pub earlier-of-supply : (q : Question) (supplied : ℕ) → verdict q ≡ Some (SupplyLimit supplied) → AreNone (earlier q)
unfolding verdict
earlier-of-supply q supplied is = none-below 5 (earlier q) (last q) (SupplyLimit supplied) (numbered-front 5 (earlier q) (last q) (refusals-numbered q)) is (omega arith)
