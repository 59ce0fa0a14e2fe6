-- Why a command is refused for the orders that it names. A rule looks at one order; the first order that it refuses is told
-- by its place. Of a match the taker is at place 0, and the makers are at 1, 2 and so on.
-- Source: Polymarket CTF Exchange, first published source, of crossing; the refusals are this project's own.
use Rattle.std.specs.Prelude.{◌==◌, ℕ, suc, ◌-◌, ◌&&◌, ◌||◌, Bool, false, not, nat_le, nat_lt, if◌then◌else◌, List, [], ◌∷◌, ◌++◌, Option, Some, None, is_none}
use Rattle.std.specs.List.{list_any}
use Rattle.book_propose.specs.Candidates.{is_crossing}
use Rattle.collection_keys.specs.Collections.{Pairs}
use Rattle.command_words.specs.declared.command.Command.{Command}
use Rattle.command_words.specs.declared.command.Command.TheVariants.{Cancel, Match, Lapse, Order}
use Rattle.command_words.specs.declared.refusal.Refusal.{Refusal}
use Rattle.command_words.specs.declared.refusal.Refusal.TheVariants.{NoOrder, NotOpen, OrderExpired, NonceOld, SelfMatch, RepeatedOrder, WrongPair, NotCrossing, Overfill, Funded}
use Rattle.match_kinds.specs.Matching.{pays_in}
use Rattle.order_rules.specs.Kinds.{kind_of}
use Rattle.order_rules.specs.Orders.{Terms}
use Rattle.order_rules.specs.Prices.{price_of}
use Rattle.order_rules.specs.declared.kinds.MatchKind.{MatchKind}
use Rattle.order_table.specs.declared.order.OrderState.{OrderState}
use Rattle.order_table.specs.declared.order.Placed.{Placed}

-- the refusal, where its condition holds
abbrev pub where_ : Bool → Refusal → Option Refusal
where_ holds refusal = if holds then Some refusal else None

abbrev pub or_else : Option Refusal → Option Refusal → Option Refusal
or_else None other = other
or_else (Some refusal) other = Some refusal

-- ---- the orders that a command names

-- those that a command ends or fills, each with its fill, where it has one
abbrev pub orders_changed : Command → List (ℕ × ℕ)
orders_changed (Cancel order) = (order, 0) ∷ []
orders_changed (Match taker fill makers) = (taker, fill) ∷ makers
orders_changed (Lapse order) = (order, 0) ∷ []
orders_changed command = []

-- and those that it names
abbrev pub orders_named : Command → List (ℕ × ℕ)
orders_named (Order order) = (order, 0) ∷ []
orders_named command = orders_changed command

-- those of a match
abbrev pub orders_matched : Command → List (ℕ × ℕ)
orders_matched (Match taker fill makers) = (taker, fill) ∷ makers
orders_matched command = []

-- ---- rules on one order

-- What a rule says of the first order that it refuses, counted from a place on; what is known of an order is told by its
-- number. It says nothing of an order that was never placed.
abbrev pub by_rule : (ℕ → ℕ → OrderState → Option Refusal) → ℕ → ℕ → Option OrderState → Option Refusal
by_rule rule place fill None = None
by_rule rule place fill (Some order) = rule place fill order

abbrev pub at_first : (ℕ → Option OrderState) → (ℕ → ℕ → OrderState → Option Refusal) → ℕ → List (ℕ × ℕ) → Option Refusal
at_first known rule place [] = None
at_first known rule place (n ∷ ns) = or_else (by_rule rule place n.1 (known n.0)) (at_first known rule (suc place) ns)

-- an order was never placed
abbrev pub never_placed : (ℕ → Option OrderState) → ℕ → List (ℕ × ℕ) → Option Refusal
never_placed known place [] = None
never_placed known place (n ∷ ns) = or_else (where_ (is_none (known n.0)) (NoOrder place)) (never_placed known (suc place) ns)

-- it is ended or filled
abbrev pub shut : ℕ → ℕ → OrderState → Option Refusal
shut place fill order = where_ (not order.is_open) (NotOpen order.filled place)

-- it counts until a moment that is over; 0 is for ever
abbrev pub has_expired : ℕ → ℕ → Bool
has_expired expires now = not (expires == 0) && nat_lt expires now

abbrev pub expired : ℕ → ℕ → ℕ → OrderState → Option Refusal
expired now place fill order = where_ (has_expired order.placed.expires now) (OrderExpired place)

-- its nonce isn't its maker's present one
abbrev pub outdated : (ℕ → ℕ) → ℕ → ℕ → OrderState → Option Refusal
outdated nonces place fill order = where_ (not (order.placed.nonce == nonces order.placed.account)) (NonceOld (nonces order.placed.account) place)

-- what is left of it is less than its fill
abbrev pub rest_of : OrderState → ℕ
rest_of order = order.placed.limit.making - order.filled

abbrev pub overfilled : ℕ → ℕ → OrderState → Option Refusal
overfilled place fill order = where_ (nat_lt (rest_of order) fill) (Overfill place (rest_of order))

-- ---- rules on a maker of a match, by its taker

-- it is of the taker's account
abbrev pub own : Placed → ℕ → ℕ → OrderState → Option Refusal
own taker place fill order = where_ (order.placed.account == taker.account) (SelfMatch place)

-- it is of another market, or can't be matched with the taker
abbrev pub kind_with : Placed → Placed → Option MatchKind
kind_with taker maker = kind_of taker.limit.side taker.token maker.limit.side maker.token

abbrev pub unpaired : Placed → ℕ → ℕ → OrderState → Option Refusal
unpaired taker place fill order = where_ (not (order.placed.market == taker.market) || is_none (kind_with taker order.placed)) (WrongPair place)

-- the prices of the two don't cross
abbrev pub is_apart : Option MatchKind → Terms → Terms → Bool
is_apart None taker maker = false
is_apart (Some kind) taker maker = not (is_crossing kind taker maker)

abbrev pub uncrossed : Placed → ℕ → ℕ → OrderState → Option Refusal
uncrossed taker place fill order =
    where_ (is_apart (kind_with taker order.placed) taker.limit order.placed.limit) (NotCrossing (price_of order.placed.limit) place (price_of taker.limit))

-- what such a rule says of a match
abbrev pub by_taker : (ℕ → Option OrderState) → (Placed → ℕ → ℕ → OrderState → Option Refusal) → Option OrderState → List (ℕ × ℕ) → Option Refusal
by_taker known rule None makers = None
by_taker known rule (Some taker) makers = at_first known (rule taker.placed) 1 makers

abbrev pub of_makers : (ℕ → Option OrderState) → (Placed → ℕ → ℕ → OrderState → Option Refusal) → Command → Option Refusal
of_makers known rule (Match taker fill makers) = by_taker known rule (known taker) makers
of_makers known rule command = None

-- an order is named at an earlier maker's place
abbrev pub repeated_from : List (ℕ × ℕ) → ℕ → List (ℕ × ℕ) → Option Refusal
repeated_from earlier place [] = None
repeated_from earlier place (n ∷ ns) = or_else (where_ (list_any (λ e. e.0 == n.0) earlier) (RepeatedOrder place)) (repeated_from (earlier ++ n ∷ []) (suc place) ns)

abbrev pub repeats : Command → Option Refusal
repeats (Match taker fill makers) = repeated_from [] 1 makers
repeats command = None

-- ---- live orders

-- an order is live at a moment where it is open, hasn't expired, and its nonce is its maker's present one
abbrev pub is_live : (ℕ → ℕ) → ℕ → OrderState → Bool
is_live nonces now order = order.is_open && (not (has_expired order.placed.expires now) && (order.placed.nonce == nonces order.placed.account))

-- the collection that an order pays
abbrev pub paid_by : Placed → Pairs
paid_by order = pays_in order.market order.limit.side order.token

-- an order doesn't lapse while it is live and its maker has what is left of it; it tells what the maker has
abbrev pub still_paid : (ℕ → ℕ) → ℕ → (ℕ → Pairs → ℕ) → Option OrderState → Option Refusal
still_paid nonces now held None = None
still_paid nonces now held (Some order) =
    where_ (is_live nonces now order && nat_le (rest_of order) (held order.placed.account (paid_by order.placed))) (Funded (held order.placed.account (paid_by order.placed)))

abbrev pub still_funded_by : (ℕ → Option OrderState) → (ℕ → ℕ) → ℕ → (ℕ → Pairs → ℕ) → Command → Option Refusal
still_funded_by known nonces now held (Lapse order) = still_paid nonces now held (known order)
still_funded_by known nonces now held command = None

-- ---- a match

-- the refusals of a match for its orders
abbrev pub match_refusals : (ℕ → Option OrderState) → (ℕ → ℕ) → ℕ → ℕ → ℕ → List (ℕ × ℕ) → List (Option Refusal)
match_refusals known nonces now taker fill makers =
    never_placed known 0 ((taker, fill) ∷ makers)
    ∷ at_first known shut 0 ((taker, fill) ∷ makers)
    ∷ at_first known (expired now) 0 ((taker, fill) ∷ makers)
    ∷ at_first known (outdated nonces) 0 ((taker, fill) ∷ makers)
    ∷ by_taker known own (known taker) makers
    ∷ repeated_from [] 1 makers
    ∷ by_taker known unpaired (known taker) makers
    ∷ by_taker known uncrossed (known taker) makers
    ∷ at_first known overfilled 0 ((taker, fill) ∷ makers) ∷ []
