-- The open orders of markets: what a command does to them, and their offers.
use Rattle.std.proofs.Common.{◌≡◌, ℕ, suc, ◌+◌, ◌<◌, ◌≤◌, Bool, true, false, cond, List, [], ◌∷◌, ◌++◌, length, take, drop, Option, Some, None, refl, sym, ap, subst, ◌∙◌, arith, length-append, append-nil, append_assoc, take-append-drop}
use Rattle.std.specs.Prelude.{◌==◌, ◌&&◌, ◌||◌, not, All, filter, nat_lt, option_map, slice_get, sum_by}
use Rattle.std.specs.List.{flat_map}
use Rattle.std.proofs.lemmas.Bool.{and_parts, cond-false, lt-ltb, ltb-true, or_parts}
use Rattle.std.proofs.lemmas.List.{get_or_at, take_more}
use Rattle.std.proofs.lemmas.List.Concat.{flat_map-append}
use Rattle.std.proofs.lemmas.List.Elements.{All-append, All-cons, All-head, All-nil, All-tail, All-weaker}
use Rattle.std.proofs.lemmas.List.Sums.{sum_by-cons}
use Rattle.std.proofs.lemmas.Option.{cond_some, get_or_from_slice_get, slice_get-get_or, slice_get_within}
use Rattle.book_shelves.specs.Shelves.{BookView, IsAscending}
use Rattle.book_shelves.specs.declared.offer.Offer.{Offer}
use Rattle.command_words.specs.declared.act.Act.{Act}
use Rattle.command_words.specs.declared.command.Command.{Command}
use Rattle.command_words.specs.declared.command.Command.TheVariants.{Cancel, Match, Lapse}
use Rattle.condition_sets.specs.declared.names.TheConstants.{MAX_CONDITION}
use Rattle.order_table.specs.Orders.{OrderView, is_open, is_open_in, open_in, state_of}
use Rattle.order_table.specs.declared.order.OrderState.{OrderState}
use Rattle.order_table.specs.declared.order.Placed.{Placed}
use Rattle.settle_core.specs.Offers.{offer_at, offer_by, offer_of}
use Rattle.settle_core.specs.OrderRules.{has_expired, is_live, orders_changed}
use Rattle.settle_core.specs.Orders.{ends, fill_of, filled, filled_by, is_ended, nonce, order_state, orders, orders_from, placed}
use Rattle.settle_core.specs.Placing.{placed_by}
use Rattle.settle_core.specs.Snapshots.{offer_here, offers_from, snapshot}
use Rattle.settle_core.proofs.Histories.{placed-more}
use Rattle.settle_core.proofs.Trading.{ended-more, filled-more, orders-append, same-from}
use Rattle.ledger_lock.specs.Books.{IsNext, is_named, is_open_of, is_shut_of, listed, offered, offers_of, open_from, open_orders, orders_in, struck}

-- ---- the open ones of some orders

-- those of some, and of others behind them
open-append : (market n : ℕ) (xs ys : List OrderView) → open_from market n (xs ++ ys) ≡ open_from market n xs ++ open_from market (n + length xs) ys
open-append market n [] ys = ap (λ (m : ℕ). open_from market m ys) (omega arith)
open-append market n (x ∷ xs) ys =
    let here : List ℕ = cond (is_open_in market x) (n ∷ []) [] in
    let next : suc n + length xs ≡ n + length (x ∷ xs) = omega arith in
    ap (λ (more : List ℕ). here ++ more) (open-append market (suc n) xs ys ∙ ap (λ (m : ℕ). open_from market (suc n) xs ++ open_from market m ys) next)
    ∙ sym (append_assoc here (open_from market (suc n) xs) (open_from market (n + length (x ∷ xs)) ys))

-- one more
open-push : (market : ℕ) (xs : List OrderView) (x : OrderView) → open_from market 0 (xs ++ x ∷ []) ≡ open_from market 0 xs ++ cond (is_open_in market x) (length xs ∷ []) []
open-push market xs x =
    let place : 0 + length xs ≡ length xs = omega arith in
    open-append market 0 xs (x ∷ []) ∙ ap (λ (m : ℕ). open_from market 0 xs ++ (cond (is_open_in market x) (m ∷ []) [] ++ [])) place
    ∙ ap (λ (more : List ℕ). open_from market 0 xs ++ more) (append-nil (cond (is_open_in market x) (length xs ∷ []) []))

-- as many as are counted
pub open-length : (market n : ℕ) (os : List OrderView) → length (open_from market n os) ≡ open_in os market
open-length market n [] = refl
open-length market n (o ∷ os) =
    omega (arith, length-append (cond (is_open_in market o) (n ∷ []) []) (open_from market (suc n) os), one (is_open_in market o), open-length market (suc n) os, sum_by-cons (λ (x : OrderView). cond (is_open_in market x) 1 0) o os)
  where
    one : (b : Bool) → length (cond b (n ∷ []) []) ≡ cond b 1 0
    one true = refl
    one false = refl

-- by ascending numbers
open-above : (market n : ℕ) (os : List OrderView) → All (λ m. n ≤ m) (open_from market n os)
open-above market n [] = All-nil (λ m. n ≤ m)
open-above market n (o ∷ os) = by (is_open_in market o) (All-weaker (λ m. suc n ≤ m) (λ m. n ≤ m) (λ m above. omega (arith, above)) (open_from market (suc n) os) (open-above market (suc n) os))
  where
    by : (b : Bool) → All (λ m. n ≤ m) (open_from market (suc n) os) → All (λ m. n ≤ m) (cond b (n ∷ []) [] ++ open_from market (suc n) os)
    by true rest = All-cons (λ m. n ≤ m) n (open_from market (suc n) os) (omega arith) rest
    by false rest = rest

pub open-ascends : (market n : ℕ) (os : List OrderView) → IsAscending (open_from market n os)
open-ascends market n [] = tt
open-ascends market n (o ∷ os) = by (is_open_in market o) (open-ascends market (suc n) os)
  where
    by : (b : Bool) → IsAscending (open_from market (suc n) os) → IsAscending (cond b (n ∷ []) [] ++ open_from market (suc n) os)
    by true rest = (All-weaker (λ m. suc n ≤ m) (λ m. n < m) (λ m above. omega (arith, above)) (open_from market (suc n) os) (open-above market (suc n) os), rest)
    by false rest = rest

-- those before a number are below it
pub below : (xs : List ℕ) (o : ℕ) (more : List ℕ) → IsAscending ((xs ++ o ∷ []) ++ more) → All (λ n. n < o) xs
below [] o more ascends = All-nil (λ n. n < o)
below (x ∷ xs) o more ascends = All-cons (λ n. n < o) x xs (there xs ascends.0) (below xs o more ascends.1)
  where
    there : (ys : List ℕ) → All (λ m. x < m) ((ys ++ o ∷ []) ++ more) → x < o
    there [] above = All-head (λ m. x < m) o more above
    there (y ∷ ys) above = there ys (All-tail (λ m. x < m) y ((ys ++ o ∷ []) ++ more) above)

-- a number more of some
taken-more : (ns : List ℕ) (place n : ℕ) → slice_get ns place ≡ Some n → take (place + 1) ns ≡ take place ns ++ n ∷ []
taken-more ns place n at = take_more ns place n (slice_get_within ns place n at) ∙ ap (λ m. take place ns ++ m ∷ []) (get_or_from_slice_get ns place n n at)

-- ---- orders that close

pub or-false : (b : Bool) → (b || false) ≡ b
or-false true = refl
or-false false = refl

-- an order that a command doesn't name stays as it is
unfilled : (o : ℕ) (ns : List (ℕ × ℕ)) → is_named ns o ≡ false → sum_by (fill_of o) ns ≡ 0
unfilled o [] none = refl
unfilled o (n ∷ ns) none =
    let parts = or_parts (n.0 == o) (is_named ns o) none in
    omega (arith, sum_by-cons (fill_of o) n ns, cond-false (n.0 == o) n.1 0 parts.0, unfilled o ns parts.1)

unnamed : (o : ℕ) (command : Command) → is_named (orders_changed command) o ≡ false → (filled_by o command ≡ 0) × (ends o command ≡ false)
unnamed o (Cancel order) none = (refl, (or_parts (order == o) false none).0)
unnamed o (Lapse order) none = (refl, (or_parts (order == o) false none).0)
unnamed o (Match taker fill makers) none = (sym (sum_by-cons (fill_of o) (taker, fill) makers) ∙ unfilled o ((taker, fill) ∷ makers) none, refl)
unnamed o command none = (refl, refl)

-- an order that is open was open before
was-open : (making filled more : ℕ) (ended ends : Bool) → (not (ended || ends) && nat_lt (filled + more) making) ≡ true → (not ended && nat_lt filled making) ≡ true
was-open making filled more true ends is = is
was-open making filled more false ends is =
    let fits = ltb-true (filled + more) making (and_parts (not ends) (nat_lt (filled + more) making) is).1 in
    lt-ltb filled making (omega (arith, fits))

-- it is an open one of a market where it was one, and isn't closed by its name
still-open : (was now named here : Bool) → (now ≡ true → was ≡ true) → (named ≡ false → now ≡ was) → (now && here) ≡ ((was && here) && not (named && (not now && here)))
still-open was now named here opened same = grind arith

-- what a filter keeps of one that may stand first
kept-front : (keep : ℕ → Bool) (b : Bool) (n : ℕ) (rest : List ℕ) → filter keep (cond b (n ∷ []) [] ++ rest) ≡ cond (b && keep n) (n ∷ []) [] ++ filter keep rest
kept-front keep false n rest = refl
kept-front keep true n rest = by (keep n)
  where
    by : (k : Bool) → cond k (n ∷ filter keep rest) (filter keep rest) ≡ cond k (n ∷ []) [] ++ filter keep rest
    by true = refl
    by false = refl

-- the open ones of some orders, and those that stay open
closed-from : (before : List Act) (act : Act) (market : ℕ) (shut : ℕ → Bool) (n : ℕ) (ps : List Placed)
    → ((o k : ℕ) (v : OrderView) → o ≡ n + k → slice_get (orders_from (before ++ act ∷ []) n ps) k ≡ Some v → shut o ≡ (not (is_open v) && (v.placed.market == market)))
    → open_from market n (orders_from (before ++ act ∷ []) n ps) ≡ filter (λ o. not (is_named (orders_changed act.command) o && shut o)) (open_from market n (orders_from before n ps))
closed-from before act market shut n [] says = refl
closed-from before act market shut n (p ∷ ps) says =
    let after : List Act = before ++ act ∷ [] in
    let keep : ℕ → Bool = λ o. not (is_named (orders_changed act.command) o && shut o) in
    let was : OrderView = record { placed = p; filled = filled before n; ended = is_ended before n } in
    let now : OrderView = record { placed = p; filled = filled after n; ended = is_ended after n } in
    let is : is_open now ≡ (not (is_ended before n || ends n act.command) && nat_lt (filled before n + filled_by n act.command) p.limit.making) =
    λ i. not (ended-more before act n i) && nat_lt (filled-more before act n i) p.limit.making in
    let opened : is_open now ≡ true → is_open was ≡ true = λ e. was-open p.limit.making (filled before n) (filled_by n act.command) (is_ended before n) (ends n act.command) (sym is ∙ e) in
    let same : is_named (orders_changed act.command) n ≡ false → is_open now ≡ is_open was = λ none. is ∙ alike (unnamed n act.command none) in
    let here : is_open_in market now ≡ (is_open_in market was && keep n) =
    still-open (is_open was) (is_open now) (is_named (orders_changed act.command) n) (p.market == market) opened same
    ∙ ap (λ b. is_open_in market was && not (is_named (orders_changed act.command) n && b)) (sym (says n 0 now (omega arith) refl)) in
    let rest = closed-from before act market shut (suc n) ps (λ o k v place at. says o (suc k) v (omega (arith, place)) at) in
    (λ i. cond (here i) (n ∷ []) [] ++ rest i) ∙ sym (kept-front keep (is_open_in market was) n (open_from market (suc n) (orders_from before (suc n) ps)))
  where
    alike : (filled_by n act.command ≡ 0) × (ends n act.command ≡ false)
        → (not (is_ended before n || ends n act.command) && nat_lt (filled before n + filled_by n act.command) p.limit.making) ≡ (not (is_ended before n) && nat_lt (filled before n) p.limit.making)
    alike none =
        let fills : filled before n + filled_by n act.command ≡ filled before n = omega (arith, none.0) in
        let ended : (is_ended before n || ends n act.command) ≡ is_ended before n = ap (λ b. is_ended before n || b) none.1 ∙ or-false (is_ended before n) in
        λ i. not (ended i) && nat_lt (fills i) p.limit.making

-- the open orders of a market after a command that places none
pub closed-more : (before : List Act) (act : Act) (market : ℕ) → placed_by act.account act.command ≡ []
    → open_orders (before ++ act ∷ []) market ≡ struck (order_state (before ++ act ∷ [])) market (is_named (orders_changed act.command)) (open_orders before market)
closed-more before act market none =
    ap (λ (ps : List Placed). open_from market 0 (orders_from after 0 ps)) same ∙ closed-from before act market (λ o. is_shut_of market (order_state after o)) 0 (placed before) says
  where
    after : List Act
    after = before ++ act ∷ []

    same : placed after ≡ placed before
    same = placed-more before act ∙ (ap (λ (more : List Placed). placed before ++ more) none ∙ append-nil (placed before))

    says : (o k : ℕ) (v : OrderView) → o ≡ 0 + k → slice_get (orders_from after 0 (placed before)) k ≡ Some v → is_shut_of market (order_state after o) ≡ (not (is_open v) && (v.placed.market == market))
    says o k v place at =
        let number : o ≡ k = omega (arith, place) in
        let here : slice_get (orders after) o ≡ Some v = (λ i. slice_get (orders_from after 0 (same i)) (number i)) ∙ at in
        ap (λ (found : Option OrderView). is_shut_of market (option_map state_of found)) here

-- ---- an order more

-- it is the last of the orders
pub record IsPlaced (before : List Act) (act : Act) (p : Placed) (order : OrderView) : Type 0 where
  pub placed : order.placed ≡ p
  pub orders : orders (before ++ act ∷ []) ≡ orders before ++ order ∷ []

-- a command places one
pub placed-one : (before : List Act) (act : Act) (p : Placed) → placed_by act.account act.command ≡ p ∷ [] → ((o : ℕ) → (filled_by o act.command ≡ 0) × (ends o act.command ≡ false))
    → (order : OrderView) × IsPlaced before act p order
placed-one before act p one none =
    let n = 0 + length (placed before) in (
      record { placed = p; filled = filled after n; ended = is_ended after n },
      record {
        placed = refl;
        orders = ap (orders_from after 0) (placed-more before act ∙ ap (λ (more : List Placed). placed before ++ more) one)
            ∙ (orders-append after 0 (placed before) (p ∷ []) ∙ ap (λ (os : List OrderView). os ++ orders_from after n (p ∷ [])) same);
      },
    )
  where
    after : List Act
    after = before ++ act ∷ []

    same : orders_from after 0 (placed before) ≡ orders before
    same = same-from before after 0 (placed before) (λ o past. (
      omega (arith, filled-more before act o, (none o).0),
      ended-more before act o ∙ (ap (λ b. is_ended before o || b) (none o).1 ∙ or-false (is_ended before o)),
    ))

-- what is known of an order that stands among others
pub state-at : (history : List Act) (os : List OrderView) (order : OrderView) (rest : List OrderView) → orders history ≡ os ++ order ∷ rest → order_state history (length os) ≡ Some (state_of order)
state-at history os order rest all =
    let inside : length os < length (os ++ order ∷ rest) = omega (arith, length-append os (order ∷ rest)) in
    ap (λ (xs : List OrderView). option_map state_of (slice_get xs (length os))) all
    ∙ ap (option_map state_of) (slice_get-get_or (os ++ order ∷ rest) (length os) order inside ∙ ap (λ (o : OrderView). Some o) (get_or_at os order rest order (length os) refl))

-- books of the open ones of those before it list it next
pub listed-next : (history : List Act) (os : List OrderView) (order : OrderView) (rest : List OrderView) (market : ℕ) → orders history ≡ os ++ order ∷ rest
    → listed (order_state history) market (length os) (open_from market 0 os) ≡ open_from market 0 (os ++ order ∷ [])
listed-next history os order rest market all =
    ap (λ (found : Option OrderState). open_from market 0 os ++ cond (is_open_of market found) (length os ∷ []) []) (state-at history os order rest all) ∙ sym (open-push market os order)

pub is-next : (history : List Act) (os : List OrderView) (order : OrderView) (rest : List OrderView) (books : List BookView) → orders history ≡ os ++ order ∷ rest
    → ((market : ℕ) → market ≤ MAX_CONDITION → orders_in books market ≡ open_from market 0 os) → IsNext history (length os) books
is-next history os order rest books all are market inside = (
  open_from market (0 + length (os ++ order ∷ [])) rest,
  ap (open_from market 0) (all ∙ sym (append_assoc os (order ∷ []) rest)) ∙ (open-append market 0 (os ++ order ∷ []) rest
      ∙ ap (λ (book : List ℕ). book ++ open_from market (0 + length (os ++ order ∷ [])) rest)
      (sym (listed-next history os order rest market all) ∙ ap (listed (order_state history) market (length os)) (sym (are market inside)))),
)

-- ---- the offers of some orders

-- an order's offer in a snapshot, as it is read of its number
offers-here : (offers : ℕ → List Offer) (nonces : ℕ → ℕ) (now market n : ℕ) (order : OrderView) → offers n ≡ offered (offer_by nonces now n (Some (state_of order)))
    → offer_here nonces now market n (state_of order) ≡ flat_map offers (cond (is_open_in market order) (n ∷ []) [])
offers-here offers nonces now market n order is =
    by (is_open order) (order.placed.market == market) (not (has_expired order.placed.expires now) && (order.placed.nonce == nonces order.placed.account)) is
  where
    by : (opened here live : Bool) → offers n ≡ offered (cond (opened && live) (Some (offer_of n (state_of order))) None)
        → cond (here && (opened && live)) (offer_of n (state_of order) ∷ []) [] ≡ flat_map offers (cond (opened && here) (n ∷ []) [])
    by true true true is = sym (append-nil (offers n) ∙ is)
    by true true false is = sym (append-nil (offers n) ∙ is)
    by true false live is = refl
    by false true live is = refl
    by false false live is = refl

-- those of some orders
offers-from : (offers : ℕ → List Offer) (nonces : ℕ → ℕ) (now market n : ℕ) (os : List OrderView)
    → ((o k : ℕ) (v : OrderView) → o ≡ n + k → slice_get os k ≡ Some v → offers o ≡ offered (offer_by nonces now o (Some (state_of v)))) → offers_from nonces now market n os ≡ flat_map offers (open_from market n os)
offers-from offers nonces now market n [] says = refl
offers-from offers nonces now market n (o ∷ os) says =
    let here = offers-here offers nonces now market n o (says n 0 o (omega arith) refl) in
    let rest = offers-from offers nonces now market (suc n) os (λ m k v place at. says m (suc k) v (omega (arith, place)) at) in
    (λ i. here i ++ rest i) ∙ sym (flat_map-append offers (cond (is_open_in market o) (n ∷ []) []) (open_from market (suc n) os))

pub snapshot-offers : (history : List Act) (market now : ℕ) → snapshot history market now ≡ offers_of (offer_at history now) (open_orders history market)
snapshot-offers history market now = offers-from (λ n. offered (offer_at history now n)) (nonce history) now market 0 (orders history) says
  where
    says : (o k : ℕ) (v : OrderView) → o ≡ 0 + k → slice_get (orders history) k ≡ Some v → offered (offer_at history now o) ≡ offered (offer_by (nonce history) now o (Some (state_of v)))
    says o k v place at =
        let number : o ≡ k = omega (arith, place) in
        ap (λ (found : Option OrderView). offered (offer_by (nonce history) now o (option_map state_of found))) (ap (slice_get (orders history)) number ∙ at)

-- an offer is of the order that it is read of
offer-order : (history : List Act) (now n : ℕ) (offer : Offer) → offer_at history now n ≡ Some offer → offer.order ≡ n
offer-order history now n offer at = by (order_state history n) at
  where
    by : (found : Option OrderState) → offer_by (nonce history) now n found ≡ Some offer → offer.order ≡ n
    by None at = cc
    by (Some order) at = sym (ap (λ (x : Offer). x.order) (cond_some (is_live (nonce history) now order) (offer_of n order) offer at).1)

-- the offers of orders below a number are of lower numbers
offers-below : (history : List Act) (now n : ℕ) (ns : List ℕ) → All (λ m. m < n) ns → All (λ (offer : Offer). offer.order < n) (offers_of (offer_at history now) ns)
offers-below history now n [] above = All-nil (λ (offer : Offer). offer.order < n)
offers-below history now n (m ∷ ms) above =
    All-append (λ (offer : Offer). offer.order < n) (offered (offer_at history now m)) (offers_of (offer_at history now) ms)
    (by (offer_at history now m) refl) (offers-below history now n ms (All-tail (λ m. m < n) m ms above))
  where
    by : (found : Option Offer) → offer_at history now m ≡ found → All (λ (offer : Offer). offer.order < n) (offered found)
    by None at = All-nil (λ (offer : Offer). offer.order < n)
    by (Some offer) at = All-cons (λ (x : Offer). x.order < n) offer [] (omega (arith, offer-order history now m offer at, All-head (λ m. m < n) m ms above)) (All-nil (λ (x : Offer). x.order < n))

-- the next order's offer is above those of the orders before it
pub offers-above : (history : List Act) (now : ℕ) (ns : List ℕ) (place n : ℕ) (offer : Offer) (so_far : List Offer) → so_far ≡ offers_of (offer_at history now) (take place ns) → slice_get ns place ≡ Some n → IsAscending ns → Some offer ≡ offer_at history now n
    → All (λ before. before.order < offer.order) so_far
offers-above history now ns place n offer so_far is at ascends says =
    subst (All (λ (before : Offer). before.order < offer.order)) (sym is)
    (subst (λ (m : ℕ). All (λ (before : Offer). before.order < m) (offers_of (offer_at history now) (take place ns))) (sym (offer-order history now n offer (sym says)))
    (offers-below history now n (take place ns) (below (take place ns) n (drop (place + 1) ns) (subst IsAscending split ascends))))
  where
    split : ns ≡ (take place ns ++ n ∷ []) ++ drop (place + 1) ns
    split = sym (take-append-drop (place + 1) ns) ∙ ap (λ (xs : List ℕ). xs ++ drop (place + 1) ns) (taken-more ns place n at)

-- and stands behind theirs, where it is offered
pub offers-more : (known : ℕ → Option Offer) (ns : List ℕ) (place n : ℕ) (offers : List Offer) → slice_get ns place ≡ Some n → offers ≡ offers_of known (take place ns) → offers ++ offered (known n) ≡ offers_of known (take (place + 1) ns)
offers-more known ns place n offers at is =
    ap (λ (xs : List Offer). xs ++ offered (known n)) is ∙ sym (ap (offers_of known) (taken-more ns place n at)
    ∙ (flat_map-append (λ m. offered (known m)) (take place ns) (n ∷ []) ∙ ap (λ (xs : List Offer). offers_of known (take place ns) ++ xs) (append-nil (offered (known n)))))
