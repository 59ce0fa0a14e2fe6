-- The books of markets: an order that is listed, orders that are struck, and what they have after an act.
use Rattle.std.proofs.Common.{◌≡◌, ◌≢◌, ◌⊎◌, ℕ, ◌+◌, ◌<◌, ◌≤◌, Bool, true, false, cond, List, [], ◌∷◌, ◌++◌, length, take, drop, get_or, Option, Some, None, refl, sym, ap, subst, ◌∙◌, arith, inl, inr, length-append, take-append-drop}
use Rattle.std.specs.Prelude.{◌==◌, ◌&&◌, ◌||◌, not, All, filter, option_map, slice_get, slice_index_or, slice_set}
use Rattle.std.proofs.lemmas.Bool.{cases_eq, eqb-true}
use Rattle.std.proofs.lemmas.Bool.Decides.{nat_tests}
use Rattle.std.proofs.lemmas.List.{drop_more, get_or-set_other, get_or-set_same, get_or_read, length-take-le, length_push, take_more}
use Rattle.std.proofs.lemmas.List.Elements.{filter_agree}
use Rattle.std.proofs.lemmas.List.Folds.{list_any_more}
use Rattle.std.proofs.lemmas.Option.{same_Some, slice_get_cases}
use Rattle.book_shelves.specs.Shelves.{BookView, IsAscending, without}
use Rattle.command_words.specs.declared.act.Act.{Act}
use Rattle.command_words.specs.declared.command.Command.{Command}
use Rattle.command_words.specs.declared.command.Command.TheVariants.{Place, Cancel, Match, Lapse}
use Rattle.order_rules.specs.declared.side.Side.{Side}
use Rattle.condition_sets.specs.declared.names.TheConstants.{MAX_CONDITION}
use Rattle.order_table.specs.Orders.{OrderView, open_in, state_of}
use Rattle.order_table.specs.declared.order.OrderState.{OrderState}
use Rattle.order_table.specs.declared.order.Placed.{Placed}
use Rattle.settle_core.specs.Bounds.{Bounds}
use Rattle.settle_core.specs.Offers.{facts_of}
use Rattle.settle_core.specs.OrderRules.{orders_changed}
use Rattle.settle_core.specs.Orders.{ends, filled_by, is_place, order_state, orders}
use Rattle.settle_core.specs.Placing.{placed_by}
use Rattle.settle_core.specs.declared.orders.OrderFacts.{OrderFacts}
use Rattle.ledger_lock.specs.Books.{AreBehind, AreBooks, AreBooksOf, HasRoom, IsNext, book_of, is_named, is_open_of, is_shut_of, listed, open_from, open_orders, orders_in, struck}
use Rattle.ledger_lock.proofs.OpenOrders.{below, closed-more, is-next, listed-next, open-ascends, open-length, or-false, placed-one, state-at}

-- ---- the books, of which one is changed

-- past the last market
abbrev no_book : BookView
no_book = record { orders = []; limit = 0; room = 0 }

-- what holds of that one, and of the others as they were, holds of each
each-book : (P : ℕ → BookView → Type 0) (books : List BookView) (c : ℕ) (book : BookView) → c < length books → P c book → ((market : ℕ) → market ≢ c → P market (book_of books market))
    → (market : ℕ) → P market (book_of (slice_set books c book) market)
each-book P books c book inside here others market =
    elim (cases_eq market c) [
      | inl same ↦ subst (λ (m : ℕ). P m (book_of (slice_set books c book) m)) (sym same) (subst (P c) (sym (get_or-set_same books c book no_book inside)) here)
      | inr apart ↦ subst (P market) (sym (get_or-set_other books c market book no_book apart)) (others market apart)
    ]

-- ---- an order that is listed

-- what is told of an order says whether it is an open one of a market, or not any more
told-open : (found : Option OrderState) (facts : OrderFacts) (market : ℕ) → Some facts ≡ option_map facts_of found → is_open_of market found ≡ (facts.is_open && (facts.market == market))
told-open None facts market says = cc
told-open (Some order) facts market says = ap (λ (f : OrderFacts). f.is_open && (f.market == market)) (same_Some (facts_of order) facts (sym says))

told-shut : (found : Option OrderState) (facts : OrderFacts) (market : ℕ) → Some facts ≡ option_map facts_of found → is_shut_of market found ≡ (not facts.is_open && (facts.market == market))
told-shut None facts market says = cc
told-shut (Some order) facts market says = ap (λ (f : OrderFacts). not f.is_open && (f.market == market)) (same_Some (facts_of order) facts (sym says))

-- its book has room for it
told-room : (found : Option OrderState) (facts : OrderFacts) (books : List BookView) → Some facts ≡ option_map facts_of found → ((order : OrderState) → found ≡ Some order → 0 < (book_of books order.placed.market).room)
    → 0 < (book_of books facts.market).room
told-room None facts books says has = cc
told-room (Some order) facts books says has = subst (λ (f : OrderFacts). 0 < (book_of books f.market).room) (same_Some (facts_of order) facts (sym says)) (has order refl)

-- an order may be added to a book
pub record MayAdd (o : ℕ) (book : BookView) : Type 0 where
  pub above : All (λ n. n < o) book.orders
  pub below : length book.orders < book.limit
  pub room : 0 < book.room

pub may-add : (limits : Bounds) (history : List Act) (o i : ℕ) (books : List BookView) (facts : OrderFacts) (book : BookView) → AreBooks limits books → IsNext history o books → HasRoom history o books
    → Some facts ≡ option_map facts_of (order_state history o) → facts.is_open ≡ true → i ≡ facts.market → i ≤ MAX_CONDITION → open_in (orders history) facts.market ≤ limits.orders → book ≡ slice_index_or books i book → MayAdd o book
may-add limits history o i books facts book are next room says opened place inside few read =
    subst (MayAdd o) (sym is) (record {
      above = below (orders_in books facts.market) o (next facts.market within).0 (subst IsAscending all (open-ascends facts.market 0 (orders history)));
      below = omega (
        arith,
        are.limit facts.market within,
        few,
        open-length facts.market 0 (orders history),
        ap length all,
        length-append (orders_in books facts.market ++ o ∷ []) (next facts.market within).0,
        length_push (orders_in books facts.market) o,
      );
      room = told-room (order_state history o) facts books says room;
    })
  where
    within : facts.market ≤ MAX_CONDITION
    within = omega (arith, place, inside)

    is : book ≡ book_of books facts.market
    is = get_or_read books i book (omega (arith, are.as_many, inside)) read no_book ∙ ap (book_of books) place

    here : is_open_of facts.market (order_state history o) ≡ true
    here = told-open (order_state history o) facts facts.market says ∙ grind (arith, nat_tests)

    all : open_orders history facts.market ≡ (orders_in books facts.market ++ o ∷ []) ++ (next facts.market within).0
    all = (next facts.market within).1 ∙ ap (λ b. (orders_in books facts.market ++ cond b (o ∷ []) []) ++ (next facts.market within).0) here

-- ---- orders that are struck

-- a filter that keeps all, and one behind another
filter-all : (keep : ℕ → Bool) → ((n : ℕ) → keep n ≡ true) → (ns : List ℕ) → filter keep ns ≡ ns
filter-all keep all [] = refl
filter-all keep all (n ∷ ns) = rw (all n, filter-all keep all ns) refl

filter-filter : (first second both : ℕ → Bool) → ((n : ℕ) → both n ≡ (first n && second n)) → (ns : List ℕ) → filter second (filter first ns) ≡ filter both ns
filter-filter first second both is [] = refl
filter-filter first second both is (n ∷ ns) = by (first n) (filter-filter first second both is ns) ∙ ap (λ b. cond b (n ∷ filter both ns) (filter both ns)) (sym (is n))
  where
    by : (b : Bool) → filter second (filter first ns) ≡ filter both ns → filter second (cond b (n ∷ filter first ns) (filter first ns)) ≡ cond (b && second n) (n ∷ filter both ns) (filter both ns)
    by true rest = ap (λ (ms : List ℕ). cond (second n) (n ∷ ms) ms) rest
    by false rest = rest

-- none goes where none that is named is shut
pub struck-none : (known : ℕ → Option OrderState) (market : ℕ) (named : ℕ → Bool) → ((n : ℕ) → named n ≡ true → is_shut_of market (known n) ≡ false) → (book : List ℕ) → struck known market named book ≡ book
struck-none known market named unshut = filter-all (λ n. not (named n && is_shut_of market (known n))) (λ n. by (named n) (unshut n))
  where
    by : {shut : Bool} (b : Bool) → (b ≡ true → shut ≡ false) → not (b && shut) ≡ true
    by true unshut = ap not (unshut refl)
    by false unshut = refl

-- nor where the one that is named isn't shut
struck-other : (known : ℕ → Option OrderState) (market o : ℕ) → is_shut_of market (known o) ≡ false → (book : List ℕ) → struck known market (λ n. o == n) book ≡ book
struck-other known market o unshut = struck-none known market (λ n. o == n) (λ n same. ap (λ (m : ℕ). is_shut_of market (known m)) (sym (eqb-true o n same)) ∙ unshut)

-- the one that is named goes where it is shut
struck-one : (known : ℕ → Option OrderState) (market o : ℕ) → is_shut_of market (known o) ≡ true → (book : List ℕ) → struck known market (λ n. o == n) book ≡ without o book
struck-one known market o shut = filter_agree (λ n. not ((o == n) && is_shut_of market (known n))) (λ n. not (n == o)) (λ n. by n (cases_eq o n))
  where
    by : (n : ℕ) → (o ≡ n) ⊎ (o ≢ n) → not ((o == n) && is_shut_of market (known n)) ≡ not (n == o)
    by n (inl same) = let is = ap (λ (m : ℕ). is_shut_of market (known m)) same in grind (arith, nat_tests)
    by n (inr apart) = grind (arith, nat_tests)

-- some are struck behind others
pub struck-struck : (known : ℕ → Option OrderState) (market : ℕ) (first second : ℕ → Bool) (book : List ℕ)
    → struck known market second (struck known market first book) ≡ struck known market (λ n. first n || second n) book
struck-struck known market first second =
    filter-filter (λ n. not (first n && is_shut_of market (known n))) (λ n. not (second n && is_shut_of market (known n))) (λ n. not ((first n || second n) && is_shut_of market (known n)))
    (λ n. by (first n) (second n) (is_shut_of market (known n)))
  where
    by : (a b shut : Bool) → not ((a || b) && shut) ≡ (not (a && shut) && not (b && shut))
    by true b true = refl
    by true true false = refl
    by true false false = refl
    by false b shut = refl

-- a book from which an order is taken out that isn't open any more, and the others as they were
pub struck-book : (known : ℕ → Option OrderState) (o i : ℕ) (books : List BookView) (facts : OrderFacts) (book book' : BookView) → Some facts ≡ option_map facts_of (known o) → facts.is_open ≡ false → i ≡ facts.market → i < length books
    → book ≡ slice_index_or books i book → book'.orders ≡ without o book.orders → (market : ℕ) → orders_in (slice_set books i book') market ≡ struck known market (λ n. o == n) (orders_in books market)
struck-book known o i books facts book book' says shut place inside read taken =
    each-book (λ market b. b.orders ≡ struck known market (λ n. o == n) (orders_in books market)) books i book' inside
    (taken ∙ (ap (λ (b : BookView). without o b.orders) (get_or_read books i book inside read no_book) ∙ sym (struck-one known i o here (orders_in books i))))
    (λ market apart. sym (struck-other known market o (elsewhere market apart) (orders_in books market)))
  where
    here : is_shut_of i (known o) ≡ true
    here = told-shut (known o) facts i says ∙ grind (arith, nat_tests)

    elsewhere : (market : ℕ) → market ≢ i → is_shut_of market (known o) ≡ false
    elsewhere market apart = told-shut (known o) facts market says ∙ grind (arith, nat_tests)

-- nothing is struck for an order that is open, or was never placed
pub struck-unknown : (known : ℕ → Option OrderState) (o market : ℕ) (book : List ℕ) → ◌≡◌ {A = Option OrderFacts} None (option_map facts_of (known o)) → struck known market (λ n. o == n) book ≡ book
struck-unknown known o market book says = struck-other known market o (by (known o) says) book
  where
    by : (found : Option OrderState) → ◌≡◌ {A = Option OrderFacts} None (option_map facts_of found) → is_shut_of market found ≡ false
    by None says = refl
    by (Some order) says = cc

pub struck-open : (known : ℕ → Option OrderState) (o : ℕ) (facts : OrderFacts) (market : ℕ) (book : List ℕ) → Some facts ≡ option_map facts_of (known o) → facts.is_open ≡ true → struck known market (λ n. o == n) book ≡ book
struck-open known o facts market book says opened = struck-other known market o (told-shut (known o) facts market says ∙ grind arith) book

-- an order more is named
pub struck-more : (known : ℕ → Option OrderState) (market : ℕ) (makers : List (ℕ × ℕ)) (i : ℕ) (maker : ℕ × ℕ) (book : List ℕ) → i < length makers → maker ≡ get_or makers i maker
    → struck known market (λ n. maker.0 == n) (struck known market (is_named (take i makers)) book) ≡ struck known market (is_named (take (i + 1) makers)) book
struck-more known market makers i maker book inside is =
    struck-struck known market (is_named (take i makers)) (λ n. maker.0 == n) book
    ∙ ap (λ (named : ℕ → Bool). struck known market named book) (λ k n. sym (list_any_more (λ (m : ℕ × ℕ). m.0 == n) makers i maker inside ∙ ap (λ (m : ℕ × ℕ). is_named (take i makers) n || (m.0 == n)) (sym is)) k)

-- ---- the books of all orders so far

-- an order of some, with those before it and behind it
split-at : (os : List OrderView) (n : ℕ) → n < length os → (order : OrderView) × (rest : List OrderView) × (os ≡ take n os ++ order ∷ rest) × (take (n + 1) os ≡ take n os ++ order ∷ [])
split-at os n inside = by (slice_get_cases os n).1
  where
    by : ((x : OrderView) × (n < length os) × (slice_get os n ≡ Some x) × (get_or os n x ≡ x)) ⊎ ((length os ≤ n) × (slice_get os n ≡ None)) → (order : OrderView) × (rest : List OrderView) × (os ≡ take n os ++ order ∷ rest) × (take (n + 1) os ≡ take n os ++ order ∷ [])
    by (inl found) =
        let x = found.0 in
        let here : get_or os n x ∷ drop (n + 1) os ≡ x ∷ drop (n + 1) os = ap (λ (y : OrderView). y ∷ drop (n + 1) os) found.3 in
        (x, drop (n + 1) os, sym (take-append-drop n os) ∙ ap (λ (xs : List OrderView). take n os ++ xs) (drop_more os n x inside ∙ here), take_more os n x inside ∙ ap (λ (y : OrderView). take n os ++ y ∷ []) found.3)
    by (inr past) = absurd (omega (arith, past.0, inside))

-- the next one may be listed, and the books then have one more
pub next-so_far : (history : List Act) (n : ℕ) (books : List BookView) → n < length (orders history) → ((market : ℕ) → market ≤ MAX_CONDITION → orders_in books market ≡ open_from market 0 (take n (orders history))) → IsNext history n books
next-so_far history n books inside are =
    let here = split-at (orders history) n inside in
    let as_many : length (take n (orders history)) ≡ n = length-take-le n (orders history) (omega (arith, inside)) in
    subst (λ (o : ℕ). IsNext history o books) as_many (is-next history (take n (orders history)) here.0 here.1 books here.2 are)

pub listed-so_far : (history : List Act) (n : ℕ) (market : ℕ) (book : List ℕ) → n < length (orders history) → book ≡ open_from market 0 (take n (orders history)) → listed (order_state history) market n book ≡ open_from market 0 (take (n + 1) (orders history))
listed-so_far history n market book inside is =
    let here = split-at (orders history) n inside in
    let as_many : length (take n (orders history)) ≡ n = length-take-le n (orders history) (omega (arith, inside)) in
    (λ i. listed (order_state history) market (sym as_many i) (is i)) ∙ (listed-next history (take n (orders history)) here.0 here.1 market here.2 ∙ ap (open_from market 0) (sym here.3))

-- ---- the books after an act

-- an order is the last one, and its books have all orders with it
pub record MayList (history : List Act) (o : ℕ) (books : List BookView) : Type 0 where
  pub next : IsNext history o books
  pub room : HasRoom history o books
  pub all : (market : ℕ) → market ≤ MAX_CONDITION → listed (order_state history) market o (orders_in books market) ≡ open_orders history market

-- an order was placed
pub may-list : (limits : Bounds) (history : List Act) (command : Command) (number : ℕ) (books : List BookView) → is_place command ≡ true → AreBehind limits history command number books → MayList history number books
may-list limits history (Place market set side making taking expires nonce fee) number books places behind =
    let before = behind.before in
    let more = placed-one before behind.act _ (ap (placed_by behind.act.account) behind.asked) (λ o. (ap (filled_by o) behind.asked, ap (ends o) behind.asked)) in
    let order = more.0 in
    let all : orders history ≡ orders before ++ order ∷ [] = ap orders behind.last ∙ more.1.orders in
    subst (λ (o : ℕ). MayList history o books) (sym behind.next) (record {
      next = is-next history (orders before) order [] books all behind.were.orders;
      room = λ found at.
          let same : market ≡ found.placed.market = sym (ap (λ (p : Placed). p.market) more.1.placed) ∙ ap (λ (s : OrderState). s.placed.market) (same_Some (state_of order) found (sym (state-at history (orders before) order [] all) ∙ at)) in
          subst (λ (m : ℕ). 0 < (book_of books m).room) same behind.room;
      all = λ m inside. ap (listed (order_state history) m (length (orders before))) (behind.were.orders m inside) ∙ (listed-next history (orders before) order [] m all ∙ sym (ap (open_from m 0) all));
    })
may-list limits history command number books places behind = cc

-- nothing is placed
places-none : (account : ℕ) (command : Command) → is_place command ≡ false → placed_by account command ≡ []
places-none account (Place market set side making taking expires nonce fee) none = cc
places-none account command none = refl

-- no order was placed, and those that are named are struck
pub struck-books : (limits : Bounds) (history : List Act) (command : Command) (number : ℕ) (books books' : List BookView) (named : ℕ → Bool) → is_place command ≡ false → AreBehind limits history command number books → AreBooks limits books'
    → named ≡ is_named (orders_changed command) → ((market : ℕ) → orders_in books' market ≡ struck (order_state history) market named (orders_in books market)) → AreBooksOf limits history books'
struck-books limits history command number books books' named none behind proper are orders' = record {
  proper = proper;
  orders = λ market inside. orders' market ∙ ((λ i. struck (order_state (behind.last i)) market (changed i) (behind.were.orders market inside i))
      ∙ sym (ap (λ (h : List Act). open_orders h market) behind.last ∙ closed-more behind.before behind.act market (ap (placed_by behind.act.account) behind.asked ∙ places-none behind.act.account command none)));
}
  where
    changed : named ≡ is_named (orders_changed behind.act.command)
    changed = are ∙ ap (λ (c : Command). is_named (orders_changed c)) (sym behind.asked)

-- one is named
pub named-one : (o : ℕ) → ◌≡◌ {A = ℕ → Bool} (λ n. o == n) (is_named ((o, 0) ∷ []))
named-one o = λ i n. sym (or-false (o == n)) i

-- a command that neither places nor changes an order
pub quiet : (command : Command) → ((market set : ℕ) (side : Side) (making taking expires nonce fee : ℕ) → command ≡ Place market set side making taking expires nonce fee → ⊥) → ((order : ℕ) → command ≡ Cancel order → ⊥)
    → ((taker fill : ℕ) (makers : List (ℕ × ℕ)) → command ≡ Match taker fill makers → ⊥) → ((order : ℕ) → command ≡ Lapse order → ⊥) → (is_place command ≡ false) × (orders_changed command ≡ [])
quiet (Place market set side making taking expires nonce fee) place cancel match lapse = absurd (place market set side making taking expires nonce fee refl)
quiet (Cancel order) place cancel match lapse = absurd (cancel order refl)
quiet (Match taker fill makers) place cancel match lapse = absurd (match taker fill makers refl)
quiet (Lapse order) place cancel match lapse = absurd (lapse order refl)
quiet command place cancel match lapse = (refl, refl)
