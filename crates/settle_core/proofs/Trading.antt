-- The table of orders has what a history gives, and an accepted command may be entered into it.
use Rattle.std.proofs.Common.{◌≡◌, ℕ, zero, suc, ◌+◌, ◌<◌, ◌≤◌, Bool, true, false, cond, List, [], ◌∷◌, ◌++◌, length, Option, Some, None, refl, sym, ap, subst, ◌∙◌, arith, inl, inr, length-append, append-nil}
use Rattle.std.specs.Prelude.{◌==◌, ◌&&◌, ◌||◌, not, nat_le, fold, is_none, slice_get, slice_index_or, slice_set, sum_by, MatchOption}
use Rattle.std.specs.List.{list_any}
use Rattle.std.proofs.lemmas.Bool.Decides.{nat_tests}
use Rattle.std.proofs.lemmas.List.Folds.{list_any-append}
use Rattle.std.proofs.lemmas.List.Sums.{sum_by-cons, sum_by_push}
use Rattle.std.proofs.lemmas.Option.{slice_get_cases}
use Rattle.command_words.proofs.Acts.{act-makes}
use Rattle.command_words.specs.declared.act.Act.{Act}
use Rattle.command_words.specs.declared.act.TheConstants.{MAX_HISTORY}
use Rattle.command_words.specs.declared.command.Command.{Command}
use Rattle.command_words.specs.declared.command.Command.TheVariants.{Market, Place, Cancel, Bump, Match, Lapse}
use Rattle.command_words.specs.declared.refusal.Refusal.TheVariants.{NoOrder}
use Rattle.order_table.specs.Orders.{OrderView, OrdersView, after_end, is_market, is_open, nonce_of, open_in}
use Rattle.order_table.specs.declared.order.Placed.{Placed}
use Rattle.settle_core.specs.Book.{Book, blank, entered}
use Rattle.settle_core.specs.Bounds.{Bounds}
use Rattle.settle_core.specs.Kept.{AreOrdersOf, MayFillAll, MayTrade, ended_in, filled_in, orders_after, views_of}
use Rattle.settle_core.specs.Legal.{IsAccepted, IsLegal}
use Rattle.settle_core.specs.OrderRules.{never_placed, where_}
use Rattle.settle_core.specs.Orders.{ends, fill_of, filled, filled_by, is_bump, is_ended, is_market as is_market_in, nonce, opened_by, order_state, orders, orders_from, placed}
use Rattle.settle_core.specs.Placing.{placed_by}
use Rattle.settle_core.specs.Verdict.{question_of}
use Rattle.settle_core.proofs.Filling.{fill-all, may-match, named-open, named-within, none-filled, views-of_orders, views-same}
use Rattle.settle_core.proofs.Histories.{market-more, placed-more}
use Rattle.settle_core.proofs.Inductions.{legal-all}
use Rattle.settle_core.proofs.Parts.{or-none}
use Rattle.settle_core.proofs.Verdicts.{AreNone, earlier, earlier-none, accepted-left, accepted-market, accepted-once, accepted-open, accepted-open_market, accepted-order, accepted-orders, accepted-others, accepted-proper, accepted-within}

-- ---- one act more

or-false : (b : Bool) → (b || false) ≡ b
or-false true = refl
or-false false = refl

any-push : (p : Act → Bool) (acts : List Act) (act : Act) → list_any p (acts ++ act ∷ []) ≡ (list_any p acts || p act)
any-push p acts act = list_any-append p acts (act ∷ []) ∙ ap (λ b. list_any p acts || b) (or-false (p act))

pub ended-more : (history : List Act) (act : Act) (o : ℕ) → is_ended (history ++ act ∷ []) o ≡ (is_ended history o || ends o act.command)
ended-more history act o = any-push (λ (x : Act). ends o x.command) history act

pub filled-more : (history : List Act) (act : Act) (o : ℕ) → filled (history ++ act ∷ []) o ≡ filled history o + filled_by o act.command
filled-more history act o = sum_by_push (λ (x : Act). filled_by o x.command) history act

nonce-more : (history : List Act) (act : Act) (a : ℕ) → nonce (history ++ act ∷ []) a ≡ nonce history a + cond ((act.account == a) && is_bump act.command) 1 0
nonce-more history act a = sum_by_push (λ (x : Act). cond ((x.account == a) && is_bump x.command) 1 0) history act

-- as many as were placed
orders-many : (history : List Act) (n : ℕ) (ps : List Placed) → length (orders_from history n ps) ≡ length ps
orders-many history n [] = refl
orders-many history n (p ∷ ps) = omega (arith, orders-many history (suc n) ps)

-- ---- orders that were never placed

-- nothing became of them
record IsFresh (history : List Act) (o : ℕ) : Type 0 where
  pub none : filled history o ≡ 0
  pub unended : is_ended history o ≡ false

-- an order that a command ends was placed
inside : (history : List Act) (order : ℕ) → never_placed (order_state history) 0 ((order, 0) ∷ []) ≡ None → order < length (placed history)
inside history order none =
    let below = named-within (orders history) order 0 (or-none (where_ (is_none (order_state history order)) (NoOrder 0)) None none).0 in
    omega (arith, below, orders-many history 0 (placed history))

neither : (a b : Bool) → a ≡ false → b ≡ false → (a || b) ≡ false
neither true b one two = cc
neither false b one two = two

-- an accepted command ends and fills no order from there on
record IsSpared (command : Command) (o : ℕ) : Type 0 where
  pub fill : filled_by o command ≡ 0
  pub kept : ends o command ≡ false

spared : (limits : Bounds) (history : List Act) (account moment : ℕ) (command : Command) (o : ℕ) → AreNone (earlier (question_of limits history (record { account = account; command = command; moment = moment })))
    → length (placed history) ≤ o → IsSpared command o
spared limits history account moment (Cancel order) o none past =
    let below = inside history order (accepted-order (question_of limits history (record { account = account; command = Cancel order; moment = moment })) none) in
    record { fill = refl; kept = grind (arith, nat_tests, below, past) }
spared limits history account moment (Lapse order) o none past =
    let below = inside history order (accepted-order (question_of limits history (record { account = account; command = Lapse order; moment = moment })) none) in
    record { fill = refl; kept = grind (arith, nat_tests, below, past) }
spared limits history account moment (Match taker fill makers) o none past =
    let named = accepted-order (question_of limits history (record { account = account; command = Match taker fill makers; moment = moment })) none in
    let beyond : length (orders history) ≤ o = omega (arith, orders-many history 0 (placed history), past) in
    record { fill = sym (sum_by-cons (fill_of o) (taker, fill) makers) ∙ none-filled (orders history) o 0 ((taker, fill) ∷ makers) beyond named; kept = refl }
spared limits history account moment command o none past = record { fill = refl; kept = refl }

-- what a command ends and fills leaves the others as they are
kept-fresh : (history : List Act) (act : Act) (o : ℕ) → IsSpared act.command o → IsFresh history o → IsFresh (history ++ act ∷ []) o
kept-fresh history act o spares is = record {
  none = omega (arith, filled-more history act o, is.none, spares.fill);
  unended = ended-more history act o ∙ neither (is_ended history o) (ends o act.command) is.unended spares.kept;
}

fresh-more : (limits : Bounds) (history : List Act) (act : Act) → ((o : ℕ) → length (placed history) ≤ o → IsFresh history o) → IsAccepted limits history act
    → (o : ℕ) → length (placed (history ++ act ∷ [])) ≤ o → IsFresh (history ++ act ∷ []) o
fresh-more limits history act so_far accepted o past =
    let before : length (placed history) ≤ o = omega (arith, past, ap length (placed-more history act), length-append (placed history) (placed_by act.account act.command)) in
    let none = earlier-none (question_of limits history act) accepted.accepted in
    kept-fresh history act o (spared limits history act.account act.moment act.command o none before) (so_far o before)

fresh : (limits : Bounds) (history : List Act) → IsLegal limits history → (o : ℕ) → length (placed history) ≤ o → IsFresh history o
fresh limits history legal =
    legal-all limits (λ h. (o : ℕ) → length (placed h) ≤ o → IsFresh h o) (λ o past. record { none = refl; unended = refl }) (fresh-more limits) history legal

-- ---- the orders of a history

pub orders-append : (history : List Act) (n : ℕ) (xs ys : List Placed) → orders_from history n (xs ++ ys) ≡ orders_from history n xs ++ orders_from history (n + length xs) ys
orders-append history n [] ys = ap (λ (m : ℕ). orders_from history m ys) (omega arith)
orders-append history n (x ∷ xs) ys =
    let next : suc n + length xs ≡ n + length (x ∷ xs) = omega arith in
    ap (λ (more : List OrderView). record { placed = x; filled = filled history n; ended = is_ended history n } ∷ more)
    (orders-append history (suc n) xs ys ∙ ap (λ (m : ℕ). orders_from history (suc n) xs ++ orders_from history m ys) next)

-- the same became of them
pub same-from : (before after : List Act) (n : ℕ) (ps : List Placed) → ((o : ℕ) → n ≤ o → (filled after o ≡ filled before o) × (is_ended after o ≡ is_ended before o)) → orders_from after n ps ≡ orders_from before n ps
same-from before after n [] same = refl
same-from before after n (p ∷ ps) same =
    let here = same n (omega arith) in
    let rest = same-from before after (suc n) ps (λ o past. same o (omega arith)) in
    λ i. record { placed = p; filled = here.0 i; ended = here.1 i } ∷ rest i

or-true : (b : Bool) → (b || true) ≡ true
or-true true = refl
or-true false = refl

-- one of them was ended
ended-from : (before after : List Act) (order n k : ℕ) (ps : List Placed) (v : OrderView) → ((o : ℕ) → filled after o ≡ filled before o) → ((o : ℕ) → is_ended after o ≡ (is_ended before o || (order == o)))
    → order ≡ n + k → slice_get (orders_from before n ps) k ≡ Some v → orders_from after n ps ≡ slice_set (orders_from before n ps) k (after_end v)
ended-from before after order n k [] v fills ends place at = cc
ended-from before after order n zero (p ∷ ps) v fills ends place at =
    let is : record { placed = p; filled = filled before n; ended = is_ended before n } ≡ v = some-same at in
    let own : (order == n) ≡ true = grind (arith, nat_tests, place) in
    let ended : is_ended after n ≡ true = ends n ∙ (ap (λ b. is_ended before n || b) own ∙ or-true (is_ended before n)) in
    let rest = same-from before after (suc n) ps (λ o past. (fills o, ends o ∙ (ap (λ b. is_ended before o || b) (other o past) ∙ or-false (is_ended before o)))) in
    (λ i. record { placed = p; filled = fills n i; ended = ended i } ∷ rest i) ∙ ap (λ (x : OrderView). after_end x ∷ orders_from before (suc n) ps) is
  where
    some-same : {a b : OrderView} → ◌≡◌ {A = Option OrderView} (Some a) (Some b) → a ≡ b
    some-same e = cc

    other : (o : ℕ) → suc n ≤ o → (order == o) ≡ false
    other o past = grind (arith, nat_tests, place, past)
ended-from before after order n (suc k) (p ∷ ps) v fills ends place at =
    let other : (order == n) ≡ false = grind (arith, nat_tests, place) in
    let same : is_ended after n ≡ is_ended before n = ends n ∙ (ap (λ b. is_ended before n || b) other ∙ or-false (is_ended before n)) in
    let rest = ended-from before after order (suc n) k ps v fills ends (omega (arith, place)) at in
    λ i. record { placed = p; filled = fills n i; ended = same i } ∷ rest i

-- orders that are new
views-new : (history : List Act) (n : ℕ) (ps : List Placed) → ((o : ℕ) → n ≤ o → IsFresh history o) → orders_from history n ps ≡ views_of ps
views-new history n [] is = refl
views-new history n (p ∷ ps) is =
    let here = is n (omega arith) in
    let rest = views-new history (suc n) ps (λ o past. is o (omega arith)) in
    λ i. record { placed = p; filled = here.none i; ended = here.unended i } ∷ rest i

-- the orders after an act that ends one
orders-ended : (history : List Act) (act : Act) (order : ℕ) → placed_by act.account act.command ≡ [] → ((o : ℕ) → filled_by o act.command ≡ 0) → ((o : ℕ) → ends o act.command ≡ (order == o))
    → order < length (placed history) → ended_in (orders history) order (slice_get (orders history) order) ≡ orders (history ++ act ∷ [])
orders-ended history act order places fills ending there = by (slice_get (orders history) order) refl
  where
    placed-same : placed (history ++ act ∷ []) ≡ placed history
    placed-same = placed-more history act ∙ (ap (λ (more : List Placed). placed history ++ more) places ∙ append-nil (placed history))

    by : (o : Option OrderView) → slice_get (orders history) order ≡ o → ended_in (orders history) order o ≡ orders (history ++ act ∷ [])
    by None at = absurd (past-end at)
      where
        past-end : slice_get (orders history) order ≡ None → ⊥
        past-end at = elim ((slice_get_cases (orders history) order).1) [
          | inl found ↦ absurd (clash (sym at ∙ found.2))
          | inr past ↦ absurd (omega (arith, past.0, there, orders-many history 0 (placed history)))
        ]
          where
            clash : {x : OrderView} → ◌≡◌ {A = Option OrderView} None (Some x) → ⊥
            clash e = cc
    by (Some v) at =
        sym (ap (orders_from (history ++ act ∷ []) 0) placed-same
        ∙ ended-from history (history ++ act ∷ []) order 0 order (placed history) v (λ o. omega (arith, filled-more history act o, fills o)) (λ o. ended-more history act o ∙ ap (λ b. is_ended history o || b) (ending o)) (omega arith) at)

-- and after one that fills some
orders-filled : (history : List Act) (account moment taker fill : ℕ) (makers : List (ℕ × ℕ))
    → filled_in (orders history) ((taker, fill) ∷ makers) ≡ orders (history ++ record { account = account; command = Match taker fill makers; moment = moment } ∷ [])
orders-filled history account moment taker fill makers =
    let ns = (taker, fill) ∷ makers in
    let f : ℕ → ℕ = λ o. filled history o + sum_by (fill_of o) ns in
    ap (λ (os : List OrderView). filled_in os ns) (views-of_orders history 0 (placed history))
    ∙ (fill-all (filled history) (is_ended history) (placed history) ns
    ∙ (views-same f (filled after) (is_ended history) (is_ended after) 0 (placed history) (λ o past. (fills o, ends-same o))
    ∙ (sym (views-of_orders after 0 (placed history)) ∙ ap (orders_from after 0) (sym placed-same))))
  where
    act : Act
    act = record { account = account; command = Match taker fill makers; moment = moment }

    after : List Act
    after = history ++ act ∷ []

    placed-same : placed after ≡ placed history
    placed-same = placed-more history act ∙ append-nil (placed history)

    fills : (o : ℕ) → filled history o + sum_by (fill_of o) ((taker, fill) ∷ makers) ≡ filled after o
    fills o = omega (arith, filled-more history act o, sum_by-cons (fill_of o) (taker, fill) makers)

    ends-same : (o : ℕ) → is_ended history o ≡ is_ended after o
    ends-same o = sym (ended-more history act o ∙ or-false (is_ended history o))

-- the orders after an accepted command
orders-with : (limits : Bounds) (history : List Act) (account moment : ℕ) (command : Command) → IsLegal limits history
    → let act : Act = record { account = account; command = command; moment = moment } in
    AreNone (earlier (question_of limits history act)) → orders_after account (orders history) command ≡ orders (history ++ act ∷ [])
orders-with limits history account moment (Cancel order) legal none =
    let act : Act = record { account = account; command = Cancel order; moment = moment } in
    orders-ended history act order refl (λ o. refl) (λ o. refl) (inside history order (accepted-order (question_of limits history act) none))
orders-with limits history account moment (Lapse order) legal none =
    let act : Act = record { account = account; command = Lapse order; moment = moment } in
    orders-ended history act order refl (λ o. refl) (λ o. refl) (inside history order (accepted-order (question_of limits history act) none))
orders-with limits history account moment (Match taker fill makers) legal none = orders-filled history account moment taker fill makers
orders-with limits history account moment command legal none =
    let act : Act = record { account = account; command = command; moment = moment } in
    let h = history ++ act ∷ [] in
    let same = same-from history h 0 (placed history) (λ o past. (filled-more history act o ∙ omega arith, ended-more history act o ∙ or-false (is_ended history o))) in
    let new = views-new h (length (placed history)) (placed_by account command) (λ o past. kept-fresh history act o (record { fill = refl; kept = refl }) (fresh limits history legal o past)) in
    let place : 0 + length (placed history) ≡ length (placed history) = omega arith in
    sym (ap (orders_from h 0) (placed-more history act) ∙ (orders-append h 0 (placed history) (placed_by account command)
    ∙ (ap (λ (n : ℕ). orders_from h 0 (placed history) ++ orders_from h n (placed_by account command)) place ∙ (λ i. same i ++ new i))))

-- ---- what an exchange keeps of orders

pub orders-kept : (limits : Bounds) (table table' : OrdersView) (history : List Act) (act : Act) → IsLegal limits history → IsAccepted limits history act → AreOrdersOf limits table history
    → table'.orders ≡ orders_after act.account table.orders act.command
    → ((c : ℕ) → is_market table' c ≡ (is_market table c || list_any (λ market. market == c) (opened_by act.command)))
    → ((a : ℕ) → nonce_of table' a ≡ nonce_of table a + cond ((act.account == a) && is_bump act.command) 1 0)
    → table'.limit ≡ table.limit → AreOrdersOf limits table' (history ++ act ∷ [])
orders-kept limits table table' history act legal accepted are orders' markets' nonces' limit' = record {
  orders = orders' ∙ (ap (λ (os : List OrderView). orders_after act.account os act.command) are.orders
      ∙ orders-with limits history act.account act.moment act.command legal (earlier-none (question_of limits history act) accepted.accepted));
  markets = λ c. markets' c ∙ (ap (λ b. b || list_any (λ market. market == c) (opened_by act.command)) (are.markets c) ∙ sym (market-more history act c));
  nonces = λ a. omega (arith, nonces' a, are.nonces a, nonce-more history act a);
  limit = limit' ∙ are.limit;
}

pub orders-same : (limits : Bounds) (table table' : OrdersView) (history history' : List Act) → AreOrdersOf limits table history → table'.orders ≡ table.orders → table'.markets ≡ table.markets → table'.nonces ≡ table.nonces → table'.limit ≡ table.limit → history' ≡ history
    → AreOrdersOf limits table' history'
orders-same limits table table' history history' are orders' markets' nonces' limit' acts =
    subst (λ (h : List Act). AreOrdersOf limits table' h) (sym acts) (record {
      orders = orders' ∙ are.orders;
      markets = λ c. ap (λ (ms : List Bool). slice_index_or ms c false) markets' ∙ are.markets c;
      nonces = λ a. ap (λ (ns : List ℕ). slice_index_or ns a 0) nonces' ∙ are.nonces a;
      limit = limit' ∙ are.limit;
    })

pub orders-empty : (limits : Bounds) (table : OrdersView) (history : List Act) → history ≡ [] → table.orders ≡ [] → ((c : ℕ) → is_market table c ≡ false) → ((a : ℕ) → nonce_of table a ≡ 0) → table.limit ≡ limits.orders → AreOrdersOf limits table history
orders-empty limits table history none no_orders no_markets zero_nonces limit =
    subst (λ (h : List Act). AreOrdersOf limits table h) (sym none) (record { orders = no_orders; markets = no_markets; nonces = zero_nonces; limit = limit })

-- ---- what may be entered

-- an order is placed by an act, and a nonce raised by one
placed-few : (history : List Act) → length (placed history) ≤ length history
placed-few history = omega (arith, so_far blank history)
  where
    one : (account : ℕ) (command : Command) → length (placed_by account command) ≤ 1
    one account (Place market set side making taking expires number fee) = omega arith
    one account command = omega arith

    so_far : (b : Book) (acts : List Act) → length (fold entered b acts).placed ≤ length b.placed + length acts
    so_far b [] = omega arith
    so_far b (act ∷ acts) = omega (arith, so_far (entered b act) acts, one act.account act.command, length-append b.placed (placed_by act.account act.command))

nonce-few : (history : List Act) (a : ℕ) → nonce history a ≤ length history
nonce-few [] a = omega arith
nonce-few (act ∷ acts) a = omega (arith, nonce-few acts a, one ((act.account == a) && is_bump act.command), sum_by-cons (λ (x : Act). cond ((x.account == a) && is_bump x.command) 1 0) act acts)
  where
    one : (b : Bool) → cond b 1 0 ≤ 1
    one true = omega arith
    one false = omega arith

or-not : (b : Bool) → not b ≡ false → b ≡ true
or-not true e = refl
or-not false e = cc

may-trade : (limits : Bounds) (table : OrdersView) (history : List Act) (account moment : ℕ) (command : Command) → AreNone (earlier (question_of limits history (record { account = account; command = command; moment = moment })))
    → AreOrdersOf limits table history → length history < MAX_HISTORY → 0 < table.room → MayTrade table account command
may-trade limits table history account moment (Market condition) none are below room =
    let q = question_of limits history (record { account = account; command = Market condition; moment = moment }) in
    are.markets condition ∙ accepted-market q none
may-trade limits table history account moment (Place market set side making taking expires nonce fee) none are below room =
    let q = question_of limits history (record { account = account; command = Place market set side making taking expires nonce fee; moment = moment }) in
    let few : nat_le limits.orders (open_in (orders history) market) ≡ false = accepted-orders q none in
    let same : open_in table.orders market ≡ open_in (orders history) market = ap (λ (os : List OrderView). open_in os market) are.orders in
    let limit : table.limit ≡ limits.orders = are.limit in (
      are.markets market ∙ or-not (is_market_in history market) (accepted-open_market q none),
      grind (arith, nat_tests, few, same, limit),
      omega (arith, ap length are.orders, orders-many history 0 (placed history), placed-few history, below),
      room,
      or-not ((set == 1) || (set == 2)) (accepted-proper q none),
    )
may-trade limits table history account moment (Cancel order) none are below room =
    let q = question_of limits history (record { account = account; command = Cancel order; moment = moment }) in
    subst (λ (os : List OrderView). MatchOption (slice_get os order) ⊥ (λ o. is_open o ≡ true)) (sym are.orders) (named-open (orders history) order (accepted-order q none) (accepted-open q none))
may-trade limits table history account moment (Lapse order) none are below room =
    let q = question_of limits history (record { account = account; command = Lapse order; moment = moment }) in
    subst (λ (os : List OrderView). MatchOption (slice_get os order) ⊥ (λ o. is_open o ≡ true)) (sym are.orders) (named-open (orders history) order (accepted-order q none) (accepted-open q none))
may-trade limits table history account moment (Match taker fill makers) none are below room =
    let q = question_of limits history (record { account = account; command = Match taker fill makers; moment = moment }) in
    subst (λ (os : List OrderView). MayFillAll os ((taker, fill) ∷ makers)) (sym are.orders)
    (may-match (orders history) taker fill makers (accepted-order q none) (accepted-open q none) (accepted-others q none) (accepted-once q none) (accepted-left q none))
may-trade limits table history account moment Bump none are below room = omega (arith, are.nonces account, nonce-few history account, below)
may-trade limits table history account moment command none are below room = tt

pub kept-trades : (limits : Bounds) (table : OrdersView) (history : List Act) (act : Act) → AreOrdersOf limits table history → limits.history ≤ MAX_HISTORY → IsAccepted limits history act → 0 < table.room → MayTrade table act.account act.command
kept-trades limits table history act are bounded accepted room =
    let within = accepted-within (question_of limits history act) accepted.accepted (act-makes act.command accepted.may_be_act) in
    may-trade limits table history act.account act.moment act.command (earlier-none (question_of limits history act) accepted.accepted) are (omega (arith, within, bounded)) room
