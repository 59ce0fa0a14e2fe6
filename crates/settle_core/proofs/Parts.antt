-- The orders of a match that isn't refused for them are parts that may be matched; and what is read maker by maker.
use Rattle.std.proofs.Common.{◌≡◌, ◌≢◌, ℕ, zero, suc, ◌+◌, ◌-◌, ◌<◌, ◌≤◌, true, false, List, [], ◌∷◌, ◌++◌, length, take, drop, get_or, Option, Some, None, All, refl, sym, ap, subst, ◌∙◌, arith, append-nil}
use Rattle.std.specs.Prelude.{◌==◌, ◌&&◌, not, nat_le, nat_lt, is_none, option_map, slice_get}
use Rattle.std.specs.List.{list_all, list_any}
use Rattle.std.proofs.lemmas.Bool.{and_parts, or_parts}
use Rattle.std.proofs.lemmas.Bool.Decides.{nat_tests}
use Rattle.std.proofs.lemmas.Grind.{flat_map-append}
use Rattle.std.proofs.lemmas.List.{drop_all, drop_more, take_all, take_more}
use Rattle.std.proofs.lemmas.List.Elements.{All-cons, All-nil}
use Rattle.std.proofs.lemmas.Option.{get_or_from_slice_get, slice_get_within}
use Rattle.command_words.specs.Command.{in_ranges}
use Rattle.command_words.specs.Ranges.{is_amount, is_fill, is_makers, is_order, has_up_to}
use Rattle.command_words.specs.declared.act.Act.{Act}
use Rattle.command_words.specs.declared.command.Command.TheVariants.{Match}
use Rattle.command_words.specs.declared.ranges.TheConstants.{MAX_MAKERS}
use Rattle.command_words.specs.declared.refusal.Refusal.{Refusal}
use Rattle.command_words.specs.declared.refusal.Refusal.TheVariants.{NoOrder, Overfill, RepeatedOrder, SelfMatch, WrongPair}
use Rattle.condition_sets.specs.declared.amount.TheConstants.{MAX_AMOUNT}
use Rattle.match_kinds.specs.Matching.{IsMaker, IsPart}
use Rattle.match_kinds.specs.declared.part.Part.{Part}
use Rattle.order_rules.specs.declared.kinds.MatchKind.{MatchKind}
use Rattle.order_table.specs.Orders.{state_of}
use Rattle.order_table.specs.declared.order.OrderState.{OrderState}
use Rattle.order_table.specs.declared.order.Placed.{Placed}
use Rattle.settle_core.specs.Matches.{part_by, part_of, parts_in}
use Rattle.settle_core.specs.OrderRules.{at_first, by_rule, by_taker, kind_with, never_placed, or_else, overfilled, own, repeated_from, rest_of, unpaired, where_}
use Rattle.settle_core.specs.Orders.{order_state, orders, orders_from, placed}
use Rattle.settle_core.proofs.Markets.{AreTraded, IsOfMarket}
use Rattle.settle_core.proofs.Verdicts.{where_-none}

-- ---- what is known of an order is of the order as it was placed

pub facts-from : (history : List Act) (n : ℕ) (ps : List Placed) (k : ℕ) → option_map (λ (f : OrderState). f.placed) (option_map state_of (slice_get (orders_from history n ps) k)) ≡ slice_get ps k
facts-from history n [] k = refl
facts-from history n (p ∷ ps) zero = refl
facts-from history n (p ∷ ps) (suc k) = facts-from history (suc n) ps k

pub facts-placed : (history : List Act) (order : ℕ) → option_map (λ (f : OrderState). f.placed) (order_state history order) ≡ slice_get (placed history) order
facts-placed history order = facts-from history 0 (placed history) order

-- ---- what no rule refuses

pub or-none : (o p : Option Refusal) → or_else o p ≡ None → (o ≡ None) × (p ≡ None)
or-none None p none = (refl, none)
or-none (Some x) p none = cc

-- an order that was placed
pub there : (o : Option OrderState) (place : ℕ) → where_ (is_none o) (NoOrder place) ≡ None → (f : OrderState) × (o ≡ Some f)
there None place none = cc
there (Some f) place none = (f, refl)

-- a part of an order: of a market, and with a fill within what is left of it
part-right : (history : List Act) (order : OrderState) (place fill : ℕ) → is_amount fill ≡ true → overfilled place fill order ≡ None → IsOfMarket history order.placed → IsPart (part_of order.placed fill)
part-right history order place fill range left of =
    let some = and_parts (nat_le 1 fill) (nat_le fill MAX_AMOUNT) range in
    let least : nat_le 1 fill ≡ true = some.0 in
    let within : nat_lt (rest_of order) fill ≡ false = where_-none (nat_lt (rest_of order) fill) (Overfill place (rest_of order)) left in
    record { some = grind (arith, nat_tests, least); within = grind (arith, nat_tests, within); rate = of.rate }

-- a maker of another account, which has a kind with the taker
maker-right : (taker : Placed) (order : OrderState) (place fill taken : ℕ) → IsPart (part_of order.placed fill) → own taker place fill order ≡ None → unpaired taker place fill order ≡ None
    → IsMaker (part_of taker taken) (part_of order.placed fill)
maker-right taker order place fill taken part other pair =
    let apart : (order.placed.account == taker.account) ≡ false = where_-none (order.placed.account == taker.account) (SelfMatch place) other in
    let parts = or_parts (not (order.placed.market == taker.market)) (is_none (kind_with taker order.placed)) (where_-none _ (WrongPair place) pair) in
    record { part = part; kind = some (kind_with taker order.placed) parts.1; other = λ same. absurd (grind (arith, nat_tests, apart, same)) }
  where
    some : (o : Option MatchKind) → is_none o ≡ false → o ≢ None
    some None is same = cc
    some (Some k) is same = cc

-- an order that was placed is one of a market
pub among : (history : List Act) (order : Placed) (n : ℕ) → slice_get (placed history) n ≡ Some order → AreTraded history → IsOfMarket history order
among history order n at traded =
    subst (IsOfMarket history) (get_or_from_slice_get (placed history) n order order at) (traded.orders n order (slice_get_within (placed history) n order at))

-- ---- all of them

-- the makers are parts that may be matched with the taker, as many as are named
pub record AreMakers (orders : List Placed) (taker : Part) (makers : List (ℕ × ℕ)) : Type 0 where
  pub each : All (IsMaker taker) (parts_in orders makers)
  pub as_many : length (parts_in orders makers) ≡ length makers

makers-right : (history : List Act) (taker : Placed) (taken place : ℕ) (makers : List (ℕ × ℕ)) → let known = order_state history in AreTraded history → list_all is_fill makers ≡ true → never_placed known place makers ≡ None → at_first known (own taker) place makers ≡ None
    → at_first known (unpaired taker) place makers ≡ None → at_first known overfilled place makers ≡ None → AreMakers (placed history) (part_of taker taken) makers
makers-right history taker taken place [] traded ranges all other pair left = record { each = All-nil (IsMaker (part_of taker taken)); as_many = refl }
makers-right history taker taken place (m ∷ ms) traded ranges all other pair left =
    let known = order_state history in
    let range = and_parts (is_fill m) (list_all is_fill ms) ranges in
    let fills = and_parts (is_order m.0) (is_amount m.1) range.0 in
    let a = or-none (where_ (is_none (known m.0)) (NoOrder place)) (never_placed known (suc place) ms) all in
    let o = or-none (by_rule (own taker) place m.1 (known m.0)) (at_first known (own taker) (suc place) ms) other in
    let p = or-none (by_rule (unpaired taker) place m.1 (known m.0)) (at_first known (unpaired taker) (suc place) ms) pair in
    let l = or-none (by_rule overfilled place m.1 (known m.0)) (at_first known overfilled (suc place) ms) left in
    let rest = makers-right history taker taken (suc place) ms traded range.1 a.1 o.1 p.1 l.1 in
    let found = there (known m.0) place a.0 in
    let at : slice_get (placed history) m.0 ≡ Some found.0.placed = sym (facts-placed history m.0) ∙ ap (option_map (λ (f : OrderState). f.placed)) found.1 in
    let here : (rule : ℕ → ℕ → OrderState → Option Refusal) → by_rule rule place m.1 (known m.0) ≡ None → rule place m.1 found.0 ≡ None = λ rule none. sym (ap (by_rule rule place m.1) found.1) ∙ none in
    let part = part-right history found.0 place m.1 fills.1 (here overfilled l.0) (among history found.0.placed m.0 at traded) in
    let maker = maker-right taker found.0 place m.1 taken part (here (own taker) o.0) (here (unpaired taker) p.0) in
    let same : parts_in (placed history) (m ∷ ms) ≡ part_of found.0.placed m.1 ∷ parts_in (placed history) ms = ap (λ (x : Option Placed). part_by x m.1 ++ parts_in (placed history) ms) at in
    record {
      each = subst (λ (ps : List Part). All (IsMaker (part_of taker taken)) ps) (sym same) (All-cons (IsMaker (part_of taker taken)) (part_of found.0.placed m.1) (parts_in (placed history) ms) maker rest.each);
      as_many = ap length same ∙ omega (arith, rest.as_many);
    }

-- ---- a match

-- what a match names are parts that may be matched: a taker that was placed, and its makers
pub record AreParts (orders : List Placed) (taker fill : ℕ) (makers : List (ℕ × ℕ)) : Type 0 where
  pub order : Placed
  pub at : slice_get orders taker ≡ Some order
  pub taken : IsPart (part_of order fill)
  pub made : AreMakers orders (part_of order fill) makers

pub parts-right : (history : List Act) (taker fill : ℕ) (makers : List (ℕ × ℕ)) → let known = order_state history in AreTraded history → in_ranges (Match taker fill makers) ≡ true
    → never_placed known 0 ((taker, fill) ∷ makers) ≡ None → by_taker known own (known taker) makers ≡ None → by_taker known unpaired (known taker) makers ≡ None → at_first known overfilled 0 ((taker, fill) ∷ makers) ≡ None
    → AreParts (placed history) taker fill makers
parts-right history taker fill makers traded ranges all other pair left =
    let known = order_state history in
    let one = (and_parts (is_order taker) (is_amount fill && is_makers makers) ranges).1 in
    let two = and_parts (is_amount fill) (is_makers makers) one in
    let fills = (and_parts (list_all is_fill makers) (has_up_to MAX_MAKERS makers) two.1).0 in
    let a = or-none (where_ (is_none (known taker)) (NoOrder 0)) (never_placed known 1 makers) all in
    let l = or-none (by_rule overfilled 0 fill (known taker)) (at_first known overfilled 1 makers) left in
    let found = there (known taker) 0 a.0 in
    let at : slice_get (placed history) taker ≡ Some found.0.placed = sym (facts-placed history taker) ∙ ap (option_map (λ (f : OrderState). f.placed)) found.1 in
    let own_left : overfilled 0 fill found.0 ≡ None = sym (ap (by_rule overfilled 0 fill) found.1) ∙ l.0 in
    let others : at_first known (own found.0.placed) 1 makers ≡ None = sym (ap (λ (x : Option OrderState). by_taker known own x makers) found.1) ∙ other in
    let pairs : at_first known (unpaired found.0.placed) 1 makers ≡ None = sym (ap (λ (x : Option OrderState). by_taker known unpaired x makers) found.1) ∙ pair in
    record {
      order = found.0.placed;
      at = at;
      taken = part-right history found.0 0 fill two.0 own_left (among history found.0.placed taker at traded);
      made = makers-right history found.0.placed fill 1 makers traded fills a.1 others pairs l.1;
    }

-- ---- maker by maker

-- the parts of one maker more
pub parts-more : (orders : List Placed) (makers : List (ℕ × ℕ)) (i : ℕ) (m : ℕ × ℕ) → i < length makers → m ≡ get_or makers i m
    → parts_in orders (take (i + 1) makers) ≡ parts_in orders (take i makers) ++ part_by (slice_get orders m.0) m.1
parts-more orders makers i m inside item =
    ap (parts_in orders) (take_more makers i m inside)
    ∙ flat_map-append (λ n. part_by (slice_get orders n.0) n.1) (take i makers) (get_or makers i m ∷ [])
    ∙ ap (λ (ps : List Part). parts_in orders (take i makers) ++ ps) (append-nil (part_by (slice_get orders (get_or makers i m).0) (get_or makers i m).1))
    ∙ ap (λ (n : ℕ × ℕ). parts_in orders (take i makers) ++ part_by (slice_get orders n.0) n.1) (sym item)

-- what is asked of a maker for those before it, and then of those behind it
pub repeated-at : (makers : List (ℕ × ℕ)) (i : ℕ) (m : ℕ × ℕ) → i < length makers → m ≡ get_or makers i m
    → repeated_from (take i makers) (i + 1) (drop i makers) ≡ or_else (where_ (list_any (λ n. n.0 == m.0) (take i makers)) (RepeatedOrder (i + 1))) (repeated_from (take (i + 1) makers) (i + 1 + 1) (drop (i + 1) makers))
repeated-at makers i m inside item =
    let split : drop i makers ≡ m ∷ drop (i + 1) makers = drop_more makers i m inside ∙ ap (λ (x : ℕ × ℕ). x ∷ drop (i + 1) makers) (sym item) in
    let front : take i makers ++ m ∷ [] ≡ take (i + 1) makers = ap (λ (x : ℕ × ℕ). take i makers ++ x ∷ []) item ∙ sym (take_more makers i m inside) in
    let next : suc (i + 1) ≡ i + 1 + 1 = omega arith in
    let first = where_ (list_any (λ n. n.0 == m.0) (take i makers)) (RepeatedOrder (i + 1)) in
    ap (repeated_from (take i makers) (i + 1)) split ∙ (λ k. or_else first (repeated_from (front k) (next k) (drop (i + 1) makers)))

-- it is named before
pub repeated-here : (makers : List (ℕ × ℕ)) (i : ℕ) (m : ℕ × ℕ) → i < length makers → m ≡ get_or makers i m → list_any (λ n. n.0 == m.0) (take i makers) ≡ true
    → repeated_from (take i makers) (i + 1) (drop i makers) ≡ Some (RepeatedOrder (i + 1))
repeated-here makers i m inside item named = repeated-at makers i m inside item ∙ ap (λ b. or_else (where_ b (RepeatedOrder (i + 1))) (repeated_from (take (i + 1) makers) (i + 1 + 1) (drop (i + 1) makers))) named

-- it isn't
pub repeated-past : (makers : List (ℕ × ℕ)) (i : ℕ) (m : ℕ × ℕ) → i < length makers → m ≡ get_or makers i m → list_any (λ n. n.0 == m.0) (take i makers) ≡ false
    → repeated_from (take i makers) (i + 1) (drop i makers) ≡ repeated_from (take (i + 1) makers) (i + 1 + 1) (drop (i + 1) makers)
repeated-past makers i m inside item other = repeated-at makers i m inside item ∙ ap (λ b. or_else (where_ b (RepeatedOrder (i + 1))) (repeated_from (take (i + 1) makers) (i + 1 + 1) (drop (i + 1) makers))) other

-- past the last none is
pub repeated-end : (makers : List (ℕ × ℕ)) (i : ℕ) → length makers ≤ i → repeated_from (take i makers) (i + 1) (drop i makers) ≡ None
repeated-end makers i past = ap (repeated_from (take i makers) (i + 1)) (drop_all i makers past)

-- an order that was placed stops no walk for one that wasn't
pub unplaced-past : (known : ℕ → Option OrderState) (place : ℕ) (named : List (ℕ × ℕ)) (first : ℕ × ℕ) (f : OrderState) → 1 ≤ length named → first ≡ get_or named 0 first → known first.0 ≡ Some f
    → never_placed known (place + 1) (take (length named - 1) (drop 1 named)) ≡ never_placed known place named
unplaced-past known place [] first f some item is = absurd (omega (arith, some))
unplaced-past known place (n ∷ ns) first f some item is =
    let next : place + 1 ≡ suc place = omega arith in
    let rest : take (length (n ∷ ns) - 1) (drop 1 (n ∷ ns)) ≡ ns = take_all (length (n ∷ ns) - 1) ns (omega arith) in
    let here : known n.0 ≡ Some f = ap (λ (x : ℕ × ℕ). known x.0) (sym item) ∙ is in
    (λ i. never_placed known (next i) (rest i)) ∙ sym (ap (λ (o : Option OrderState). or_else (where_ (is_none o) (NoOrder place)) (never_placed known (suc place) ns)) here)
