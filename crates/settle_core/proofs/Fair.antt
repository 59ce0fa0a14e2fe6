-- No order of a legal history is filled above what it makes, and none receives less for a fill than its limit.
use Rattle.std.proofs.Common.{◌≡◌, ℕ, zero, suc, ◌+◌, ◌≤◌, Bool, true, false, cond, List, [], ◌∷◌, ◌++◌, Option, Some, None, All, refl, sym, ap, subst, ◌∙◌, arith, inl, inr}
use Rattle.std.specs.Prelude.{◌==◌, ◌||◌, is_none, map, nat_lt, option_map, slice_get, sum_by, take}
use Rattle.std.specs.List.{list_any}
use Rattle.std.proofs.lemmas.Bool.{cases_Bool, eqb-true}
use Rattle.std.proofs.lemmas.Bool.Decides.{nat_tests}
use Rattle.std.proofs.lemmas.List.Elements.{All-cons, All-nil}
use Rattle.std.proofs.lemmas.List.Folds.{list_any-append}
use Rattle.std.proofs.lemmas.List.Sums.{sum_by-cons, sum_by_push}
use Rattle.command_words.specs.declared.act.Act.{Act}
use Rattle.command_words.specs.declared.command.Command.{Command}
use Rattle.command_words.specs.declared.command.Command.TheVariants.{Match}
use Rattle.command_words.specs.declared.refusal.Refusal.TheVariants.{NoOrder, Overfill, RepeatedOrder, SelfMatch}
use Rattle.coverage_law.specs.Fairness.{IsAtLimit}
use Rattle.match_kinds.specs.Matching.{got_of, taking_by}
use Rattle.match_kinds.specs.Settling.{floor_of}
use Rattle.match_kinds.specs.declared.part.Part.{Part}
use Rattle.order_table.specs.Orders.{state_of}
use Rattle.order_table.specs.declared.order.OrderState.{OrderState}
use Rattle.order_table.specs.declared.order.Placed.{Placed}
use Rattle.settle_core.specs.Bounds.{Bounds}
use Rattle.settle_core.specs.Fairness.{IsFair, fill_of as fill_by, fills_by, fills_in}
use Rattle.settle_core.specs.Legal.{IsAccepted, IsLegal}
use Rattle.settle_core.specs.Matches.{little_in, part_of, parts_in}
use Rattle.settle_core.specs.OrderRules.{at_first, by_rule, by_taker, never_placed, of_makers, orders_matched, orders_named, overfilled, own, repeated_from, repeats, rest_of, where_}
use Rattle.settle_core.specs.Orders.{fill_of, filled, filled_by, is_ended, order_state, orders_from, placed}
use Rattle.settle_core.specs.Placing.{placed_by}
use Rattle.settle_core.specs.Refusals.{little_by}
use Rattle.settle_core.specs.Verdict.{question_of}
use Rattle.settle_core.proofs.Histories.{placed-more}
use Rattle.settle_core.proofs.Inductions.{legal-all}
use Rattle.settle_core.proofs.Parts.{or-none, there}
use Rattle.settle_core.proofs.Verdicts.{accepted-left, accepted-once, accepted-order, accepted-others, accepted-proceeds, earlier-none, where_-none}

-- ---- what an order makes, and what was filled of it

-- what it makes; one that was never placed makes nothing
abbrev making_of : Option Placed → ℕ
making_of None = 0
making_of (Some order) = order.limit.making

abbrev makes : List Act → ℕ → ℕ
makes history order = making_of (slice_get (placed history) order)

-- no order is filled above that
abbrev IsWithin : List Act → Type 0
IsWithin history = (order : ℕ) → filled history order ≤ makes history order

-- what is known of an order is its limit, and what was filled of it
abbrev making_known : Option OrderState → ℕ
making_known None = 0
making_known (Some order) = order.placed.limit.making

filled-from : (history : List Act) (n : ℕ) (ps : List Placed) (k : ℕ) (f : OrderState) → option_map state_of (slice_get (orders_from history n ps) k) ≡ Some f → f.filled ≡ filled history (n + k)
filled-from history n [] k f at = cc
filled-from history n (p ∷ ps) zero f at =
    let is : state_of (record { placed = p; filled = filled history n; ended = is_ended history n }) ≡ f = cc in
    let place : n ≡ n + 0 = omega arith in
    sym (ap (λ (x : OrderState). x.filled) is) ∙ ap (filled history) place
filled-from history n (p ∷ ps) (suc k) f at =
    let place : suc n + k ≡ n + suc k = omega arith in
    filled-from history (suc n) ps k f at ∙ ap (filled history) place

filled-known : (history : List Act) (order : ℕ) (f : OrderState) → order_state history order ≡ Some f → f.filled ≡ filled history order
filled-known history order f at =
    let place : 0 + order ≡ order = omega arith in
    filled-from history 0 (placed history) order f at ∙ ap (filled history) place

making-from : (history : List Act) (n : ℕ) (ps : List Placed) (k : ℕ) → making_known (option_map state_of (slice_get (orders_from history n ps) k)) ≡ making_of (slice_get ps k)
making-from history n [] k = refl
making-from history n (p ∷ ps) zero = refl
making-from history n (p ∷ ps) (suc k) = making-from history (suc n) ps k

making-same : (history : List Act) (order : ℕ) (f : OrderState) → order_state history order ≡ Some f → f.placed.limit.making ≡ makes history order
making-same history order f at = sym (ap making_known at) ∙ making-from history 0 (placed history) order

-- ---- one fill

-- of an order that a match names as much as its fill is left
fits : (history : List Act) (place : ℕ) (order fill : ℕ) → let known = order_state history in IsWithin history → where_ (is_none (known order)) (NoOrder place) ≡ None → by_rule overfilled place fill (known order) ≡ None
    → filled history order + fill ≤ makes history order
fits history place order fill within is left =
    let found = there (order_state history order) place is in
    let here : overfilled place fill found.0 ≡ None = sym (ap (by_rule overfilled place fill) found.1) ∙ left in
    let enough : nat_lt (rest_of found.0) fill ≡ false = where_-none (nat_lt (rest_of found.0) fill) (Overfill place (rest_of found.0)) here in
    let before = filled-known history order found.0 found.1 in
    let making = making-same history order found.0 found.1 in
    let so_far = within order in
    grind (arith, nat_tests, enough, before, making, so_far)

-- what a maker fills of an order
fills-it : (order : ℕ) (maker : ℕ × ℕ) → (maker.0 == order) ≡ true → fill_of order maker ≡ maker.1
fills-it order maker same = ap (λ b. cond b maker.1 0) same

fills-other : (order : ℕ) (maker : ℕ × ℕ) → (maker.0 == order) ≡ false → fill_of order maker ≡ 0
fills-other order maker apart = ap (λ b. cond b maker.1 0) apart

-- ---- the makers of a match

or-true : (b : Bool) → (b || true) ≡ true
or-true true = refl
or-true false = refl

or-left : (a b : Bool) → a ≡ true → (a || b) ≡ true
or-left true b e = refl
or-left false b e = cc

-- an order that was named isn't named again
named-once : (order : ℕ) (earlier : List (ℕ × ℕ)) (place : ℕ) (makers : List (ℕ × ℕ)) → list_any (λ e. e.0 == order) earlier ≡ true → repeated_from earlier place makers ≡ None → sum_by (fill_of order) makers ≡ 0
named-once order earlier place [] named once = refl
named-once order earlier place (m ∷ ms) named once =
    let parts = or-none (where_ (list_any (λ e. e.0 == m.0) earlier) (RepeatedOrder place)) (repeated_from (earlier ++ m ∷ []) (suc place) ms) once in
    let new : list_any (λ (e : ℕ × ℕ). e.0 == m.0) earlier ≡ false = where_-none _ (RepeatedOrder place) parts.0 in
    let still : list_any (λ (e : ℕ × ℕ). e.0 == order) (earlier ++ m ∷ []) ≡ true
    = list_any-append (λ (e : ℕ × ℕ). e.0 == order) earlier (m ∷ []) ∙ or-left _ (list_any (λ (e : ℕ × ℕ). e.0 == order) (m ∷ [])) named in
    let rest = named-once order (earlier ++ m ∷ []) (suc place) ms still parts.1 in
    let sums = sum_by-cons (fill_of order) m ms in
    elim (cases_Bool (m.0 == order)) [
      | inl same ↦
          let is : m.0 ≡ order = eqb-true m.0 order same in
          absurd (clash (sym new ∙ (ap (λ (o : ℕ). list_any (λ (e : ℕ × ℕ). e.0 == o) earlier) is ∙ named)))
      | inr apart ↦ omega (arith, sums, rest, fills-other order m apart)
    ]
  where
    clash : false ≡ true → ⊥
    clash e = cc

-- so the makers fill an order once at most
makers-fit : (history : List Act) (order : ℕ) (earlier : List (ℕ × ℕ)) (place : ℕ) (makers : List (ℕ × ℕ)) → let known = order_state history in IsWithin history → repeated_from earlier place makers ≡ None → never_placed known place makers ≡ None
    → at_first known overfilled place makers ≡ None → filled history order + sum_by (fill_of order) makers ≤ makes history order
makers-fit history order earlier place [] within once all left =
    let so_far = within order in
    omega (arith, so_far)
makers-fit history order earlier place (m ∷ ms) within once all left =
    let known = order_state history in
    let o = or-none (where_ (list_any (λ e. e.0 == m.0) earlier) (RepeatedOrder place)) (repeated_from (earlier ++ m ∷ []) (suc place) ms) once in
    let a = or-none (where_ (is_none (known m.0)) (NoOrder place)) (never_placed known (suc place) ms) all in
    let l = or-none (by_rule overfilled place m.1 (known m.0)) (at_first known overfilled (suc place) ms) left in
    let sums = sum_by-cons (fill_of order) m ms in
    elim (cases_Bool (m.0 == order)) [
      | inl same ↦
          let is : m.0 ≡ order = eqb-true m.0 order same in
          let named : list_any (λ (e : ℕ × ℕ). e.0 == order) (earlier ++ m ∷ []) ≡ true
          = list_any-append (λ (e : ℕ × ℕ). e.0 == order) earlier (m ∷ []) ∙ (ap (λ b. list_any (λ (e : ℕ × ℕ). e.0 == order) earlier || (b || false)) same ∙ or-true _) in
          let rest = named-once order (earlier ++ m ∷ []) (suc place) ms named o.1 in
          let one : filled history order + m.1 ≤ makes history order = subst (λ (x : ℕ). filled history x + m.1 ≤ makes history x) is (fits history place m.0 m.1 within a.0 l.0) in
          omega (arith, sums, rest, one, fills-it order m same)
      | inr apart ↦
          let rest = makers-fit history order (earlier ++ m ∷ []) (suc place) ms within o.1 a.1 l.1 in
          omega (arith, sums, rest, fills-other order m apart)
    ]

-- no maker is the taker's order
makers-other : (known : ℕ → Option OrderState) (taker : ℕ) (order : OrderState) (place : ℕ) (makers : List (ℕ × ℕ)) → known taker ≡ Some order → at_first known (own order.placed) place makers ≡ None → sum_by (fill_of taker) makers ≡ 0
makers-other known taker order place [] at other = refl
makers-other known taker order place (m ∷ ms) at other =
    let o = or-none (by_rule (own order.placed) place m.1 (known m.0)) (at_first known (own order.placed) (suc place) ms) other in
    let rest = makers-other known taker order (suc place) ms at o.1 in
    let sums = sum_by-cons (fill_of taker) m ms in
    elim (cases_Bool (m.0 == taker)) [
      | inl same ↦
          let is : known m.0 ≡ Some order = ap known (eqb-true m.0 taker same) ∙ at in
          let here : own order.placed place m.1 order ≡ None = sym (ap (by_rule (own order.placed) place m.1) is) ∙ o.0 in
          let apart : (order.placed.account == order.placed.account) ≡ false = where_-none (order.placed.account == order.placed.account) (SelfMatch place) here in
          absurd (grind (arith, nat_tests, apart))
      | inr apart ↦ omega (arith, sums, rest, fills-other taker m apart)
    ]

-- ---- a match

match-fits : (history : List Act) (taker fill : ℕ) (makers : List (ℕ × ℕ)) (order : ℕ) → let known = order_state history in IsWithin history → never_placed known 0 ((taker, fill) ∷ makers) ≡ None → by_taker known own (known taker) makers ≡ None
    → repeated_from [] 1 makers ≡ None → at_first known overfilled 0 ((taker, fill) ∷ makers) ≡ None → filled history order + filled_by order (Match taker fill makers) ≤ makes history order
match-fits history taker fill makers order within all other once left =
    let known = order_state history in
    let a = or-none (where_ (is_none (known taker)) (NoOrder 0)) (never_placed known 1 makers) all in
    let l = or-none (by_rule overfilled 0 fill (known taker)) (at_first known overfilled 1 makers) left in
    elim (cases_Bool (taker == order)) [
      | inl same ↦
          let is : taker ≡ order = eqb-true taker order same in
          let found = there (known taker) 0 a.0 in
          let others : at_first known (own found.0.placed) 1 makers ≡ None = sym (ap (λ (x : Option OrderState). by_taker known own x makers) found.1) ∙ other in
          let none : sum_by (fill_of order) makers ≡ 0 = subst (λ (o : ℕ). sum_by (fill_of o) makers ≡ 0) is (makers-other known taker found.0 1 makers found.1 others) in
          let one : filled history order + fill ≤ makes history order = subst (λ (o : ℕ). filled history o + fill ≤ makes history o) is (fits history 0 taker fill within a.0 l.0) in
          omega (arith, none, one, fills-it order (taker, fill) same)
      | inr apart ↦
          let rest = makers-fit history order [] 1 makers within once a.1 l.1 in
          omega (arith, rest, fills-other order (taker, fill) apart)
    ]

-- ---- one act more

filled-more : (history : List Act) (act : Act) (order : ℕ) → filled (history ++ act ∷ []) order ≡ filled history order + filled_by order act.command
filled-more history act order = sum_by_push (λ (x : Act). filled_by order x.command) history act

command-fits : (history : List Act) (command : Command) (order : ℕ) → let known = order_state history in IsWithin history → never_placed known 0 (orders_named command) ≡ None → of_makers known own command ≡ None → repeats command ≡ None
    → at_first known overfilled 0 (orders_matched command) ≡ None → filled history order + filled_by order command ≤ makes history order
command-fits history (Match taker fill makers) order within all other once left = match-fits history taker fill makers order within all other once left
command-fits history command order within all other once left =
    let so_far = within order in
    omega (arith, so_far)

-- an order that was placed makes what it made
makes-still : (ps qs : List Placed) (order : ℕ) → making_of (slice_get ps order) ≤ making_of (slice_get (ps ++ qs) order)
makes-still [] qs order = omega arith
makes-still (p ∷ ps) qs zero = omega arith
makes-still (p ∷ ps) qs (suc order) = makes-still ps qs order

within-more : (limits : Bounds) (history : List Act) (act : Act) → IsWithin history → IsAccepted limits history act → IsWithin (history ++ act ∷ [])
within-more limits history act within accepted order =
    let q = question_of limits history act in
    let none = earlier-none q accepted.accepted in
    let fit = command-fits history act.command order within (accepted-order q none) (accepted-others q none) (accepted-once q none) (accepted-left q none) in
    let more : makes (history ++ act ∷ []) order ≡ making_of (slice_get (placed history ++ placed_by act.account act.command) order)
    = ap (λ (os : List Placed). making_of (slice_get os order)) (placed-more history act) in
    let still = makes-still (placed history) (placed_by act.account act.command) order in
    let sums = filled-more history act order in
    omega (arith, fit, more, still, sums)

filled-within : (limits : Bounds) (history : List Act) → IsLegal limits history → IsWithin history
filled-within limits history legal = legal-all limits IsWithin (λ order. omega arith) (within-more limits) history legal

-- ---- limits

no-less : (n : ℕ) → n ≤ n
no-less n = omega arith

-- a maker gets what its limit gives
makers-at-limit : (makers : List Part) → All IsAtLimit (map (λ m. fill_by m (taking_by m)) makers)
makers-at-limit [] = All-nil IsAtLimit
makers-at-limit (m ∷ ms) = All-cons IsAtLimit (fill_by m (taking_by m)) (map (λ m. fill_by m (taking_by m)) ms) (no-less (taking_by m)) (makers-at-limit ms)

-- and the taker no less
taker-at-limit : (taker : Part) (got : ℕ) → nat_lt got (floor_of taker) ≡ false → IsAtLimit (fill_by taker got)
taker-at-limit taker got enough = by (floor_of taker) enough
  where
    by : (least : ℕ) → nat_lt got least ≡ false → least ≤ got
    by least enough = grind (arith, nat_tests, enough)

little-none : (b : Bool) (little : ℕ × ℕ) → cond b (Some little) None ≡ None → b ≡ false
little-none true little none = cc
little-none false little none = refl

match-at-limit : (taker : Option Placed) (fill : ℕ) (makers : List Part) → little_in taker fill makers ≡ None → All IsAtLimit (fills_in taker fill makers)
match-at-limit None fill makers none = All-nil IsAtLimit
match-at-limit (Some order) fill makers none =
    let taker = part_of order fill in
    let enough : nat_lt (got_of taker makers) (floor_of taker) ≡ false = little-none (nat_lt (got_of taker makers) (floor_of taker)) (got_of taker makers, floor_of taker) none in
    All-cons IsAtLimit (fill_by taker (got_of taker makers)) (map (λ m. fill_by m (taking_by m)) makers) (taker-at-limit taker (got_of taker makers) enough) (makers-at-limit makers)

command-at-limit : (orders : List Placed) (command : Command) → little_by orders command ≡ None → All IsAtLimit (fills_by orders command)
command-at-limit orders (Match taker fill makers) none = match-at-limit (slice_get orders taker) fill (parts_in orders makers) none
command-at-limit orders command none = All-nil IsAtLimit

-- ---- a legal history

pub fair : (limits : Bounds) (history : List Act) → IsLegal limits history → IsFair history
fair limits history legal = record {
  within = λ number order at. subst (λ (o : Option Placed). filled history number ≤ making_of o) at (filled-within limits history legal number);
  at_limit = λ place act at.
      let q = question_of limits (take place history) act in
      command-at-limit (placed (take place history)) act.command (accepted-proceeds q (earlier-none q (legal place act at).accepted));
}
