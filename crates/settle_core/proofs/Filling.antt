-- What fills make of the orders of a table, one after another, and that they may be made.
use Rattle.std.proofs.Common.{◌≡◌, ◌≢◌, ℕ, zero, suc, ◌+◌, ◌<◌, ◌≤◌, Bool, true, false, cond, List, [], ◌∷◌, ◌++◌, length, Option, Some, None, refl, sym, ap, subst, ◌∙◌, arith}
use Rattle.std.specs.Prelude.{◌==◌, ◌||◌, not, nat_lt, is_none, option_map, slice_get, sum_by, MatchOption}
use Rattle.std.specs.List.{list_any}
use Rattle.std.proofs.lemmas.Bool.{not-false}
use Rattle.std.proofs.lemmas.Bool.Decides.{nat_tests}
use Rattle.std.proofs.lemmas.List.Folds.{list_any-append}
use Rattle.std.proofs.lemmas.List.Sums.{sum_by-cons}
use Rattle.std.proofs.lemmas.Option.{slice_get_within}
use Rattle.command_words.specs.declared.act.Act.{Act}
use Rattle.command_words.specs.declared.refusal.Refusal.TheVariants.{NoOrder, NotOpen, SelfMatch, RepeatedOrder, Overfill}
use Rattle.order_table.specs.Orders.{OrderView, MayFill, after_fill, state_of, is_open, rest_of}
use Rattle.order_table.specs.declared.order.OrderState.{OrderState}
use Rattle.order_table.specs.declared.order.Placed.{Placed}
use Rattle.settle_core.specs.Kept.{MayFillAll, filled_at, filled_in}
use Rattle.settle_core.specs.OrderRules.{at_first, by_rule, by_taker, never_placed, overfilled, own, repeated_from, shut, where_}
use Rattle.settle_core.specs.Orders.{fill_of, filled, is_ended, orders_from}
use Rattle.settle_core.proofs.Lists.{set-elsewhere}
use Rattle.settle_core.proofs.Parts.{or-none}
use Rattle.settle_core.proofs.Verdicts.{where_-none}

-- ---- orders that were placed

-- what is known of the orders of a table
abbrev pub facts_in : List OrderView → ℕ → Option OrderState
facts_in os order = option_map state_of (slice_get os order)

-- an order that was placed
there : (o : Option OrderView) (place : ℕ) → where_ (is_none (option_map state_of o)) (NoOrder place) ≡ None → (v : OrderView) × (o ≡ Some v)
there None place none = cc
there (Some v) place none = (v, refl)

pub named-within : (os : List OrderView) (order place : ℕ) → where_ (is_none (facts_in os order)) (NoOrder place) ≡ None → order < length os
named-within os order place none =
    let found = there (slice_get os order) place none in
    slice_get_within os order found.0 found.1

-- ---- orders by what became of them

abbrev pub views_from : (ℕ → ℕ) → (ℕ → Bool) → ℕ → List Placed → List OrderView
views_from fills ends n [] = []
views_from fills ends n (p ∷ ps) = record { placed = p; filled = fills n; ended = ends n } ∷ views_from fills ends (suc n) ps

pub views-of_orders : (history : List Act) (n : ℕ) (ps : List Placed) → orders_from history n ps ≡ views_from (filled history) (is_ended history) n ps
views-of_orders history n [] = refl
views-of_orders history n (p ∷ ps) =
    ap (λ (more : List OrderView). record { placed = p; filled = filled history n; ended = is_ended history n } ∷ more) (views-of_orders history (suc n) ps)

-- the same became of them
pub views-same : (f g : ℕ → ℕ) (d e : ℕ → Bool) (n : ℕ) (ps : List Placed) → ((o : ℕ) → n ≤ o → (f o ≡ g o) × (d o ≡ e o)) → views_from f d n ps ≡ views_from g e n ps
views-same f g d e n [] same = refl
views-same f g d e n (p ∷ ps) same =
    let here = same n (omega arith) in
    let rest = views-same f g d e (suc n) ps (λ o past. same o (omega arith)) in
    λ i. record { placed = p; filled = here.0 i; ended = here.1 i } ∷ rest i

-- ---- what fills make of them

filled-behind : (x : OrderView) (os : List OrderView) (k fill : ℕ) (o : Option OrderView) → filled_at (x ∷ os) (suc k) fill o ≡ x ∷ filled_at os k fill o
filled-behind x os k fill None = refl
filled-behind x os k fill (Some v) = refl

-- one is filled by so much more
fill-at : (f : ℕ → ℕ) (e : ℕ → Bool) (order fill n k : ℕ) (ps : List Placed) → order ≡ n + k
    → filled_at (views_from f e n ps) k fill (slice_get (views_from f e n ps) k) ≡ views_from (λ o. f o + fill_of o (order, fill)) e n ps
fill-at f e order fill n k [] place = refl
fill-at f e order fill n zero (p ∷ ps) place =
    let same : (order == n) ≡ true = grind (arith, nat_tests, place) in
    let here : f n + fill ≡ f n + fill_of n (order, fill) = ap (λ (b : Bool). f n + cond b fill 0) (sym same) in
    let rest = views-same f (λ o. f o + fill_of o (order, fill)) e e (suc n) ps (λ o past. (other o past, refl)) in
    λ i. record { placed = p; filled = here i; ended = e n } ∷ rest i
  where
    other : (o : ℕ) → suc n ≤ o → f o ≡ f o + fill_of o (order, fill)
    other o past =
        let apart : (order == o) ≡ false = grind (arith, nat_tests, place, past) in
        omega (arith, ap (λ (b : Bool). cond b fill 0) apart)
fill-at f e order fill n (suc k) (p ∷ ps) place =
    let x : OrderView = record { placed = p; filled = f n; ended = e n } in
    let apart : (order == n) ≡ false = grind (arith, nat_tests, place) in
    let none : fill_of n (order, fill) ≡ 0 = ap (λ (b : Bool). cond b fill 0) apart in
    let here : f n ≡ f n + fill_of n (order, fill) = omega (arith, none) in
    let rest = fill-at f e order fill (suc n) k ps (omega (arith, place)) in
    filled-behind x (views_from f e (suc n) ps) k fill (slice_get (views_from f e (suc n) ps) k)
    ∙ (λ i. record { placed = p; filled = here i; ended = e n } ∷ rest i)

-- what is filled of each adds up
pub fill-all : (f : ℕ → ℕ) (e : ℕ → Bool) (ps : List Placed) (ns : List (ℕ × ℕ)) → filled_in (views_from f e 0 ps) ns ≡ views_from (λ o. f o + sum_by (fill_of o) ns) e 0 ps
fill-all f e ps [] = views-same f (λ o. f o + sum_by (fill_of o) []) e e 0 ps (λ o past. (omega arith, refl))
fill-all f e ps (n ∷ ns) =
    ap (λ (os : List OrderView). filled_in os ns) (fill-at f e n.0 n.1 0 n.0 ps (omega arith))
    ∙ (fill-all (λ o. f o + fill_of o n) e ps ns
    ∙ views-same (λ o. (f o + fill_of o n) + sum_by (fill_of o) ns) (λ o. f o + sum_by (fill_of o) (n ∷ ns)) e e 0 ps (λ o past. (omega (arith, sum_by-cons (fill_of o) n ns), refl)))

-- nothing is filled past the orders that were placed
pub none-filled : (os : List OrderView) (o place : ℕ) (ns : List (ℕ × ℕ)) → length os ≤ o → never_placed (facts_in os) place ns ≡ None → sum_by (fill_of o) ns ≡ 0
none-filled os o place [] past none = refl
none-filled os o place (n ∷ ns) past none =
    let parts = or-none (where_ (is_none (facts_in os n.0)) (NoOrder place)) (never_placed (facts_in os) (suc place) ns) none in
    let below = named-within os n.0 place parts.0 in
    let apart : (n.0 == o) ≡ false = grind (arith, nat_tests, below, past) in
    let here : fill_of o n ≡ 0 = ap (λ (b : Bool). cond b n.1 0) apart in
    omega (arith, here, none-filled os o (suc place) ns past parts.1, sum_by-cons (fill_of o) n ns)

-- ---- fills that may be made

-- each may be made of a table
abbrev MayEach : List OrderView → List (ℕ × ℕ) → Type 0
MayEach os [] = Unit {0}
MayEach os (n ∷ ns) = MatchOption (slice_get os n.0) ⊥ (λ v. MayFill v n.1) × MayEach os ns

-- none of them names an order
abbrev IsUnnamed : ℕ → List (ℕ × ℕ) → Type 0
IsUnnamed order [] = Unit {0}
IsUnnamed order (n ∷ ns) = (n.0 ≢ order) × IsUnnamed order ns

-- no two of them name one order
abbrev AreApart : List (ℕ × ℕ) → Type 0
AreApart [] = Unit {0}
AreApart (n ∷ ns) = IsUnnamed n.0 ns × AreApart ns

filled-elsewhere : (os : List OrderView) (order fill other : ℕ) (o : Option OrderView) → other ≢ order → slice_get (filled_at os order fill o) other ≡ slice_get os other
filled-elsewhere os order fill other None apart = refl
filled-elsewhere os order fill other (Some v) apart = set-elsewhere os order other (after_fill v fill) apart

-- where another order is filled they still may
still-each : (os : List OrderView) (order fill : ℕ) (o : Option OrderView) (ns : List (ℕ × ℕ)) → IsUnnamed order ns → MayEach os ns → MayEach (filled_at os order fill o) ns
still-each os order fill o [] unnamed may = tt
still-each os order fill o (n ∷ ns) unnamed may =
    (subst (λ (x : Option OrderView). MatchOption x ⊥ (λ v. MayFill v n.1)) (sym (filled-elsewhere os order fill n.0 o unnamed.0)) may.0, still-each os order fill o ns unnamed.1 may.1)

may-all : (os : List OrderView) (ns : List (ℕ × ℕ)) → AreApart ns → MayEach os ns → MayFillAll os ns
may-all os [] apart may = tt
may-all os (n ∷ ns) apart may = (may.0, may-all (filled_at os n.0 n.1 (slice_get os n.0)) ns apart.1 (still-each os n.0 n.1 (slice_get os n.0) ns apart.0 may.1))

-- an order that no rule refuses is open
open-here : (o : Option OrderView) (place fill : ℕ) → where_ (is_none (option_map state_of o)) (NoOrder place) ≡ None → by_rule shut place fill (option_map state_of o) ≡ None
    → MatchOption o ⊥ (λ v. is_open v ≡ true)
open-here None place fill placed none = cc
open-here (Some v) place fill placed none = not-false (is_open v) (where_-none (not (is_open v)) (NotOpen v.filled place) none)

pub named-open : (os : List OrderView) (order : ℕ) → never_placed (facts_in os) 0 ((order, 0) ∷ []) ≡ None → at_first (facts_in os) shut 0 ((order, 0) ∷ []) ≡ None
    → MatchOption (slice_get os order) ⊥ (λ v. is_open v ≡ true)
named-open os order placed none =
    open-here (slice_get os order) 0 0 (or-none (where_ (is_none (facts_in os order)) (NoOrder 0)) None placed).0 (or-none (by_rule shut 0 0 (facts_in os order)) None none).0

-- and as much as its fill is left of it
may-here : (o : Option OrderView) (place fill : ℕ) → where_ (is_none (option_map state_of o)) (NoOrder place) ≡ None → by_rule shut place fill (option_map state_of o) ≡ None
    → by_rule overfilled place fill (option_map state_of o) ≡ None → MatchOption o ⊥ (λ v. MayFill v fill)
may-here None place fill placed none left = cc
may-here (Some v) place fill placed none left =
    let less : nat_lt (rest_of v) fill ≡ false = where_-none (nat_lt (rest_of v) fill) (Overfill place (rest_of v)) left in
    record { still_open = not-false (is_open v) (where_-none (not (is_open v)) (NotOpen v.filled place) none); within = grind (arith, nat_tests, less) }

may-each : (os : List OrderView) (place : ℕ) (ns : List (ℕ × ℕ)) → never_placed (facts_in os) place ns ≡ None → at_first (facts_in os) shut place ns ≡ None
    → at_first (facts_in os) overfilled place ns ≡ None → MayEach os ns
may-each os place [] placed none left = tt
may-each os place (n ∷ ns) placed none left =
    let p = or-none (where_ (is_none (facts_in os n.0)) (NoOrder place)) (never_placed (facts_in os) (suc place) ns) placed in
    let s = or-none (by_rule shut place n.1 (facts_in os n.0)) (at_first (facts_in os) shut (suc place) ns) none in
    let l = or-none (by_rule overfilled place n.1 (facts_in os n.0)) (at_first (facts_in os) overfilled (suc place) ns) left in
    (may-here (slice_get os n.0) place n.1 p.0 s.0 l.0, may-each os (suc place) ns p.1 s.1 l.1)

-- ---- the orders of a match are apart

same-number : (a b : ℕ) → a ≡ b → (a == b) ≡ true
same-number a b same = grind (arith, nat_tests, same)

clash : true ≡ false → ⊥
clash e = cc

-- the taker is none of the makers, which are of other accounts
taker-apart : (known : ℕ → Option OrderState) (taker : ℕ) (order : OrderState) (place : ℕ) (makers : List (ℕ × ℕ)) → known taker ≡ Some order → at_first known (own order.placed) place makers ≡ None → IsUnnamed taker makers
taker-apart known taker order place [] at none = tt
taker-apart known taker order place (m ∷ ms) at none =
    let parts = or-none (by_rule (own order.placed) place m.1 (known m.0)) (at_first known (own order.placed) (suc place) ms) none in
    (other parts.0, taker-apart known taker order (suc place) ms at parts.1)
  where
    other : by_rule (own order.placed) place m.1 (known m.0) ≡ None → m.0 ≢ taker
    other none same =
        let is : known m.0 ≡ Some order = ap known same ∙ at in
        let here : own order.placed place m.1 order ≡ None = sym (ap (by_rule (own order.placed) place m.1) is) ∙ none in
        let apart : (order.placed.account == order.placed.account) ≡ false = where_-none (order.placed.account == order.placed.account) (SelfMatch place) here in
        clash (sym (same-number order.placed.account order.placed.account refl) ∙ apart)

-- what is named before isn't named again
unnamed-again : (earlier : List (ℕ × ℕ)) (place : ℕ) (ns : List (ℕ × ℕ)) (order : ℕ) → repeated_from earlier place ns ≡ None → list_any (λ (e : ℕ × ℕ). e.0 == order) earlier ≡ true → IsUnnamed order ns
unnamed-again earlier place [] order none before = tt
unnamed-again earlier place (n ∷ ns) order none before =
    let parts = or-none (where_ (list_any (λ (e : ℕ × ℕ). e.0 == n.0) earlier) (RepeatedOrder place)) (repeated_from (earlier ++ n ∷ []) (suc place) ns) none in
    let new = where_-none (list_any (λ (e : ℕ × ℕ). e.0 == n.0) earlier) (RepeatedOrder place) parts.0 in (
      λ same. clash (sym before ∙ (ap (λ (k : ℕ). list_any (λ (e : ℕ × ℕ). e.0 == k) earlier) (sym same) ∙ new)),
      unnamed-again (earlier ++ n ∷ []) (suc place) ns order parts.1 (list_any-append (λ (e : ℕ × ℕ). e.0 == order) earlier (n ∷ []) ∙ ap (λ (b : Bool). b || ((n.0 == order) || false)) before),
    )

makers-apart : (earlier : List (ℕ × ℕ)) (place : ℕ) (ns : List (ℕ × ℕ)) → repeated_from earlier place ns ≡ None → AreApart ns
makers-apart earlier place [] none = tt
makers-apart earlier place (n ∷ ns) none =
    let parts = or-none (where_ (list_any (λ (e : ℕ × ℕ). e.0 == n.0) earlier) (RepeatedOrder place)) (repeated_from (earlier ++ n ∷ []) (suc place) ns) none in
    let last : list_any (λ (e : ℕ × ℕ). e.0 == n.0) (earlier ++ n ∷ []) ≡ true
    = list_any-append (λ (e : ℕ × ℕ). e.0 == n.0) earlier (n ∷ []) ∙ (ap (λ (b : Bool). list_any (λ (e : ℕ × ℕ). e.0 == n.0) earlier || (b || false)) (same-number n.0 n.0 refl) ∙ or-true (list_any (λ (e : ℕ × ℕ). e.0 == n.0) earlier)) in
    (unnamed-again (earlier ++ n ∷ []) (suc place) ns n.0 parts.1 last, makers-apart (earlier ++ n ∷ []) (suc place) ns parts.1)
  where
    or-true : (b : Bool) → (b || true) ≡ true
    or-true true = refl
    or-true false = refl

-- so a match that isn't refused for its orders may be made
pub may-match : (os : List OrderView) (taker fill : ℕ) (makers : List (ℕ × ℕ)) → let ns = (taker, fill) ∷ makers in never_placed (facts_in os) 0 ns ≡ None → at_first (facts_in os) shut 0 ns ≡ None
    → by_taker (facts_in os) own (facts_in os taker) makers ≡ None → repeated_from [] 1 makers ≡ None → at_first (facts_in os) overfilled 0 ns ≡ None → MayFillAll os ns
may-match os taker fill makers placed none others once left =
    let ns = (taker, fill) ∷ makers in
    let found = there (slice_get os taker) 0 (or-none (where_ (is_none (facts_in os taker)) (NoOrder 0)) (never_placed (facts_in os) 1 makers) placed).0 in
    let at : facts_in os taker ≡ Some (state_of found.0) = ap (option_map state_of) found.1 in
    let by : at_first (facts_in os) (own found.0.placed) 1 makers ≡ None = sym (ap (λ (x : Option OrderState). by_taker (facts_in os) own x makers) at) ∙ others in
    may-all os ns (taker-apart (facts_in os) taker (state_of found.0) 1 makers at by, makers-apart [] 1 makers once) (may-each os 0 ns placed none left)
