-- The counts of open orders stay right when a market is opened, and when an order is placed, filled or ended.
use Rattle.std.proofs.Common.{◌≡◌, ◌≢◌, ℕ, zero, suc, ◌+◌, ◌-◌, ◌<◌, Bool, true, false, cond, List, [], ◌∷◌, ◌++◌, length, Option, Some, None, replicate, refl, sym, ◌∙◌, ap, subst, arith, inl, inr, get_or}
use Rattle.std.specs.Prelude.{MatchOption, is_some, map, slice_get, slice_set}
use Rattle.std.specs.Option.{unwrap_or}
use Rattle.std.proofs.lemmas.Bool.{cases_eq}
use Rattle.std.proofs.lemmas.Bool.Decides.{nat_tests}
use Rattle.std.proofs.lemmas.List.{get_or-set_other, get_or-set_same}
use Rattle.std.proofs.lemmas.List.Sums.{sum_by-append, sum_by-set}
use Rattle.std.proofs.lemmas.Option.{MatchOption-at_none, MatchOption-at_some, get_or_from_slice_get, slice_get_cases, slice_get_within}
use Rattle.order_table.specs.Counts.{AreCounted, count_at}
use Rattle.order_table.specs.Orders.{OrderView, is_open, is_open_in, open_in}

-- ---- the kept numbers

-- where a number above 0 is kept there is a place
count_at-within : (counts : List (Option ℕ)) (c : ℕ) → 0 < count_at counts c → c < length counts
count_at-within [] c some = absurd (omega (arith, some))
count_at-within (x ∷ xs) zero some = omega arith
count_at-within (x ∷ xs) (suc c) some = let rest = count_at-within xs c some in omega arith

count_at-set_same : (counts : List (Option ℕ)) (c n : ℕ) → c < length counts → count_at (slice_set counts c (Some n)) c ≡ n
count_at-set_same counts c n inside = rw (get_or-set_same counts c (Some n) None inside) refl

count_at-set_other : (counts : List (Option ℕ)) (c d : ℕ) (n : Option ℕ) → d ≢ c → count_at (slice_set counts c n) d ≡ count_at counts d
count_at-set_other counts c d n apart = rw (get_or-set_other counts c d n None apart) refl

count_at-cleared : (counts : List (Option ℕ)) (c : ℕ) → count_at counts c ≡ 0 → count_at (slice_set counts c (Some 0)) c ≡ 0
count_at-cleared [] c none = refl
count_at-cleared (x ∷ xs) zero none = refl
count_at-cleared (x ∷ xs) (suc c) none = count_at-cleared xs c none

-- what is read at a place is the number that is kept
count_at-read : (counts : List (Option ℕ)) (c : ℕ) (n : Option ℕ) → n ≡ get_or counts c n → c < length counts → unwrap_or n 0 ≡ count_at counts c
count_at-read [] c n is inside = absurd (omega (arith, inside))
count_at-read (x ∷ xs) zero n is inside = ap (λ (m : Option ℕ). unwrap_or m 0) is
count_at-read (x ∷ xs) (suc c) n is inside = count_at-read xs c n is (omega (arith, inside))

-- no market has a number
count_at-none : (n c : ℕ) → count_at (replicate n None) c ≡ 0
count_at-none zero c = refl
count_at-none (suc n) zero = refl
count_at-none (suc n) (suc c) = count_at-none n c

-- ---- which conditions are markets

-- a condition is a market where a number is kept of it
abbrev has_count : List (Option ℕ) → ℕ → Bool
has_count counts c = get_or (map is_some counts) c false

pub has_count-new : (n c : ℕ) → has_count (replicate n None) c ≡ false
has_count-new zero c = refl
has_count-new (suc n) zero = refl
has_count-new (suc n) (suc c) = has_count-new n c

pub has_count-none : (counts : List (Option ℕ)) (c : ℕ) → has_count counts c ≡ false → count_at counts c ≡ 0
has_count-none [] c none = refl
has_count-none (None ∷ xs) zero none = refl
has_count-none (Some n ∷ xs) zero none = cc
has_count-none (x ∷ xs) (suc c) none = has_count-none xs c none

pub has_count-some : (counts : List (Option ℕ)) (c : ℕ) → 0 < count_at counts c → has_count counts c ≡ true
has_count-some [] c some = absurd (omega (arith, some))
has_count-some (None ∷ xs) zero some = absurd (omega (arith, some))
has_count-some (Some n ∷ xs) zero some = refl
has_count-some (x ∷ xs) (suc c) some = has_count-some xs c some

pub has_count-within : (counts : List (Option ℕ)) (c : ℕ) → has_count counts c ≡ true → c < length counts
has_count-within [] c market = cc
has_count-within (x ∷ xs) zero market = omega arith
has_count-within (x ∷ xs) (suc c) market = let rest = has_count-within xs c market in omega arith

pub has_count-set : (counts : List (Option ℕ)) (c n : ℕ) → c < length counts → has_count (slice_set counts c (Some n)) c ≡ true
has_count-set [] c n inside = absurd (omega (arith, inside))
has_count-set (x ∷ xs) zero n inside = refl
has_count-set (x ∷ xs) (suc c) n inside = has_count-set xs c n (omega (arith, inside))

pub has_count-set_other : (counts : List (Option ℕ)) (c d n : ℕ) → d ≢ c → has_count (slice_set counts c (Some n)) d ≡ has_count counts d
has_count-set_other [] c d n apart = refl
has_count-set_other (x ∷ xs) zero zero n apart = absurd (apart refl)
has_count-set_other (x ∷ xs) zero (suc d) n apart = refl
has_count-set_other (x ∷ xs) (suc c) zero n apart = refl
has_count-set_other (x ∷ xs) (suc c) (suc d) n apart = has_count-set_other xs c d n (λ same. apart (omega (arith, same)))

-- another number of a market leaves the markets as they are
pub markets-same : (counts : List (Option ℕ)) (c n : ℕ) → has_count counts c ≡ true → map is_some (slice_set counts c (Some n)) ≡ map is_some counts
markets-same [] c n market = refl
markets-same (None ∷ xs) zero n market = cc
markets-same (Some m ∷ xs) zero n market = refl
markets-same (x ∷ xs) (suc c) n market = ap (λ (bs : List Bool). is_some x ∷ bs) (markets-same xs c n market)

-- ---- the order that is named

-- what a call asks of an order holds of the one that stands there
pub order-there : (P : OrderView → Type 0) (orders : List OrderView) (i : ℕ) (x : OrderView) → x ≡ get_or orders i x → MatchOption (slice_get orders i) ⊥ P → (slice_get orders i ≡ Some x) × P x
order-there P orders i x is asked =
    elim ((slice_get_cases orders i).1) [
      | inl there ↦
          let same : there.0 ≡ x = sym (get_or_from_slice_get orders i there.0 x there.2) ∙ sym is in
          (there.2 ∙ ap (λ (y : OrderView). Some y) same, subst P same (MatchOption-at_some ⊥ P there.0 there.2 asked))
      | inr past ↦ absurd (MatchOption-at_none ⊥ P past.1 asked)
    ]

-- the order there is changed, and no other
pub order-changed : (f : OrderView → OrderView) (orders : List OrderView) (i : ℕ) (x y : OrderView) → slice_get orders i ≡ Some x → y ≡ f x
    → MatchOption (slice_get orders i) ⊥ (λ order. slice_set orders i y ≡ slice_set orders i (f order))
order-changed f orders i x y there is =
    subst (λ (found : Option OrderView). MatchOption found ⊥ (λ order. slice_set orders i y ≡ slice_set orders i (f order))) (sym there) (ap (slice_set orders i) is)

-- ---- what an order counts

-- 1 where it is open and of this market, and else 0
abbrev weight : ℕ → OrderView → ℕ
weight c order = cond (is_open_in c order) 1 0

weight-open : (c : ℕ) (x : OrderView) → is_open x ≡ true → x.placed.market ≡ c → weight c x ≡ 1
weight-open c x live here = grind (arith, nat_tests)

weight-other : (c : ℕ) (x : OrderView) → c ≢ x.placed.market → weight c x ≡ 0
weight-other c x apart = grind (arith, nat_tests)

weight-closed : (c : ℕ) (x : OrderView) → is_open x ≡ false → weight c x ≡ 0
weight-closed c x closed = grind (arith, nat_tests)

weight-same : (c : ℕ) (x y : OrderView) → is_open x ≡ true → is_open y ≡ true → y.placed ≡ x.placed → weight c y ≡ weight c x
weight-same c x y live still same = grind (arith, nat_tests)

open_in-push : (orders : List OrderView) (x : OrderView) (c : ℕ) → open_in (orders ++ x ∷ []) c ≡ open_in orders c + weight c x
open_in-push orders x c = let parts = sum_by-append (weight c) orders (x ∷ []) in omega (arith, parts)

open_in-set : (orders : List OrderView) (i : ℕ) (x y : OrderView) (c : ℕ) → slice_get orders i ≡ Some x → open_in (slice_set orders i y) c + weight c x ≡ open_in orders c + weight c y
open_in-set orders i x y c there =
    let inside = slice_get_within orders i x there in
    let here : get_or orders i x ≡ x = get_or_from_slice_get orders i x x there in
    rw here at (sum_by-set (weight c) orders i y x inside)

-- ---- the counts of a table

pub counted-new : (n limit : ℕ) → AreCounted [] (replicate n None) limit
counted-new n limit = λ c. record { count = sym (count_at-none n c); within = omega arith }

-- a market of which nothing is open
pub counted-market : (orders : List OrderView) (counts : List (Option ℕ)) (limit c : ℕ) → count_at counts c ≡ 0 → AreCounted orders counts limit → AreCounted orders (slice_set counts c (Some 0)) limit
counted-market orders counts limit c none so_far = λ d.
    elim (cases_eq d c) [
      | inl here ↦ record { count = rw here ((so_far c).count ∙ (none ∙ sym (count_at-cleared counts c none))); within = (so_far d).within }
      | inr apart ↦ record { count = (so_far d).count ∙ sym (count_at-set_other counts c d (Some 0) apart); within = (so_far d).within }
    ]

-- an open order more
pub counted-push : (orders : List OrderView) (counts : List (Option ℕ)) (limit : ℕ) (x : OrderView) → is_open x ≡ true → x.placed.market < length counts → open_in orders x.placed.market < limit
    → AreCounted orders counts limit → AreCounted (orders ++ x ∷ []) (slice_set counts x.placed.market (Some (count_at counts x.placed.market + 1))) limit
counted-push orders counts limit x live inside below so_far = λ c.
    let more = open_in-push orders x c in
    let old = (so_far c).count in
    let old_within = (so_far c).within in
    elim (cases_eq x.placed.market c) [
      | inl here ↦
          let one = weight-open c x live here in
          let set = count_at-set_same counts x.placed.market (count_at counts x.placed.market + 1) inside in
          let at_c : count_at (slice_set counts x.placed.market (Some (count_at counts x.placed.market + 1))) c ≡ count_at counts c + 1 = subst (λ (m : ℕ). count_at (slice_set counts x.placed.market (Some (count_at counts x.placed.market + 1))) m ≡ count_at counts m + 1) here set in
          let below_c : open_in orders c < limit = subst (λ (m : ℕ). open_in orders m < limit) here below in
          record { count = omega (arith, more, one, at_c, old); within = omega (arith, more, one, below_c) }
      | inr apart ↦
          let none = weight-other c x (λ same. apart (sym same)) in
          let kept = count_at-set_other counts x.placed.market c (Some (count_at counts x.placed.market + 1)) (λ same. apart (sym same)) in
          record { count = omega (arith, more, none, kept, old); within = omega (arith, more, none, old_within) }
    ]

-- an open order stays open
pub counted-still : (orders : List OrderView) (counts : List (Option ℕ)) (limit i : ℕ) (x y : OrderView) → slice_get orders i ≡ Some x → is_open x ≡ true → is_open y ≡ true → y.placed ≡ x.placed
    → AreCounted orders counts limit → AreCounted (slice_set orders i y) counts limit
counted-still orders counts limit i x y there live still same so_far = λ c.
    let changed = open_in-set orders i x y c there in
    let alike = weight-same c x y live still same in
    let old = (so_far c).count in
    let old_within = (so_far c).within in
    record { count = omega (arith, changed, alike, old); within = omega (arith, changed, alike, old_within) }

-- of an open order's market a number above 0 is kept
pub counted-some : (orders : List OrderView) (counts : List (Option ℕ)) (limit i : ℕ) (x : OrderView) → slice_get orders i ≡ Some x → is_open x ≡ true
    → AreCounted orders counts limit → 0 < count_at counts x.placed.market
counted-some orders counts limit i x there live so_far =
    let c = x.placed.market in
    let y : OrderView = record x { ended = true } in
    let changed = open_in-set orders i x y c there in
    let none : weight c y ≡ 0 = weight-closed c y refl in
    let one = weight-open c x live refl in
    let old = (so_far c).count in
    omega (arith, changed, none, one, old)

-- that number is what is read there
pub counted-read : (orders : List OrderView) (counts : List (Option ℕ)) (limit i : ℕ) (x : OrderView) (c : ℕ) (n : Option ℕ) → slice_get orders i ≡ Some x → is_open x ≡ true
    → AreCounted orders counts limit → c ≡ x.placed.market → n ≡ get_or counts c n → unwrap_or n 0 ≡ count_at counts x.placed.market
counted-read orders counts limit i x c n there live so_far here is =
    count_at-read counts x.placed.market n (rw here at is) (count_at-within counts x.placed.market (counted-some orders counts limit i x there live so_far))

-- an open order is open no more
pub counted-close : (orders : List OrderView) (counts : List (Option ℕ)) (limit i : ℕ) (x y : OrderView) → slice_get orders i ≡ Some x → is_open x ≡ true → is_open y ≡ false
    → AreCounted orders counts limit → AreCounted (slice_set orders i y) (slice_set counts x.placed.market (Some (count_at counts x.placed.market - 1))) limit
counted-close orders counts limit i x y there live closed so_far = λ c.
    let changed = open_in-set orders i x y c there in
    let none = weight-closed c y closed in
    let old = (so_far c).count in
    let old_within = (so_far c).within in
    let some = counted-some orders counts limit i x there live so_far in
    elim (cases_eq x.placed.market c) [
      | inl here ↦
          let one = weight-open c x live here in
          let set = count_at-set_same counts x.placed.market (count_at counts x.placed.market - 1) (count_at-within counts x.placed.market some) in
          let at_c : count_at (slice_set counts x.placed.market (Some (count_at counts x.placed.market - 1))) c ≡ count_at counts c - 1 = subst (λ (m : ℕ). count_at (slice_set counts x.placed.market (Some (count_at counts x.placed.market - 1))) m ≡ count_at counts m - 1) here set in
          record { count = omega (arith, changed, none, one, at_c, old); within = omega (arith, changed, none, one, old_within) }
      | inr apart ↦
          let nothing = weight-other c x (λ same. apart (sym same)) in
          let kept = count_at-set_other counts x.placed.market c (Some (count_at counts x.placed.market - 1)) (λ same. apart (sym same)) in
          record { count = omega (arith, changed, none, nothing, kept, old); within = omega (arith, changed, none, nothing, old_within) }
    ]
