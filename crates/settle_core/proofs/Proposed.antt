-- What is proposed on the snapshot of a legal history is refused for none of its orders, nor for what goes through the exchange
-- or what its taker gets; nor is the match with the first makers alone.
use Rattle.std.proofs.Common.{◌≡◌, ◌≢◌, ℕ, suc, ◌+◌, ◌-◌, ◌<◌, ◌≤◌, Bool, true, false, cond, List, [], ◌∷◌, ◌++◌, Option, Some, None, All, length, take, refl, sym, ap, subst, ◌∙◌, arith}
use Rattle.std.specs.Prelude.{◌==◌, ◌&&◌, ◌||◌, AllPairs, sum, not, nat_lt, is_none, is_some, map, option_map, slice_get, slice_index_or, sum_by}
use Rattle.std.specs.List.{list_any}
use Rattle.std.proofs.lemmas.Bool.{and_parts, eqb-true}
use Rattle.std.proofs.lemmas.Bool.Decides.{nat_tests}
use Rattle.std.proofs.lemmas.List.{get_or-take, length-take, take-map, take_all}
use Rattle.std.proofs.lemmas.List.Elements.{All-append, All-cons, All-contains, All-head, All-nil, All-tail, All-take, All-weaker}
use Rattle.std.proofs.lemmas.List.Folds.{list_any-append}
use Rattle.std.proofs.lemmas.List.Sums.{sum-map, sum_by-take-le}
use Rattle.book_propose.proofs.Proposed.{proposed as is-proposal}
use Rattle.book_propose.specs.Candidates.{crosses_by, fit_with, is_candidate, is_crossing, is_crossing_exactly, kind_with as kind_of_pair}
use Rattle.book_propose.specs.Proposals.{Filling, IsFilling, IsProposal, makers_for, proposal}
use Rattle.book_propose.specs.declared.terms.MatchTerms.{MatchTerms}
use Rattle.book_shelves.specs.Shelves.{IsAscending, IsSnapshot, numbers_of}
use Rattle.book_shelves.specs.declared.offer.Offer.{Offer}
use Rattle.command_words.specs.declared.act.Act.{Act}
use Rattle.command_words.specs.declared.refusal.Refusal.{Refusal}
use Rattle.command_words.specs.declared.refusal.Refusal.TheVariants.{NoOrder, NonceOld, NotCrossing, NotOpen, OrderExpired, Overfill, RepeatedOrder, SelfMatch, WrongPair}
use Rattle.order_rules.specs.Kinds.{kind_of}
use Rattle.order_rules.specs.Orders.{Terms}
use Rattle.order_rules.specs.Prices.{price_of}
use Rattle.order_rules.specs.declared.kinds.MatchKind.{MatchKind}
use Rattle.order_table.specs.Orders.{OrderView, state_of}
use Rattle.order_table.specs.declared.order.OrderState.{OrderState}
use Rattle.order_table.specs.declared.order.Placed.{Placed}
use Rattle.settle_core.specs.Bounds.{Bounds}
use Rattle.settle_core.specs.Legal.{IsLegal}
use Rattle.settle_core.specs.Matches.{little_in, part_by, part_of, parts_in, short_in}
use Rattle.settle_core.specs.Offers.{offer_of}
use Rattle.settle_core.specs.OrderRules.{at_first, by_rule, by_taker, expired, has_expired, is_apart, is_live, kind_with, never_placed, or_else, outdated, overfilled, own, match_refusals, repeated_from, rest_of, shut, uncrossed, unpaired, where_}
use Rattle.settle_core.specs.Orders.{nonce, order_state, orders, placed}
use Rattle.settle_core.specs.Snapshots.{offer_here, offers_from, snapshot}
use Rattle.settle_core.specs.Verdict.{first_some}
use Rattle.settle_core.proofs.Flows.{ArePartsOf, IsFilledOf, IsPartOf, flows-none, proceeds-none}
use Rattle.settle_core.proofs.Markets.{traded}
use Rattle.settle_core.proofs.Parts.{among, facts-placed}

-- ---- what is offered

-- an offer is a live order of the market
pub record IsOffered (history : List Act) (market now : ℕ) (o : Offer) : Type 0 where
  pub state : OrderState
  pub at : order_state history o.order ≡ Some state
  pub market_is : state.placed.market ≡ market
  pub live : is_live (nonce history) now state ≡ true
  pub account : o.account ≡ state.placed.account
  pub token : o.token ≡ state.placed.token
  pub limit : o.limit ≡ state.placed.limit
  pub rest : o.rest ≡ rest_of state

all-offered : (history : List Act) (market now number : ℕ) (os : List OrderView) → ((k : ℕ) (v : OrderView) → slice_get os k ≡ Some v → order_state history (number + k) ≡ Some (state_of v))
    → All (IsOffered history market now) (offers_from (nonce history) now market number os)
all-offered history market now number [] known = All-nil (IsOffered history market now)
all-offered history market now number (o ∷ os) known =
    let rest = all-offered history market now (suc number) os (λ k v at. ap (order_state history) (next k) ∙ known (suc k) v at) in
    All-append (IsOffered history market now) (offer_here (nonce history) now market number (state_of o)) (offers_from (nonce history) now market (suc number) os)
    (here ((o.placed.market == market) && is_live (nonce history) now (state_of o)) refl) rest
  where
    next : (k : ℕ) → suc number + k ≡ number + suc k
    next k = omega arith

    here : (b : Bool) → ((o.placed.market == market) && is_live (nonce history) now (state_of o)) ≡ b → All (IsOffered history market now) (cond b (offer_of number (state_of o) ∷ []) [])
    here false is = All-nil (IsOffered history market now)
    here true is =
        let parts = and_parts (o.placed.market == market) (is_live (nonce history) now (state_of o)) is in
        let first : number ≡ number + 0 = omega arith in
        All-cons (IsOffered history market now) (offer_of number (state_of o)) [] (record {
          state = state_of o;
          at = ap (order_state history) first ∙ known 0 o refl;
          market_is = eqb-true o.placed.market market parts.0;
          live = parts.1;
          account = refl;
          token = refl;
          limit = refl;
          rest = refl;
        }) (All-nil (IsOffered history market now))

pub offered : (history : List Act) (market now : ℕ) → All (IsOffered history market now) (snapshot history market now)
offered history market now = all-offered history market now 0 (orders history) (λ k v at. let place : 0 + k ≡ k = omega arith in ap (order_state history) place ∙ ap (option_map state_of) at)

-- the offers are a snapshot: their numbers ascend, and no rest is more than a limit makes
ascending : (history : List Act) (market now number : ℕ) (os : List OrderView) → let found = numbers_of (offers_from (nonce history) now market number os) in IsAscending found × All (λ n. number ≤ n) found
ascending history market now number [] = (tt, All-nil (λ (n : ℕ). number ≤ n))
ascending history market now number (o ∷ os) = here ((o.placed.market == market) && is_live (nonce history) now (state_of o)) (ascending history market now (suc number) os)
  where
    here : (b : Bool) → let behind = offers_from (nonce history) now market (suc number) os in IsAscending (numbers_of behind) × All (λ n. suc number ≤ n) (numbers_of behind)
        → let found = numbers_of (cond b (offer_of number (state_of o) ∷ []) [] ++ behind) in IsAscending found × All (λ n. number ≤ n) found
    here false rest = (rest.0, All-weaker (λ (n : ℕ). suc number ≤ n) (λ (n : ℕ). number ≤ n) (λ n more. omega (arith, more)) (numbers_of (offers_from (nonce history) now market (suc number) os)) rest.1)
    here true rest =
        let behind = numbers_of (offers_from (nonce history) now market (suc number) os) in
        let above : All (λ n. number < n) behind = All-weaker (λ (n : ℕ). suc number ≤ n) (λ (n : ℕ). number < n) (λ n more. omega (arith, more)) behind rest.1 in
        let least = All-weaker (λ (n : ℕ). suc number ≤ n) (λ (n : ℕ). number ≤ n) (λ n more. omega (arith, more)) behind rest.1 in
        ((above, rest.0), All-cons (λ (n : ℕ). number ≤ n) number behind (omega arith) least)

pub is-snapshot : (history : List Act) (market now : ℕ) → IsSnapshot (snapshot history market now)
is-snapshot history market now = record {
  ascends = (ascending history market now 0 (orders history)).0;
  within = All-weaker (IsOffered history market now) (λ (o : Offer). o.rest ≤ o.limit.making) (λ o is. less is.state.placed.limit.making is.state.filled o.rest o.limit.making is.rest (ap (λ (t : Terms). t.making) is.limit)) (snapshot history market now) (offered history market now);
}
  where
    less : (making filled rest most : ℕ) → rest ≡ making - filled → most ≡ making → rest ≤ most
    less making filled rest most is same = omega (arith, is, same)

-- ---- rules on what is offered

-- what no rule says anything of is no refusal
passed : (history : List Act) (rule : ℕ → ℕ → OrderState → Option Refusal) (place fill order : ℕ) (state : OrderState) → order_state history order ≡ Some state → rule place fill state ≡ None → by_rule rule place fill (order_state history order) ≡ None
passed history rule place fill order state at says = ap (by_rule rule place fill) at ∙ says

-- the orders of fillings, each with its fill
abbrev pub named : List Filling → List (ℕ × ℕ)
named fs = map (λ f. (f.maker.order, f.fitted.fill)) fs

-- a rule says nothing of any of them
abbrev AllPass : List Act → (ℕ → ℕ → OrderState → Option Refusal) → List Filling → Type 0
AllPass history rule fs = All (λ f. (place : ℕ) → by_rule rule place f.fitted.fill (order_state history f.maker.order) ≡ None) fs

walk : (history : List Act) (rule : ℕ → ℕ → OrderState → Option Refusal) (place : ℕ) (fs : List Filling) → AllPass history rule fs → at_first (order_state history) rule place (named fs) ≡ None
walk history rule place [] pass = refl
walk history rule place (f ∷ fs) pass =
    let P : Filling → Type 0 = λ g. (p : ℕ) → by_rule rule p g.fitted.fill (order_state history g.maker.order) ≡ None in
    let here = All-head P f fs pass in
    let rest = walk history rule (suc place) fs (All-tail P f fs pass) in
    ap (λ (o : Option Refusal). or_else o (at_first (order_state history) rule (suc place) (named fs))) (here place) ∙ rest

walk-placed : (history : List Act) (market now place : ℕ) (fs : List Filling) → All (λ f. IsOffered history market now f.maker) fs → never_placed (order_state history) place (named fs) ≡ None
walk-placed history market now place [] all = refl
walk-placed history market now place (f ∷ fs) all =
    let P : Filling → Type 0 = λ g. IsOffered history market now g.maker in
    let here = All-head P f fs all in
    let rest = walk-placed history market now (suc place) fs (All-tail P f fs all) in
    ap (λ (o : Option OrderState). or_else (where_ (is_none o) (NoOrder place)) (never_placed (order_state history) (suc place) (named fs))) here.at ∙ rest

-- ---- each of the rules on one order

true-not : (b : Bool) → not b ≡ true → b ≡ false
true-not true e = cc
true-not false e = refl

pub shut-none : (nonces : ℕ → ℕ) (now place fill : ℕ) (s : OrderState) → is_live nonces now s ≡ true → shut place fill s ≡ None
shut-none nonces now place fill s live =
    let parts = and_parts s.is_open (not (has_expired s.placed.expires now) && (s.placed.nonce == nonces s.placed.account)) live in
    ap (λ b. where_ (not b) (NotOpen s.filled place)) parts.0

expired-none : (nonces : ℕ → ℕ) (now place fill : ℕ) (s : OrderState) → is_live nonces now s ≡ true → expired now place fill s ≡ None
expired-none nonces now place fill s live =
    let parts = and_parts s.is_open (not (has_expired s.placed.expires now) && (s.placed.nonce == nonces s.placed.account)) live in
    let more = and_parts (not (has_expired s.placed.expires now)) (s.placed.nonce == nonces s.placed.account) parts.1 in
    ap (λ b. where_ b (OrderExpired place)) (true-not (has_expired s.placed.expires now) more.0)

outdated-none : (nonces : ℕ → ℕ) (now place fill : ℕ) (s : OrderState) → is_live nonces now s ≡ true → outdated nonces place fill s ≡ None
outdated-none nonces now place fill s live =
    let parts = and_parts s.is_open (not (has_expired s.placed.expires now) && (s.placed.nonce == nonces s.placed.account)) live in
    let more = and_parts (not (has_expired s.placed.expires now)) (s.placed.nonce == nonces s.placed.account) parts.1 in
    ap (λ b. where_ (not b) (NonceOld (nonces s.placed.account) place)) more.1

left-none : (place fill : ℕ) (s : OrderState) → fill ≤ rest_of s → overfilled place fill s ≡ None
left-none place fill s within =
    let enough : nat_lt (rest_of s) fill ≡ false = grind (arith, nat_tests, within) in
    ap (λ b. where_ b (Overfill place (rest_of s))) enough

-- a candidate is of another account, has a kind with the taker, and crosses it
record IsOther (taker maker : Placed) : Type 0 where
  pub apart : (maker.account == taker.account) ≡ false
  pub kind : is_none (kind_with taker maker) ≡ false
  pub crossing : is_apart (kind_with taker maker) taker.limit maker.limit ≡ false

other : (taker maker : Placed) (t m : Offer) → t.account ≡ taker.account → t.token ≡ taker.token → t.limit ≡ taker.limit → m.account ≡ maker.account → m.token ≡ maker.token → m.limit ≡ maker.limit
    → is_candidate t m ≡ true → IsOther taker maker
other taker maker t m t_account t_token t_limit m_account m_token m_limit candidate =
    let parts = and_parts (not (m.account == t.account)) (crosses_by (kind_of_pair t m) t.limit m.limit && is_some (fit_with t m t.rest)) candidate in
    let more = and_parts (crosses_by (kind_of_pair t m) t.limit m.limit) (is_some (fit_with t m t.rest)) parts.1 in
    let crosses : crosses_by (kind_with taker maker) taker.limit maker.limit ≡ true
    = (λ i. crosses_by (kind_of (sym t_limit i).side (sym t_token i) (sym m_limit i).side (sym m_token i)) (sym t_limit i) (sym m_limit i)) ∙ more.0 in
    let two = by (kind_with taker maker) crosses in
    record { apart = (λ i. sym m_account i == sym t_account i) ∙ true-not (m.account == t.account) parts.0; kind = two.0; crossing = two.1 }
  where
    by : (o : Option MatchKind) → crosses_by o taker.limit maker.limit ≡ true → (is_none o ≡ false) × (is_apart o taker.limit maker.limit ≡ false)
    by None crosses = cc
    by (Some kind) crosses =
        let parts = and_parts (is_crossing kind taker.limit maker.limit) (is_crossing_exactly kind taker.limit maker.limit) crosses in
        (refl, ap not parts.0)

own-none : (taker : Placed) (place fill : ℕ) (s : OrderState) → IsOther taker s.placed → own taker place fill s ≡ None
own-none taker place fill s is = ap (λ b. where_ b (SelfMatch place)) is.apart

unpaired-none : (taker : Placed) (place fill : ℕ) (s : OrderState) → IsOther taker s.placed → s.placed.market ≡ taker.market → unpaired taker place fill s ≡ None
unpaired-none taker place fill s is same =
    let one : (s.placed.market == taker.market) ≡ true = grind (arith, nat_tests, same) in
    (λ i. where_ (not (one i) || is.kind i) (WrongPair place))

uncrossed-none : (taker : Placed) (place fill : ℕ) (s : OrderState) → IsOther taker s.placed → uncrossed taker place fill s ≡ None
uncrossed-none taker place fill s is = ap (λ b. where_ b (NotCrossing (price_of s.placed.limit) place (price_of taker.limit))) is.crossing

-- ---- no order is named twice

named-new : (earlier : List (ℕ × ℕ)) (order number fill : ℕ) → list_any (λ (e : ℕ × ℕ). e.0 == order) earlier ≡ false → number ≢ order → list_any (λ (e : ℕ × ℕ). e.0 == order) (earlier ++ (number, fill) ∷ []) ≡ false
named-new earlier order number fill new apart =
    let differs : (number == order) ≡ false = grind (arith, nat_tests, apart) in
    list_any-append (λ (e : ℕ × ℕ). e.0 == order) earlier ((number, fill) ∷ []) ∙ (λ i. new i || (differs i || false))

unrepeated : (earlier : List (ℕ × ℕ)) (place : ℕ) (fs : List Filling) → All (λ f. list_any (λ (e : ℕ × ℕ). e.0 == f.maker.order) earlier ≡ false) fs → AllPairs (λ f g. f.maker.order ≢ g.maker.order) fs
    → repeated_from earlier place (named fs) ≡ None
unrepeated earlier place [] new apart = refl
unrepeated earlier place (f ∷ fs) new apart =
    let IsNew : List (ℕ × ℕ) → Filling → Type 0 = λ es g. list_any (λ (e : ℕ × ℕ). e.0 == g.maker.order) es ≡ false in
    let here : IsNew earlier f = All-head (IsNew earlier) f fs new in
    let before : All (IsNew earlier) fs = All-tail (IsNew earlier) f fs new in
    let later : All (IsNew (earlier ++ (f.maker.order, f.fitted.fill) ∷ [])) fs
    = λ i d inside. named-new earlier (slice_index_or fs i d).maker.order f.maker.order f.fitted.fill (before i d inside) (apart 0 (suc i) d (omega arith) (omega (arith, inside))) in
    let rest = unrepeated (earlier ++ (f.maker.order, f.fitted.fill) ∷ []) (suc place) fs later (λ i j d below inside. apart (suc i) (suc j) d (omega (arith, below)) (omega (arith, inside))) in
    ap (λ b. or_else (where_ b (RepeatedOrder place)) (repeated_from (earlier ++ (f.maker.order, f.fitted.fill) ∷ []) (suc place) (named fs))) here ∙ rest

-- of some of them, the first ones, too
apart-take : (count : ℕ) (fs : List Filling) → AllPairs (λ f g. f.maker.order ≢ g.maker.order) fs → AllPairs (λ f g. f.maker.order ≢ g.maker.order) (take count fs)
apart-take count fs apart = λ i j d below inside.
    let few : length (take count fs) ≤ count = omega (arith, length-take count fs) in
    let fewer : length (take count fs) ≤ length fs = omega (arith, length-take count fs) in
    let at_i = get_or-take count fs i d (omega (arith, below, inside, few)) in
    let at_j = get_or-take count fs j d (omega (arith, inside, few)) in
    subst (λ (f : Filling). f.maker.order ≢ (slice_index_or (take count fs) j d).maker.order) (sym at_i)
    (subst (λ (g : Filling). (slice_index_or fs i d).maker.order ≢ g.maker.order) (sym at_j) (apart i j d below (omega (arith, inside, fewer))))

-- ---- its parts

pub placed-at : (history : List Act) (market now : ℕ) (o : Offer) (is : IsOffered history market now o) → slice_get (placed history) o.order ≡ Some is.state.placed
placed-at history market now o is = sym (facts-placed history o.order) ∙ ap (option_map (λ (s : OrderState). s.placed)) is.at

part-is : (history : List Act) (market now fill : ℕ) (o : Offer) (is : IsOffered history market now o) → IsPartOf o fill (part_of is.state.placed fill)
part-is history market now fill o is = record { account = sym is.account; token = sym is.token; limit = sym is.limit; filled = refl }

parts-are : (history : List Act) (market now : ℕ) (fs : List Filling) → All (λ f. IsOffered history market now f.maker) fs → ArePartsOf fs (parts_in (placed history) (named fs))
parts-are history market now [] all = tt
parts-are history market now (f ∷ fs) all =
    let P : Filling → Type 0 = λ g. IsOffered history market now g.maker in
    let here = All-head P f fs all in
    subst (λ (o : Option Placed). ArePartsOf (f ∷ fs) (part_by o f.fitted.fill ++ parts_in (placed history) (named fs))) (sym (placed-at history market now f.maker here))
    (part-is history market now f.fitted.fill f.maker here, parts-are history market now fs (All-tail P f fs all))

-- ---- the proposal

-- a filling of an offer, with what the rules ask of it
pub record IsNamed (history : List Act) (market now : ℕ) (taker : Offer) (f : Filling) : Type 0 where
  pub offered : IsOffered history market now f.maker
  pub candidate : is_candidate taker f.maker ≡ true
  pub within : f.fitted.fill ≤ f.maker.rest

pub named-of : (history : List Act) (market now : ℕ) (taker : Offer) (f : Filling) → IsFilling (snapshot history market now) taker f → IsNamed history market now taker f
named-of history market now taker f is = record {
  offered = All-contains (IsOffered history market now) (snapshot history market now) f.maker (offered history market now) is.among;
  candidate = is.candidate;
  within = is.within;
}

each-named : (history : List Act) (market now : ℕ) (taker : Offer) (fs : List Filling) (P : Filling → Type 0) → ((f : Filling) → IsNamed history market now taker f → P f) → All (IsNamed history market now taker) fs → All P fs
each-named history market now taker fs P gives all = All-weaker (IsNamed history market now taker) P gives fs all

module _ (limits : Bounds) (history : List Act) (market now : ℕ) (terms : MatchTerms) (legal : IsLegal limits history) (is : IsProposal (snapshot history market now) terms) (count : ℕ) where
  abbrev pub every : List Filling
  every = makers_for (snapshot history market now) is.taker

  abbrev pub fs : List Filling
  fs = take count every

  abbrev pub fill : ℕ
  fill = sum_by (λ f. f.fitted.spent) fs

  each : All (IsFilling (snapshot history market now) is.taker) fs
  each = All-take (IsFilling (snapshot history market now) is.taker) count every is.each

  within : fill ≤ is.taker.rest
  within =
      let less : fill ≤ sum_by (λ f. f.fitted.spent) every = sum_by-take-le (λ (f : Filling). f.fitted.spent) every count in
      omega (arith, less, is.within)

  apart : AllPairs (λ f g. f.maker.order ≢ g.maker.order) fs
  apart = apart-take count every is.apart

  taken : IsOffered history market now is.taker
  taken = All-contains (IsOffered history market now) (snapshot history market now) is.taker (offered history market now) is.among

  all : All (IsNamed history market now is.taker) fs
  all = All-weaker (IsFilling (snapshot history market now) is.taker) (IsNamed history market now is.taker) (named-of history market now is.taker) fs each

  others : (f : Filling) → (n : IsNamed history market now is.taker f) → IsOther taken.state.placed n.offered.state.placed
  others f n = other taken.state.placed n.offered.state.placed is.taker f.maker taken.account taken.token taken.limit n.offered.account n.offered.token n.offered.limit n.candidate

  -- a rule that says nothing of the taker and of any maker
  both : (rule : ℕ → ℕ → OrderState → Option Refusal) → ((place : ℕ) → rule place fill taken.state ≡ None) → ((f : Filling) (n : IsNamed history market now is.taker f) (place : ℕ) → rule place f.fitted.fill n.offered.state ≡ None)
      → at_first (order_state history) rule 0 ((is.taker.order, fill) ∷ named fs) ≡ None
  both rule of_taker of_maker =
      ap (λ (o : Option Refusal). or_else o (at_first (order_state history) rule 1 (named fs))) (passed history rule 0 fill is.taker.order taken.state taken.at (of_taker 0))
      ∙ walk history rule 1 fs (each-named history market now is.taker fs (λ f. (place : ℕ) → by_rule rule place f.fitted.fill (order_state history f.maker.order) ≡ None) (λ f n place. passed history rule place f.fitted.fill f.maker.order n.offered.state n.offered.at (of_maker f n place)) all)

  -- and one of the makers by their taker
  by_them : (rule : Placed → ℕ → ℕ → OrderState → Option Refusal) → ((f : Filling) (n : IsNamed history market now is.taker f) (place : ℕ) → rule taken.state.placed place f.fitted.fill n.offered.state ≡ None)
      → by_taker (order_state history) rule (order_state history is.taker.order) (named fs) ≡ None
  by_them rule of_maker =
      ap (λ (o : Option OrderState). by_taker (order_state history) rule o (named fs)) taken.at
      ∙ walk history (rule taken.state.placed) 1 fs (each-named history market now is.taker fs (λ f. (place : ℕ) → by_rule (rule taken.state.placed) place f.fitted.fill (order_state history f.maker.order) ≡ None) (λ f n place. passed history (rule taken.state.placed) place f.fitted.fill f.maker.order n.offered.state n.offered.at (of_maker f n place)) all)

  enough : (place : ℕ) → overfilled place fill taken.state ≡ None
  enough place = left-none place fill taken.state (omega (arith, within, taken.rest))

  pub proposed-orders : first_some (match_refusals (order_state history) (nonce history) now is.taker.order fill (named fs)) ≡ None
  proposed-orders = nine
      (ap (λ (o : Option OrderState). or_else (where_ (is_none o) (NoOrder 0)) (never_placed (order_state history) 1 (named fs))) taken.at ∙ walk-placed history market now 1 fs (each-named history market now is.taker fs (λ f. IsOffered history market now f.maker) (λ f n. n.offered) all))
      (both shut (λ place. shut-none (nonce history) now place fill taken.state taken.live) (λ f n place. shut-none (nonce history) now place f.fitted.fill n.offered.state n.offered.live))
      (both (expired now) (λ place. expired-none (nonce history) now place fill taken.state taken.live) (λ f n place. expired-none (nonce history) now place f.fitted.fill n.offered.state n.offered.live))
      (both (outdated (nonce history)) (λ place. outdated-none (nonce history) now place fill taken.state taken.live) (λ f n place. outdated-none (nonce history) now place f.fitted.fill n.offered.state n.offered.live))
      (by_them own (λ f n place. own-none taken.state.placed place f.fitted.fill n.offered.state (others f n)))
      (unrepeated [] 1 fs (λ i d inside. refl) apart)
      (by_them unpaired (λ f n place. unpaired-none taken.state.placed place f.fitted.fill n.offered.state (others f n) (n.offered.market_is ∙ sym taken.market_is)))
      (by_them uncrossed (λ f n place. uncrossed-none taken.state.placed place f.fitted.fill n.offered.state (others f n)))
      (both overfilled enough (λ f n place. left-none place f.fitted.fill n.offered.state (omega (arith, n.within, n.offered.rest))))
    where
      nine : {a b c d e f g h j : Option Refusal} → a ≡ None → b ≡ None → c ≡ None → d ≡ None → e ≡ None → f ≡ None → g ≡ None → h ≡ None → j ≡ None
          → first_some (a ∷ b ∷ c ∷ d ∷ e ∷ f ∷ g ∷ h ∷ j ∷ []) ≡ None
      nine a b c d e f g h j = λ i. first_some (a i ∷ b i ∷ c i ∷ d i ∷ e i ∷ f i ∷ g i ∷ h i ∷ j i ∷ [])

  -- the amounts of an order's limit
  amounts : (o : Offer) (is : IsOffered history market now o) → (1 ≤ o.limit.making) × (1 ≤ o.limit.taking)
  amounts o is =
      let of = among history is.state.placed o.order (placed-at history market now o is) (traded limits history legal) in
      subst (λ (t : Terms). (1 ≤ t.making) × (1 ≤ t.taking)) (sym is.limit) (of.making, of.taking)

  filled : All (IsFilledOf is.taker) fs
  filled = All-weaker (IsFilling (snapshot history market now) is.taker) (IsFilledOf is.taker) (λ f n.
      let named = named-of history market now is.taker f n in
      let some = amounts f.maker named.offered in
      record { candidate = n.candidate; fits = (n.fits.0, n.fits.2); making = some.0; taking = some.1 }) fs each

  parts : ArePartsOf fs (parts_in (placed history) (named fs))
  parts = parts-are history market now fs (each-named history market now is.taker fs (λ f. IsOffered history market now f.maker) (λ f n. n.offered) all)

  pub proposed-flows : short_in (slice_get (placed history) is.taker.order) fill (parts_in (placed history) (named fs)) ≡ None
  proposed-flows =
      ap (λ (o : Option Placed). short_in o fill (parts_in (placed history) (named fs))) (placed-at history market now is.taker taken)
      ∙ flows-none is.taker fs (part_of taken.state.placed fill) (parts_in (placed history) (named fs)) (amounts is.taker taken).0 (part-is history market now fill is.taker taken) parts filled

  pub proposed-proceeds : little_in (slice_get (placed history) is.taker.order) fill (parts_in (placed history) (named fs)) ≡ None
  proposed-proceeds =
      ap (λ (o : Option Placed). little_in o fill (parts_in (placed history) (named fs))) (placed-at history market now is.taker taken)
      ∙ proceeds-none is.taker fs (part_of taken.state.placed fill) (parts_in (placed history) (named fs)) (amounts is.taker taken).0 (part-is history market now fill is.taker taken) parts filled

-- ---- the law

-- a match of a taker, filled by so much, with makers meets none of these refusals
abbrev pub IsFine : List Act → ℕ → ℕ → ℕ → List (ℕ × ℕ) → Type 0
IsFine history now taker fill makers =
    (first_some (match_refusals (order_state history) (nonce history) now taker fill makers) ≡ None)
    × (short_in (slice_get (placed history) taker) fill (parts_in (placed history) makers) ≡ None)
    × (little_in (slice_get (placed history) taker) fill (parts_in (placed history) makers) ≡ None)

abbrev pub spent_on : Filling → ℕ
spent_on f = f.fitted.spent

abbrev pub name_of : Filling → ℕ × ℕ
name_of f = (f.maker.order, f.fitted.fill)

front-fine : (limits : Bounds) (history : List Act) (market now : ℕ) (terms : MatchTerms) → IsLegal limits history → (is : IsProposal (snapshot history market now) terms) → (count : ℕ)
    → let front = take count (makers_for (snapshot history market now) is.taker) in IsFine history now is.taker.order (sum_by spent_on front) (named front)
front-fine limits history market now terms legal is count =
    (proposed-orders limits history market now terms legal is count, proposed-flows limits history market now terms legal is count, proposed-proceeds limits history market now terms legal is count)

-- with the first makers alone
pub fine-front : (limits : Bounds) (history : List Act) (market now count : ℕ) (terms : MatchTerms) → IsLegal limits history → proposal (snapshot history market now) ≡ Some terms
    → IsFine history now terms.taker (sum (take count terms.spent)) (take count terms.makers)
fine-front limits history market now count terms legal proposed =
    let is = is-proposal (snapshot history market now) terms (is-snapshot history market now) proposed in
    let every = makers_for (snapshot history market now) is.taker in
    let spent : sum (take count (map spent_on every)) ≡ sum_by spent_on (take count every) = ap sum (take-map spent_on count every) ∙ sum-map spent_on (take count every) in
    let makers : take count (map name_of every) ≡ named (take count every) = take-map name_of count every in
    subst (λ (t : MatchTerms). IsFine history now t.taker (sum (take count t.spent)) (take count t.makers)) (sym is.terms_are)
    (subst (λ (filled : ℕ). IsFine history now is.taker.order filled (take count (map name_of every))) (sym spent)
    (subst (IsFine history now is.taker.order (sum_by spent_on (take count every))) (sym makers) (front-fine limits history market now terms legal is count)))

-- and with all of them
pub fine : (limits : Bounds) (history : List Act) (market now : ℕ) (terms : MatchTerms) → IsLegal limits history → proposal (snapshot history market now) ≡ Some terms → IsFine history now terms.taker terms.fill terms.makers
fine limits history market now terms legal proposed =
    let is = is-proposal (snapshot history market now) terms (is-snapshot history market now) proposed in
    let every = makers_for (snapshot history market now) is.taker in
    subst (λ (t : MatchTerms). IsFine history now t.taker t.fill t.makers) (sym is.terms_are)
    (subst (λ (fs : List Filling). IsFine history now is.taker.order (sum_by spent_on fs) (named fs)) (take_all (length every) every (omega arith)) (front-fine limits history market now terms legal is (length every)))

pub fits-orders : (limits : Bounds) (history : List Act) (market now : ℕ) (terms : MatchTerms) → IsLegal limits history → proposal (snapshot history market now) ≡ Some terms
    → first_some (match_refusals (order_state history) (nonce history) now terms.taker terms.fill terms.makers) ≡ None
fits-orders limits history market now terms legal proposed = (fine limits history market now terms legal proposed).0

pub fits-flows : (limits : Bounds) (history : List Act) (market now : ℕ) (terms : MatchTerms) → IsLegal limits history → proposal (snapshot history market now) ≡ Some terms
    → short_in (slice_get (placed history) terms.taker) terms.fill (parts_in (placed history) terms.makers) ≡ None
fits-flows limits history market now terms legal proposed = (fine limits history market now terms legal proposed).1

pub fits-proceeds : (limits : Bounds) (history : List Act) (market now : ℕ) (terms : MatchTerms) → IsLegal limits history → proposal (snapshot history market now) ≡ Some terms
    → little_in (slice_get (placed history) terms.taker) terms.fill (parts_in (placed history) terms.makers) ≡ None
fits-proceeds limits history market now terms legal proposed = (fine limits history market now terms legal proposed).2
