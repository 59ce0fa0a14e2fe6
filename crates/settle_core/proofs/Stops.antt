-- A turn of a crossing is refused for want of room alone.
use Rattle.std.proofs.Common.{◌≡◌, ℕ, zero, suc, ◌+◌, ◌-◌, ◌<◌, ◌≤◌, Bool, true, false, cond, List, [], ◌∷◌, ◌++◌, take, Option, Some, None, All, refl, sym, ap, subst, ◌∙◌, arith, inl, inr}
use Rattle.std.specs.Prelude.{◌==◌, ◌&&◌, ◌⊎◌, is_none, nat_le, nat_lt, map, sum, sum_by, option_map, slice_get, slice_index_or, unwrap_or, Result, Ok, Err}
use Rattle.std.proofs.lemmas.Bool.Decides.{nat_tests}
use Rattle.std.proofs.lemmas.List.{take-map}
use Rattle.std.proofs.lemmas.List.Elements.{All-contains, All-head, All-tail, All-weaker}
use Rattle.std.proofs.lemmas.List.Sums.{sum-map, sum_by-take-le}
use Rattle.book_propose.proofs.Proposed.{proposed as is-proposal}
use Rattle.book_propose.specs.Proposals.{Filling, IsFilling, IsProposal, makers_for, proposal, terms_of}
use Rattle.book_propose.specs.declared.terms.MatchTerms.{MatchTerms}
use Rattle.book_shelves.specs.declared.offer.Offer.{Offer}
use Rattle.collection_keys.specs.Collections.{Pairs}
use Rattle.command_words.specs.declared.act.Act.{Act}
use Rattle.command_words.specs.declared.command.Command.{Command}
use Rattle.command_words.specs.declared.command.Command.TheVariants.{Lapse, Match}
use Rattle.command_words.specs.declared.refusal.Refusal.{Refusal}
use Rattle.command_words.specs.declared.refusal.Refusal.TheVariants.{EntriesLimit, ExchangeShort, Funded, HistoryFull, NoOrder, SupplyLimit, TooLittle, Unfunded}
use Rattle.condition_sets.specs.declared.names.TheConstants.{OPERATOR}
use Rattle.ledger_book.specs.Entries.{held_after}
use Rattle.ledger_book.specs.declared.posting.Posting.{Posting}
use Rattle.match_kinds.specs.Matching.{paid_asset, pays_in}
use Rattle.match_kinds.specs.Settling.{maker_postings, unfunded as unfunded_part, unfunded_from}
use Rattle.match_kinds.specs.declared.part.Part.{Part}
use Rattle.order_table.specs.declared.order.OrderState.{OrderState}
use Rattle.order_table.specs.declared.order.Placed.{Placed}
use Rattle.settle_core.specs.Bounds.{Bounds}
use Rattle.settle_core.specs.Crossings.{chosen, first_maker, in_its_place, IsForRoom, match_of, or_refused, says_of, shortened, turn}
use Rattle.settle_core.specs.Legal.{IsLegal}
use Rattle.settle_core.specs.Matches.{part_by, part_of, parts_in}
use Rattle.settle_core.specs.OrderRules.{by_rule, is_live, match_refusals, or_else, paid_by, rest_of, shut, still_paid, where_}
use Rattle.settle_core.specs.Orders.{nonce, order_state, placed}
use Rattle.settle_core.specs.Postings.{balance}
use Rattle.settle_core.specs.Refusals.{Question, not_allowed, no_condition, already_prepared, table_full, bad_set, bad_partition, already_held, too_deep, already_reported, bad_payouts, not_reported, no_event, determined, no_market, no_order, not_open, order_expired, nonce_old, self_match, repeated_order, wrong_pair, not_crossing, overfill, unfunded, exchange_short, too_little, still_funded, vault_limit, unfunded_in}
use Rattle.settle_core.specs.Snapshots.{snapshot}
use Rattle.settle_core.specs.Verdict.{first_some, verdict}
use Rattle.settle_core.proofs.Proposed.{IsFine, IsNamed, IsOffered, fine, fine-front, is-snapshot, name_of, named, named-of, offered, placed-at, shut-none, spent_on}
use Rattle.settle_core.proofs.Verdicts.{AreNone, first_some-all, front-past, last}

some-same : {X : Type 0} (x y : X) → Some x ≡ Some y → x ≡ y
some-same x y is = ap (λ (o : Option _). unwrap_or o x) is

-- ---- what is left of a verdict

-- the refusals before that for funds, and those between it and the ones for room
abbrev before : Question → List (Option Refusal)
before q =
    not_allowed q ∷ no_condition q ∷ already_prepared q ∷ table_full q
    ∷ bad_set q ∷ bad_partition q ∷ already_held q ∷ too_deep q
    ∷ already_reported q ∷ bad_payouts q ∷ not_reported q ∷ no_event q ∷ determined q
    ∷ no_market q ∷ no_order q ∷ not_open q ∷ order_expired q ∷ nonce_old q
    ∷ self_match q ∷ repeated_order q ∷ wrong_pair q ∷ not_crossing q ∷ overfill q ∷ []

abbrev between : Question → List (Option Refusal)
between q = exchange_short q ∷ too_little q ∷ still_funded q ∷ vault_limit q ∷ []

none-first : {X : Type 0} (os : List (Option X)) → AreNone os → first_some os ≡ None
none-first [] all = refl
none-first (Some x ∷ os) all = all.0
none-first (None ∷ os) all = none-first os all.1

past : (q : Question) → AreNone (before q) → verdict q ≡ first_some (unfunded q ∷ between q ++ last q)
unfolding verdict
past q all = front-past (before q) (unfunded q ∷ between q ++ last q) (none-first (before q) all)

-- a command that is short of funds alone is refused for them
short-verdict : (q : Question) (short : Refusal) → AreNone (before q) → unfunded q ≡ Some short → verdict q ≡ Some short
short-verdict q short all is = past q all ∙ ap (λ (o : Option Refusal). first_some (o ∷ between q ++ last q)) is

-- and one that isn't is refused for room, or not at all
last-room : (supply : Option ℕ) (entries full : Bool) (refusal : Refusal)
    → first_some (option_map SupplyLimit supply ∷ where_ entries EntriesLimit ∷ where_ full HistoryFull ∷ []) ≡ Some refusal → IsForRoom refusal
last-room (Some supply) entries full refusal is = subst IsForRoom (some-same (SupplyLimit supply) refusal is) tt
last-room None true full refusal is = subst IsForRoom (some-same EntriesLimit refusal is) tt
last-room None false true refusal is = subst IsForRoom (some-same HistoryFull refusal is) tt
last-room None false false refusal is = cc

room-alone : (q : Question) (refusal : Refusal) → AreNone (before q) → unfunded q ≡ None → AreNone (between q) → verdict q ≡ Some refusal → IsForRoom refusal
room-alone q refusal all funded more is =
    let rest : verdict q ≡ first_some (last q)
    = past q all ∙ (ap (λ (o : Option Refusal). first_some (o ∷ between q ++ last q)) funded ∙ front-past (between q) (last q) (none-first (between q) more)) in
    last-room _ _ _ refusal (sym rest ∙ is)

-- ---- the commands of a turn

abbrev pub operators : Bounds → List Act → ℕ → Command → Question
operators limits history now command = record { limits = limits; history = history; account = OPERATOR; command = command; moment = now }

-- of a match that its orders allow, and that is neither short nor brings too little
match-before : (limits : Bounds) (history : List Act) (now taker fill : ℕ) (makers : List (ℕ × ℕ)) → IsFine history now taker fill makers → AreNone (before (operators limits history now (Match taker fill makers)))
match-before limits history now taker fill makers is =
    (refl, (refl, (refl, (refl, (refl, (refl, (refl, (refl, (refl, (refl, (refl, (refl, (refl, (refl, (first_some-all (match_refusals (order_state history) (nonce history) now taker fill makers) is.0)))))))))))))))

match-between : (limits : Bounds) (history : List Act) (now taker fill : ℕ) (makers : List (ℕ × ℕ)) → IsFine history now taker fill makers → AreNone (between (operators limits history now (Match taker fill makers)))
match-between limits history now taker fill makers is =
    (ap (option_map ExchangeShort) is.1, (ap (option_map (λ (little : ℕ × ℕ). TooLittle little.1 little.0)) is.2, (refl, (refl, (tt)))))

-- of the lapse of an order that is live
lapse-before : (limits : Bounds) (history : List Act) (now order : ℕ) (state : OrderState) → order_state history order ≡ Some state → is_live (nonce history) now state ≡ true
    → AreNone (before (operators limits history now (Lapse order)))
lapse-before limits history now order state at live =
    let placed_before : no_order (operators limits history now (Lapse order)) ≡ None = ap (λ (o : Option OrderState). or_else (where_ (is_none o) (NoOrder 0)) None) at in
    let open_still : not_open (operators limits history now (Lapse order)) ≡ None
    = ap (λ (o : Option OrderState). or_else (by_rule shut 0 0 o) None) at ∙ ap (λ (o : Option Refusal). or_else o None) (shut-none (nonce history) now 0 0 state live) in
    (refl, (refl, (refl, (refl, (refl, (refl, (refl, (refl, (refl, (refl, (refl, (refl, (refl, (refl, (placed_before, (open_still, (refl, (refl, (refl, (refl, (refl, (refl, (refl, (tt))))))))))))))))))))))))

-- and of which more is left than its maker has
lapse-between : (limits : Bounds) (history : List Act) (now order : ℕ) (state : OrderState) → order_state history order ≡ Some state
    → balance history state.placed.account (paid_by state.placed) < rest_of state → AreNone (between (operators limits history now (Lapse order)))
lapse-between limits history now order state at less =
    let poor : nat_le (rest_of state) (balance history state.placed.account (paid_by state.placed)) ≡ false = grind (arith, nat_tests, less) in
    let unpaid : still_funded (operators limits history now (Lapse order)) ≡ None
    = ap (still_paid (nonce history) now (balance history)) at
    ∙ (ap (λ b. where_ (is_live (nonce history) now state && b) (Funded (balance history state.placed.account (paid_by state.placed)))) poor ∙ never (is_live (nonce history) now state) (Funded (balance history state.placed.account (paid_by state.placed)))) in
    (refl, (refl, (unpaid, (refl, (tt)))))
  where
    never : (b : Bool) (refusal : Refusal) → where_ (b && false) refusal ≡ None
    never true refusal = refl
    never false refusal = refl

lapse-room : (limits : Bounds) (history : List Act) (now order : ℕ) (state : OrderState) (refusal : Refusal) → order_state history order ≡ Some state → is_live (nonce history) now state ≡ true
    → balance history state.placed.account (paid_by state.placed) < rest_of state → verdict (operators limits history now (Lapse order)) ≡ Some refusal → IsForRoom refusal
lapse-room limits history now order state refusal at live less is =
    room-alone (operators limits history now (Lapse order)) refusal (lapse-before limits history now order state at live) refl (lapse-between limits history now order state at less) is

-- of a match whose parts are funded
match-room : (limits : Bounds) (history : List Act) (now taker fill : ℕ) (makers : List (ℕ × ℕ)) (refusal : Refusal) → IsFine history now taker fill makers
    → unfunded_in (balance history) (slice_get (placed history) taker) fill (parts_in (placed history) makers) ≡ None
    → verdict (operators limits history now (Match taker fill makers)) ≡ Some refusal → IsForRoom refusal
match-room limits history now taker fill makers refusal fine funded is =
    room-alone (operators limits history now (Match taker fill makers)) refusal (match-before limits history now taker fill makers fine)
    (ap (option_map (λ (short : ℕ × ℕ). Unfunded short.1 short.0)) funded) (match-between limits history now taker fill makers fine) is

-- ---- the first part that isn't funded

-- its place isn't below that of the first
from-least : (held : ℕ → Pairs → ℕ) (market place : ℕ) (earlier : List Posting) (ms : List Part) (p have : ℕ) → unfunded_from held market place earlier ms ≡ Some (p, have) → place ≤ p
from-least held market place earlier [] p have is = cc
from-least held market place earlier (m ∷ ms) p have is =
    by (from-least held market (suc place) (earlier ++ maker_postings market m) ms p have) (nat_lt (held_after held earlier m.account (paid_asset market m)) m.fill) is
  where
    by : (unfunded_from held market (suc place) (earlier ++ maker_postings market m) ms ≡ Some (p, have) → suc place ≤ p)
        → (b : Bool) → cond b (Some (place, held_after held earlier m.account (paid_asset market m))) (unfunded_from held market (suc place) (earlier ++ maker_postings market m) ms) ≡ Some (p, have) → place ≤ p
    by more true here =
        let same : place ≡ p = ap (λ (at : ℕ × ℕ). at.0) (some-same (place, held_after held earlier m.account (paid_asset market m)) (p, have) here) in
        omega (arith, same)
    by more false later =
        let above = more later in
        omega (arith, above)

-- those before it are funded
from-front : (held : ℕ → Pairs → ℕ) (market place : ℕ) (earlier : List Posting) (ms : List Part) (p have n : ℕ) → unfunded_from held market place earlier ms ≡ Some (p, have) → place + n ≤ p
    → unfunded_from held market place earlier (take n ms) ≡ None
from-front held market place earlier [] p have n is few = cc
from-front held market place earlier (m ∷ ms) p have zero is few = refl
from-front held market place earlier (m ∷ ms) p have (suc n) is few =
    by (from-front held market (suc place) (earlier ++ maker_postings market m) ms p have n) (nat_lt (held_after held earlier m.account (paid_asset market m)) m.fill) is
  where
    by : (unfunded_from held market (suc place) (earlier ++ maker_postings market m) ms ≡ Some (p, have) → suc place + n ≤ p → unfunded_from held market (suc place) (earlier ++ maker_postings market m) (take n ms) ≡ None)
        → (b : Bool) → cond b (Some (place, held_after held earlier m.account (paid_asset market m))) (unfunded_from held market (suc place) (earlier ++ maker_postings market m) ms) ≡ Some (p, have)
        → cond b (Some (place, held_after held earlier m.account (paid_asset market m))) (unfunded_from held market (suc place) (earlier ++ maker_postings market m) (take n ms)) ≡ None
    by more true here =
        let same : place ≡ p = ap (λ (at : ℕ × ℕ). at.0) (some-same (place, held_after held earlier m.account (paid_asset market m)) (p, have) here) in
        absurd (omega (arith, same, few))
    by more false later = more later (omega (arith, few))

-- the taker has less than its fill, or a maker isn't funded
taker-first : (held : ℕ → Pairs → ℕ) (market : ℕ) (taker : Part) (ms : List Part) (p have : ℕ) → unfunded_part held market taker ms ≡ Some (p, have)
    → ((p ≡ 0) × (held taker.account (paid_asset market taker) < taker.fill)) ⊎ ((taker.fill ≤ held taker.account (paid_asset market taker)) × (unfunded_from held market 1 [] ms ≡ Some (p, have)))
taker-first held market taker ms p have is = by (nat_lt (held taker.account (paid_asset market taker)) taker.fill) refl is
  where
    by : (b : Bool) → nat_lt (held taker.account (paid_asset market taker)) taker.fill ≡ b
        → cond b (Some (0, held taker.account (paid_asset market taker))) (unfunded_from held market 1 [] ms) ≡ Some (p, have)
        → ((p ≡ 0) × (held taker.account (paid_asset market taker) < taker.fill)) ⊎ ((taker.fill ≤ held taker.account (paid_asset market taker)) × (unfunded_from held market 1 [] ms ≡ Some (p, have)))
    by true less here =
        let same : 0 ≡ p = ap (λ (at : ℕ × ℕ). at.0) (some-same (0, held taker.account (paid_asset market taker)) (p, have) here) in
        inl (sym same, grind (arith, nat_tests, less))
    by false enough later = inr (grind (arith, nat_tests, enough), later)

-- a first maker that isn't funded has less than its fill
maker-first : (held : ℕ → Pairs → ℕ) (market : ℕ) (m : Part) (ms : List Part) (have : ℕ) → unfunded_from held market 1 [] (m ∷ ms) ≡ Some (1, have) → held m.account (paid_asset market m) < m.fill
maker-first held market m ms have is = by (nat_lt (held_after held [] m.account (paid_asset market m)) m.fill) refl is
  where
    by : (b : Bool) → nat_lt (held_after held [] m.account (paid_asset market m)) m.fill ≡ b
        → cond b (Some (1, held_after held [] m.account (paid_asset market m))) (unfunded_from held market 2 (maker_postings market m) ms) ≡ Some (1, have) → held m.account (paid_asset market m) < m.fill
    by true less here =
        let below : held_after held [] m.account (paid_asset market m) < m.fill = grind (arith, nat_tests, less) in
        omega (arith, below)
    by false enough later =
        let past_it = from-least held market 2 (maker_postings market m) ms 1 have later in
        absurd (omega (arith, past_it))

-- ---- in the place of a match that isn't paid for

-- the parts of the first makers are the first parts
part-first : (history : List Act) (market now : ℕ) (taker : Offer) (f : Filling) (fs : List Filling) (is : IsNamed history market now taker f)
    → parts_in (placed history) (named (f ∷ fs)) ≡ part_of is.offered.state.placed f.fitted.fill ∷ parts_in (placed history) (named fs)
part-first history market now taker f fs is = ap (λ (o : Option Placed). part_by o f.fitted.fill ++ parts_in (placed history) (named fs)) (placed-at history market now f.maker is.offered)

parts-take : (history : List Act) (market now : ℕ) (taker : Offer) (n : ℕ) (fs : List Filling) → All (IsNamed history market now taker) fs
    → parts_in (placed history) (named (take n fs)) ≡ take n (parts_in (placed history) (named fs))
parts-take history market now taker zero fs all = refl
parts-take history market now taker (suc n) [] all = refl
parts-take history market now taker (suc n) (f ∷ fs) all =
    let here = All-head (IsNamed history market now taker) f fs all in
    let rest = parts-take history market now taker n fs (All-tail (IsNamed history market now taker) f fs all) in
    part-first history market now taker f (take n fs) here ∙ (ap (λ ps. part_of here.offered.state.placed f.fitted.fill ∷ ps) rest ∙ ap (take (suc n)) (sym (part-first history market now taker f fs here)))

module _ (limits : Bounds) (history : List Act) (market now : ℕ) (taker : Offer) (every : List Filling) (of_taker : IsOffered history market now taker) (of_makers : All (IsNamed history market now taker) every)
    (left : sum_by spent_on every ≤ taker.rest) (refusal : Refusal) where
  abbrev pub order : Placed
  order = of_taker.state.placed

  abbrev pub parts : List Part
  parts = parts_in (placed history) (named every)

  abbrev pub IsRefused : Command → Type 0
  IsRefused command = verdict (operators limits history now command) ≡ Some refusal

  -- the taker lapses
  taker-lapses : balance history order.account (paid_by order) < sum_by spent_on every → IsRefused (Lapse taker.order) → IsForRoom refusal
  taker-lapses less is = lapse-room limits history now taker.order of_taker.state refusal of_taker.at of_taker.live (omega (arith, less, left, of_taker.rest)) is

  -- the first maker lapses
  maker-lapses : (fs : List Filling) → All (IsNamed history market now taker) fs → (have : ℕ) → unfunded_from (balance history) order.market 1 [] (parts_in (placed history) (named fs)) ≡ Some (1, have)
      → IsRefused (Lapse (slice_index_or (map name_of fs) 0 (0, 0)).0) → IsForRoom refusal
  maker-lapses [] all have short is = cc
  maker-lapses (f ∷ fs) all have short is =
      let here = All-head (IsNamed history market now taker) f fs all in
      let maker : Placed = here.offered.state.placed in
      let same : maker.market ≡ order.market = here.offered.market_is ∙ sym of_taker.market_is in
      let first : unfunded_from (balance history) order.market 1 [] (part_of maker f.fitted.fill ∷ parts_in (placed history) (named fs)) ≡ Some (1, have)
      = ap (unfunded_from (balance history) order.market 1 []) (sym (part-first history market now taker f fs here)) ∙ short in
      let less = maker-first (balance history) order.market (part_of maker f.fitted.fill) (parts_in (placed history) (named fs)) have first in
      let less_there : balance history maker.account (paid_by maker) < f.fitted.fill
      = subst (λ (m : ℕ). balance history maker.account (pays_in m maker.limit.side maker.token) < f.fitted.fill) (sym same) less in
      lapse-room limits history now f.maker.order here.offered.state refusal here.offered.at here.offered.live (omega (arith, less_there, here.within, here.offered.rest)) is

  -- the match is with the makers before that place
  shorter : (place n have filled : ℕ) → 1 + n ≤ place → filled ≤ sum_by spent_on every → sum_by spent_on every ≤ balance history order.account (paid_by order)
      → unfunded_from (balance history) order.market 1 [] parts ≡ Some (place, have) → IsFine history now taker.order filled (named (take n every))
      → IsRefused (Match taker.order filled (named (take n every))) → IsForRoom refusal
  shorter place n have filled few less paid short is_fine is =
      let front : unfunded_from (balance history) order.market 1 [] (parts_in (placed history) (named (take n every))) ≡ None
      = ap (unfunded_from (balance history) order.market 1 []) (parts-take history market now taker n every of_makers) ∙ from-front (balance history) order.market 1 [] parts place have n short few in
      let enough : nat_lt (balance history order.account (paid_by order)) filled ≡ false
      = let most : filled ≤ balance history order.account (paid_by order) = omega (arith, less, paid) in grind (arith, nat_tests, most) in
      let funded : unfunded_in (balance history) (slice_get (placed history) taker.order) filled (parts_in (placed history) (named (take n every))) ≡ None
      = ap (λ (o : Option Placed). unfunded_in (balance history) o filled (parts_in (placed history) (named (take n every)))) (placed-at history market now taker of_taker)
      ∙ (λ i. cond (enough i) (Some (0, balance history order.account (paid_by order))) (front i)) in
      match-room limits history now taker.order filled (named (take n every)) refusal is_fine funded is

-- ---- a turn

-- a match that its orders allow is refused for the first part that isn't funded, or for room
abbrev StopsBy : Option (ℕ × ℕ) → Refusal → Type 0
StopsBy short (Unfunded have place) = short ≡ Some (place, have)
StopsBy short refusal = IsForRoom refusal

for-room : (short : Option (ℕ × ℕ)) (refusal : Refusal) → IsForRoom refusal → StopsBy short refusal
for-room short (Unfunded have place) room = absurd room
for-room short refusal room = room

match-stops : (limits : Bounds) (history : List Act) (now taker fill : ℕ) (makers : List (ℕ × ℕ)) (refusal : Refusal) → IsFine history now taker fill makers
    → verdict (operators limits history now (Match taker fill makers)) ≡ Some refusal
    → StopsBy (unfunded_in (balance history) (slice_get (placed history) taker) fill (parts_in (placed history) makers)) refusal
match-stops limits history now taker fill makers refusal fine is =
    let short : Option (ℕ × ℕ) = unfunded_in (balance history) (slice_get (placed history) taker) fill (parts_in (placed history) makers) in
    by short refl
  where
    by : (short : Option (ℕ × ℕ)) → unfunded_in (balance history) (slice_get (placed history) taker) fill (parts_in (placed history) makers) ≡ short
        → StopsBy (unfunded_in (balance history) (slice_get (placed history) taker) fill (parts_in (placed history) makers)) refusal
    by None none =
        for-room (unfunded_in (balance history) (slice_get (placed history) taker) fill (parts_in (placed history) makers)) refusal (match-room limits history now taker fill makers refusal fine none is)
    by (Some at) some =
        let q : Question = operators limits history now (Match taker fill makers) in
        let short : unfunded q ≡ Some (Unfunded at.1 at.0) = ap (option_map (λ (s : ℕ × ℕ). Unfunded s.1 s.0)) some in
        let same : Unfunded at.1 at.0 ≡ refusal = some-same (Unfunded at.1 at.0) refusal (sym (short-verdict q (Unfunded at.1 at.0) (match-before limits history now taker fill makers fine) short) ∙ is) in
        subst (StopsBy (unfunded_in (balance history) (slice_get (placed history) taker) fill (parts_in (placed history) makers))) same some

three : (p : ℕ) → (p ≡ 0) ⊎ ((p ≡ 1) ⊎ (2 ≤ p))
three zero = inl refl
three (suc zero) = inr (inl refl)
three (suc (suc k)) = inr (inr (omega arith))

third : (place : ℕ) (terms : MatchTerms) → 2 ≤ place → in_its_place place terms ≡ shortened (place - 1) terms
third place terms more =
    let zero_is : (place == 0) ≡ false = grind (arith, nat_tests, more) in
    let one_is : (place == 1) ≡ false = grind (arith, nat_tests, more) in
    (λ i. cond (zero_is i) (Lapse terms.taker) (cond (one_is i) (Lapse (first_maker terms)) (shortened (place - 1) terms)))

-- what is done in the place of a match of which a part isn't funded
abbrev FrontsAreFine : List Act → ℕ → MatchTerms → Type 0
FrontsAreFine history now terms = (count : ℕ) → IsFine history now terms.taker (sum (take count terms.spent)) (take count terms.makers)

abbrev IsShort : List Act → MatchTerms → ℕ → ℕ → Type 0
IsShort history terms place have = unfunded_in (balance history) (slice_get (placed history) terms.taker) terms.fill (parts_in (placed history) terms.makers) ≡ Some (place, have)

instead : (limits : Bounds) (history : List Act) (market now : ℕ) (terms : MatchTerms) (is : IsProposal (snapshot history market now) terms) (place have : ℕ) (refusal : Refusal)
    → let proposed = terms_of is.taker (makers_for (snapshot history market now) is.taker) in
    FrontsAreFine history now proposed → IsShort history proposed place have → verdict (operators limits history now (in_its_place place proposed)) ≡ Some refusal → IsForRoom refusal
instead limits history market now terms is place have refusal fronts short refused =
    let every : List Filling = makers_for (snapshot history market now) is.taker in
    let proposed : MatchTerms = terms_of is.taker every in
    let of_taker = All-contains (IsOffered history market now) (snapshot history market now) is.taker (offered history market now) is.among in
    let of_makers = All-weaker (IsFilling (snapshot history market now) is.taker) (IsNamed history market now is.taker) (named-of history market now is.taker) every is.each in
    let order : Placed = of_taker.state.placed in
    let whole : unfunded_part (balance history) order.market (part_of order (sum_by spent_on every)) (parts_in (placed history) (named every)) ≡ Some (place, have)
    = ap (λ (o : Option Placed). unfunded_in (balance history) o (sum_by spent_on every) (parts_in (placed history) (named every))) (sym (placed-at history market now is.taker of_taker)) ∙ short in
    elim (taker-first (balance history) order.market (part_of order (sum_by spent_on every)) (parts_in (placed history) (named every)) place have whole) [
      | inl poor ↦
          taker-lapses limits history market now is.taker every of_taker of_makers is.within refusal poor.1
          (subst (λ (p : ℕ). verdict (operators limits history now (in_its_place p proposed)) ≡ Some refusal) poor.0 refused)
      | inr maker ↦ elim (three place) [
        | inl none ↦
            let least = from-least (balance history) order.market 1 [] (parts_in (placed history) (named every)) place have maker.1 in
            absurd (omega (arith, least, none))
        | inr more ↦ elim more [
          | inl one ↦
              maker-lapses limits history market now is.taker every of_taker of_makers is.within refusal every of_makers have
              (subst (λ (p : ℕ). unfunded_from (balance history) order.market 1 [] (parts_in (placed history) (named every)) ≡ Some (p, have)) one maker.1)
              (subst (λ (p : ℕ). verdict (operators limits history now (in_its_place p proposed)) ≡ Some refusal) one refused)
          | inr past_one ↦
              let n : ℕ = place - 1 in
              let few : 1 + n ≤ place = omega (arith, past_one) in
              let filled : ℕ = sum (take n (map spent_on every)) in
              let spent : filled ≡ sum_by spent_on (take n every) = ap sum (take-map spent_on n every) ∙ sum-map spent_on (take n every) in
              let most : sum_by spent_on (take n every) ≤ sum_by spent_on every = sum_by-take-le spent_on every n in
              let makers : take n (map name_of every) ≡ named (take n every) = take-map name_of n every in
              shorter limits history market now is.taker every of_taker of_makers is.within refusal place n have filled few (omega (arith, spent, most)) maker.0 maker.1
              (subst (IsFine history now is.taker.order filled) makers (fronts n))
              (subst (λ (ms : List (ℕ × ℕ)). verdict (operators limits history now (Match is.taker.order filled ms)) ≡ Some refusal) makers
              (subst (λ (command : Command). verdict (operators limits history now command) ≡ Some refusal) (third place proposed past_one) refused))
        ]
      ]
    ]

in-place : (limits : Bounds) (history : List Act) (market now : ℕ) (terms : MatchTerms) (place have : ℕ) (refusal : Refusal) → IsLegal limits history → proposal (snapshot history market now) ≡ Some terms
    → IsShort history terms place have → verdict (operators limits history now (in_its_place place terms)) ≡ Some refusal → IsForRoom refusal
in-place limits history market now terms place have refusal legal proposed =
    let is = is-proposal (snapshot history market now) terms (is-snapshot history market now) proposed in
    let fronts : FrontsAreFine history now terms = λ count. fine-front limits history market now count terms legal proposed in
    subst (λ (t : MatchTerms). FrontsAreFine history now t → IsShort history t place have → verdict (operators limits history now (in_its_place place t)) ≡ Some refusal → IsForRoom refusal) (sym is.terms_are)
    (instead limits history market now terms is place have refusal) fronts

abbrev told : Refusal → Result Command Refusal → Refusal
told other (Ok command) = other
told other (Err refusal) = refusal

or-refused : (o : Option Refusal) (command : Command) (refusal : Refusal) → or_refused o command ≡ Err refusal → o ≡ Some refusal
or-refused None command refusal is = cc
or-refused (Some other) command refusal is = ap Some (ap (told other) is)

pub turn-stops : (limits : Bounds) (history : List Act) (market now : ℕ) (refusal : Refusal) → IsLegal limits history → turn limits history market now ≡ Some (Err refusal) → IsForRoom refusal
turn-stops limits history market now refusal legal stopped = by (proposal (snapshot history market now)) refl stopped
  where
    chose : (terms : MatchTerms) → proposal (snapshot history market now) ≡ Some terms → (v : Option Refusal) → says_of limits history now (match_of terms) ≡ v
        → chosen (says_of limits history now) terms v ≡ Err refusal → IsForRoom refusal
    chose terms proposed None says is = cc
    chose terms proposed (Some (Unfunded have place)) says is =
        in-place limits history market now terms place have refusal legal proposed
        (match-stops limits history now terms.taker terms.fill terms.makers (Unfunded have place) (fine limits history market now terms legal proposed) says)
        (or-refused (says_of limits history now (in_its_place place terms)) (in_its_place place terms) refusal is)
    chose terms proposed (Some other) says is =
        subst IsForRoom (ap (told other) is) (match-stops limits history now terms.taker terms.fill terms.makers other (fine limits history market now terms legal proposed) says)

    by : (o : Option MatchTerms) → proposal (snapshot history market now) ≡ o
        → option_map (λ (terms : MatchTerms). chosen (says_of limits history now) terms (says_of limits history now (match_of terms))) o ≡ Some (Err refusal) → IsForRoom refusal
    by None proposed is = cc
    by (Some terms) proposed is = chose terms proposed (says_of limits history now (match_of terms)) refl (some-same (chosen (says_of limits history now) terms (says_of limits history now (match_of terms))) (Err refusal) is)
