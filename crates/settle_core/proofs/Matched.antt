-- An accepted match: its parts, and what holds of all that it posts.
use Rattle.std.proofs.Common.{◌≡◌, ℕ, suc, ◌+◌, ◌-◌, ◌*◌, ◌<◌, ◌≤◌, true, List, [], ◌∷◌, ◌++◌, length, Option, Some, None, All, refl, sym, subst, arith, length-append}
use Rattle.std.specs.Prelude.{⊤, map, slice_get, MatchOption}
use Rattle.std.specs.List.{flat_map}
use Rattle.std.proofs.lemmas.List.{length-map}
use Rattle.std.proofs.lemmas.List.Elements.{All-append, All-cons, All-head, All-nil, All-tail}
use Rattle.std.proofs.lemmas.Option.{slice_get_within}
use Rattle.command_words.specs.Command.{in_ranges}
use Rattle.command_words.specs.declared.act.Act.{Act}
use Rattle.command_words.specs.declared.command.Command.{Command}
use Rattle.command_words.specs.declared.command.Command.TheVariants.{Match}
use Rattle.condition_sets.specs.declared.names.TheConstants.{OPERATOR}
use Rattle.condition_table.specs.declared.facts.Facts.{Facts}
use Rattle.ledger_book.specs.Postings.{credit, debit}
use Rattle.ledger_book.specs.declared.posting.Posting.{Posting}
use Rattle.match_kinds.specs.Matching.{gets_in, got_of, maker_fee, paid_asset, pays_in, refund_of, taken_asset, taker_fee, taking_by}
use Rattle.match_kinds.specs.Settling.{fee_postings, maker_postings, match_postings}
use Rattle.match_kinds.specs.declared.part.Part.{Part}
use Rattle.order_rules.specs.declared.side.Side.{Side}
use Rattle.order_rules.specs.declared.side.Side.TheVariants.{Buy, Sell}
use Rattle.order_rules.specs.declared.token.Token.{Token}
use Rattle.order_table.specs.declared.order.Placed.{Placed}
use Rattle.settle_core.specs.Book.{conditions}
use Rattle.settle_core.specs.Bounds.{Bounds}
use Rattle.settle_core.specs.Matches.{matched_in, part_by, part_of, parts_in}
use Rattle.settle_core.specs.Orders.{placed}
use Rattle.settle_core.specs.Refusals.{Question}
use Rattle.settle_core.proofs.Markets.{AreTraded, HasTwoSlots}
use Rattle.settle_core.proofs.Parts.{AreParts, among, parts-right}
use Rattle.settle_core.proofs.Verdicts.{AreNone, earlier, accepted-left, accepted-order, accepted-others, accepted-pairs}

-- ---- what holds of each posting

-- a posting of one of these accounts and collections
module _ (P : Posting → Type 0) (IsOf : ℕ → Type 0) (market : ℕ) (each : (a : ℕ) (side : Side) (token : Token) (amount : ℕ) → IsOf a → P (credit a (pays_in market side token) amount) × P (debit a (pays_in market side token) amount)) where
  nothing : All P []
  nothing = All-nil P

  one : (p : Posting) (ps : List Posting) → P p → All P ps → All P (p ∷ ps)
  one p ps is rest = All-cons P p ps is rest

  -- what a side gets the other side pays
  got : (a : ℕ) (side : Side) (token : Token) (amount : ℕ) → IsOf a → P (credit a (gets_in market side token) amount)
  got a Buy token amount of = (each a Sell token amount of).0
  got a Sell token amount of = (each a Buy token amount of).0

  makers-each : (makers : List Part) → All (λ m. IsOf m.account) makers → All P (flat_map (maker_postings market) makers)
  makers-each [] of = nothing
  makers-each (m ∷ ms) of =
      let here : IsOf m.account = All-head (λ (x : Part). IsOf x.account) m ms of in
      let paid : Posting = debit m.account (paid_asset market m) m.fill in
      let gets : Posting = credit m.account (taken_asset market m) (taking_by m - maker_fee m) in
      let behind : List Posting = flat_map (maker_postings market) ms in
      let rest = makers-each ms (All-tail (λ (x : Part). IsOf x.account) m ms of) in
      one paid (gets ∷ behind) (each m.account m.limit.side m.token m.fill here).1 (one gets behind (got m.account m.limit.side m.token (taking_by m - maker_fee m) here) rest)

  fees-each : (taker : Part) (fee : ℕ) (makers : List Part) → IsOf OPERATOR → All P (map (λ m. credit OPERATOR (taken_asset market m) (maker_fee m)) makers ++ credit OPERATOR (taken_asset market taker) fee ∷ [])
  fees-each taker fee [] of = one (credit OPERATOR (taken_asset market taker) fee) [] (got OPERATOR taker.limit.side taker.token fee of) nothing
  fees-each taker fee (m ∷ ms) of =
      one (credit OPERATOR (taken_asset market m) (maker_fee m)) (map (λ x. credit OPERATOR (taken_asset market x) (maker_fee x)) ms ++ credit OPERATOR (taken_asset market taker) fee ∷ [])
      (got OPERATOR m.limit.side m.token (maker_fee m) of) (fees-each taker fee ms of)

  pub matched-each : (taker : Part) (makers : List Part) → IsOf OPERATOR → IsOf taker.account → All (λ m. IsOf m.account) makers → All P (match_postings market taker makers)
  matched-each taker makers operator own of =
      let fees : List Posting = fee_postings market taker makers in
      let net : ℕ = got_of taker makers - taker_fee taker makers in
      let back : Posting = credit taker.account (paid_asset market taker) (refund_of taker makers) in
      let gets : Posting = credit taker.account (taken_asset market taker) net in
      one (debit taker.account (paid_asset market taker) taker.fill) (flat_map (maker_postings market) makers ++ back ∷ gets ∷ fees) (each taker.account taker.limit.side taker.token taker.fill own).1
      (All-append P (flat_map (maker_postings market) makers) (back ∷ gets ∷ fees) (makers-each makers of)
      (one back (gets ∷ fees) (each taker.account taker.limit.side taker.token (refund_of taker makers) own).0
      (one gets fees (got taker.account taker.limit.side taker.token net own) (fees-each taker (taker_fee taker makers) makers operator))))

-- ---- how many they are

makers-many : (market : ℕ) (makers : List Part) → length (flat_map (maker_postings market) makers) ≡ 2 * length makers
makers-many market [] = refl
makers-many market (m ∷ ms) = omega (arith, makers-many market ms)

pub match-many : (market : ℕ) (taker : Part) (makers : List Part) → length (match_postings market taker makers) ≡ 3 * length makers + 4
match-many market taker makers =
    let fees : List Posting = map (λ m. credit OPERATOR (taken_asset market m) (maker_fee m)) makers in
    omega (
      arith,
      makers-many market makers,
      length-append (flat_map (maker_postings market) makers) (credit taker.account (paid_asset market taker) (refund_of taker makers) ∷ credit taker.account (taken_asset market taker) (got_of taker makers - taker_fee taker makers) ∷ fee_postings market taker makers),
      length-append fees (credit OPERATOR (taken_asset market taker) (taker_fee taker makers) ∷ []),
      length-map makers (λ (m : Part). credit OPERATOR (taken_asset market m) (maker_fee m)),
    )

-- no more makers than are named
parts-few : (orders : List Placed) (named : List (ℕ × ℕ)) → length (parts_in orders named) ≤ length named
parts-few orders [] = omega arith
parts-few orders (n ∷ ns) = by (slice_get orders n.0) (parts-few orders ns)
  where
    by : (o : Option Placed) → length (parts_in orders ns) ≤ length ns → length (part_by o n.1 ++ parts_in orders ns) ≤ suc (length ns)
    by None few = omega (arith, few)
    by (Some order) few = omega (arith, few)

pub matched-few : (orders : List Placed) (o : Option Placed) (fill : ℕ) (named : List (ℕ × ℕ)) → length (matched_in o fill (parts_in orders named)) ≤ 3 * length named + 4
matched-few orders None fill named = omega arith
matched-few orders (Some taker) fill named = omega (arith, match-many taker.market (part_of taker fill) (parts_in orders named), parts-few orders named)

-- ---- an accepted match

-- its orders are parts that may be matched, in a market of two slots
pub record IsMatch (history : List Act) (taker fill : ℕ) (makers : List (ℕ × ℕ)) : Type 0 where
  pub parts : AreParts (placed history) taker fill makers
  pub market : HasTwoSlots (conditions history) parts.order.market

abbrev pub IsMatched : List Act → Command → Type 0
IsMatched history (Match taker fill makers) = IsMatch history taker fill makers
IsMatched history command = ⊤

pub accepted-match : (limits : Bounds) (history : List Act) (account moment : ℕ) (command : Command) → AreTraded history → in_ranges command ≡ true
    → AreNone (earlier (record { limits = limits; history = history; account = account; command = command; moment = moment })) → IsMatched history command
accepted-match limits history account moment (Match taker fill makers) traded ranges none =
    let q : Question = record { limits = limits; history = history; account = account; command = Match taker fill makers; moment = moment } in
    let parts = parts-right history taker fill makers traded ranges (accepted-order q none) (accepted-others q none) (accepted-pairs q none) (accepted-left q none) in
    record { parts = parts; market = traded.markets parts.order.market (among history parts.order taker parts.at traded).market }
accepted-match limits history account moment command traded ranges none = tt

-- what holds of what is posted in the market of its taker holds of all that it posts
pub each-posted : (history : List Act) (P : Posting → Type 0) (taker fill : ℕ) (makers : List (ℕ × ℕ)) (is : IsMatch history taker fill makers)
    → ((a : ℕ) (side : Side) (token : Token) (amount : ℕ) → P (credit a (pays_in is.parts.order.market side token) amount) × P (debit a (pays_in is.parts.order.market side token) amount))
    → All P (matched_in (slice_get (placed history) taker) fill (parts_in (placed history) makers))
each-posted history P taker fill makers is each =
    subst (λ (o : Option Placed). All P (matched_in o fill (parts_in (placed history) makers))) (sym is.parts.at)
    (matched-each P (λ a. ⊤) is.parts.order.market (λ a side token amount of. each a side token amount) (part_of is.parts.order fill) (parts_in (placed history) makers) tt tt (λ i d inside. tt))

-- the market of its taker is a prepared condition
pub market-within : (history : List Act) (taker fill : ℕ) (makers : List (ℕ × ℕ)) (is : IsMatch history taker fill makers) → is.parts.order.market < length (conditions history)
market-within history taker fill makers is = by (slice_get (conditions history) is.parts.order.market) refl is.market
  where
    by : (o : Option Facts) → slice_get (conditions history) is.parts.order.market ≡ o → MatchOption o ⊥ (λ f. f.slots ≡ 2) → is.parts.order.market < length (conditions history)
    by None at two = absurd two
    by (Some f) at two = slice_get_within (conditions history) is.parts.order.market f at
