-- A match that isn't refused for its orders is planned, or refused for what its parts pay and get.
use Rattle.std.proofs.Common.{◌≡◌, ◌==◌, ℕ, ◌<◌, true, List, [], ◌∷◌, length, Option, Some, None, Err, refl, sym, ap, subst, ◌∙◌, All, arith, ◌≤◌}
use Rattle.std.specs.Prelude.{option_map, slice_get}
use Rattle.collection_keys.specs.Collections.{Pairs}
use Rattle.command_words.specs.Command.{in_ranges}
use Rattle.command_words.specs.declared.act.Act.{Act}
use Rattle.command_words.specs.declared.command.Command.TheVariants.{Match}
use Rattle.command_words.specs.declared.refusal.Refusal.{Refusal}
use Rattle.command_words.specs.declared.refusal.Refusal.TheVariants.{ExchangeShort, Memory as NoMemory, TooLittle, Unfunded}
use Rattle.command_words.specs.declared.reply.Reply.TheVariants.{Matched}
use Rattle.condition_sets.specs.declared.names.TheConstants.{OPERATOR}
use Rattle.condition_table.specs.Conditions.{ConditionsView}
use Rattle.event_table.specs.Events.{EventsView}
use Rattle.ledger_book.specs.Ledger.{LedgerView, amount_at}
use Rattle.ledger_book.specs.declared.posting.Posting.{Posting}
use Rattle.match_kinds.specs.Matching.{IsMaker, IsPart}
use Rattle.match_kinds.specs.Settling.{MatchedBy, fault_of, or_else, short_place, too_little, unfunded}
use Rattle.match_kinds.specs.declared.part.Part.{Part}
use Rattle.match_kinds.specs.declared.part.TheConstants.{MAX_MAKERS}
use Rattle.match_kinds.specs.declared.settle.MatchFault.{MatchFault}
use Rattle.match_kinds.specs.declared.settle.MatchFault.TheVariants.{Memory, Short, TooLittle as LessThanFloor, Unfunded as ShortPart}
use Rattle.match_kinds.specs.declared.settle.MatchSums.{MatchSums}
use Rattle.order_table.specs.Orders.{OrderView, OrdersView, state_of, order_at}
use Rattle.order_table.specs.declared.order.OrderState.{OrderState}
use Rattle.order_table.specs.declared.order.Placed.{Placed}
use Rattle.settle_core.specs.Bounds.{Bounds}
use Rattle.settle_core.specs.Kept.{AreOrdersOf, IsKept}
use Rattle.settle_core.specs.Legal.{IsLegal}
use Rattle.settle_core.specs.Matches.{little_in, matched_in, part_of, parts_in, short_in, sums_in}
use Rattle.settle_core.specs.OrderRules.{match_refusals}
use Rattle.settle_core.specs.Orders.{nonce, order_state, placed}
use Rattle.settle_core.specs.Postings.{balance}
use Rattle.settle_core.specs.Refusals.{unfunded_in}
use Rattle.settle_core.specs.Reply.{accepted_reply, matched_reply}
use Rattle.settle_core.specs.Rules.{fault_refusal, funding_refusals}
use Rattle.settle_core.specs.Verdict.{first_some, verdict, AnsweredBy}
use Rattle.settle_core.proofs.KeptLemmas.{kept-balance, last_refusals}
use Rattle.settle_core.proofs.Markets.{traded}
use Rattle.settle_core.proofs.Matched.{match-many}
use Rattle.settle_core.proofs.Partings.{match-front, question}
use Rattle.settle_core.proofs.Parts.{AreParts, facts-placed, parts-right}
use Rattle.settle_core.proofs.Posted.{makers-few, makers-some}
use Rattle.settle_core.proofs.Verdicts.{first_some-all, front-past, front-some}

-- ---- what the table of orders tells

pub order-found : (limits : Bounds) (table : OrdersView) (history : List Act) (n : ℕ) (f : OrderState) → AreOrdersOf limits table history → Some f ≡ option_map state_of (order_at table.orders n) → order_state history n ≡ Some f
order-found limits table history n f are is = ap (λ (os : List OrderView). option_map state_of (slice_get os n)) (sym are.orders) ∙ sym is

pub placed-found : (limits : Bounds) (table : OrdersView) (history : List Act) (n : ℕ) (f : OrderState) → AreOrdersOf limits table history → Some f ≡ option_map state_of (order_at table.orders n) → slice_get (placed history) n ≡ Some f.placed
placed-found limits table history n f are is = sym (facts-placed history n) ∙ ap (option_map (λ (x : OrderState). x.placed)) (order-found limits table history n f are is)

pub placed-missed : (limits : Bounds) (table : OrdersView) (history : List Act) (n : ℕ) → AreOrdersOf limits table history → option_map state_of (order_at table.orders n) ≡ None → slice_get (placed history) n ≡ None
placed-missed limits table history n are none =
    sym (facts-placed history n) ∙ ap (option_map (λ (x : OrderState). x.placed)) (ap (λ (os : List OrderView). option_map state_of (slice_get os n)) (sym are.orders) ∙ none)

-- ---- its parts

-- a match that no rule on its orders refuses has parts that may be matched
pub planned-parts : (limits : Bounds) (history : List Act) (now taker fill : ℕ) (makers : List (ℕ × ℕ)) → IsLegal limits history → in_ranges (Match taker fill makers) ≡ true
    → first_some (match_refusals (order_state history) (nonce history) now taker fill makers) ≡ None → AreParts (placed history) taker fill makers
planned-parts limits history now taker fill makers legal ranges none =
    let all = first_some-all (match_refusals (order_state history) (nonce history) now taker fill makers) none in
    parts-right history taker fill makers (traded limits history legal) ranges all.0 all.1.1.1.1.0 all.1.1.1.1.1.1.0 all.1.1.1.1.1.1.1.1.0

-- these are as many as the call that plans a match asks for
pub record ArePlanned (order : Placed) (fill : ℕ) (parts : List Part) : Type 0 where
  pub some : 1 ≤ length parts
  pub few : length parts ≤ MAX_MAKERS
  pub taken : IsPart (part_of order fill)
  pub made : All (IsMaker (part_of order fill)) parts

pub planned : (limits : Bounds) (history : List Act) (now taker fill : ℕ) (makers : List (ℕ × ℕ)) (order : Placed) (ps : List Part) → IsLegal limits history → in_ranges (Match taker fill makers) ≡ true
    → first_some (match_refusals (order_state history) (nonce history) now taker fill makers) ≡ None → slice_get (placed history) taker ≡ Some order → ps ≡ parts_in (placed history) makers → ArePlanned order fill ps
planned limits history now taker fill makers order ps legal ranges none at are =
    let parts = planned-parts limits history now taker fill makers legal ranges none in
    let same : parts.order ≡ order = one (sym parts.at ∙ at) in
    let as_many = parts.made.as_many in
    let some = makers-some taker fill makers ranges in
    let few = makers-few taker fill makers ranges in
    subst (λ (o : Placed). ArePlanned o fill ps) same (subst (λ (qs : List Part). ArePlanned parts.order fill qs) (sym are) (record {
      some = omega (arith, as_many, some);
      few = omega (arith, as_many, few);
      taken = parts.taken;
      made = parts.made.each;
    }))
  where
    one : {a b : Placed} → ◌≡◌ {A = Option Placed} (Some a) (Some b) → a ≡ b
    one e = cc

-- ---- why it isn't planned

-- the first of the three faults is the first of the three refusals
three : (short : Option (ℕ × ℕ)) (outflow : Option ℕ) (little : Option (ℕ × ℕ))
    → option_map fault_refusal (or_else (option_map (λ at. ShortPart at.1 at.0) short) (or_else (option_map Short outflow) (option_map (λ l. LessThanFloor l.1 l.0) little)))
    ≡ first_some (option_map (λ s. Unfunded s.1 s.0) short ∷ option_map ExchangeShort outflow ∷ option_map (λ l. TooLittle l.1 l.0) little ∷ [])
three (Some s) outflow little = refl
three None (Some o) little = refl
three None None (Some l) = refl
three None None None = refl

refused-by : (X : Type 0) (given : Option MatchFault) (fault : MatchFault) → MatchedBy given (Err fault) → AnsweredBy {X = X} (option_map fault_refusal given) (Err (fault_refusal fault))
refused-by X given Memory by = tt
refused-by X given (ShortPart have place) by = ap (option_map fault_refusal) by
refused-by X given (Short place) by = ap (option_map fault_refusal) by
refused-by X given (LessThanFloor floor got) by = ap (option_map fault_refusal) by

-- the refusals of a match by what a ledger holds are those by what its history does
same-refusals : (limits : Bounds) (made : EventsView) (table : ConditionsView) (ledger : LedgerView) (history : List Act) (order : Placed) (taker fill : ℕ) (makers : List (ℕ × ℕ)) (parts : List Part) → IsKept limits made table ledger history
    → slice_get (placed history) taker ≡ Some order → parts ≡ parts_in (placed history) makers
    → option_map fault_refusal (fault_of (amount_at ledger) order.market (part_of order fill) parts) ≡ first_some (funding_refusals (placed history) (balance history) taker fill makers)
same-refusals limits made table ledger history order taker fill makers parts kept at are =
    let held : balance history ≡ amount_at ledger = λ i a k. kept-balance limits made table ledger history kept a k i in
    let by : (ℕ → Pairs → ℕ) → List Part → Option Placed → List (Option Refusal) = λ h ps o.
    option_map (λ s. Unfunded s.1 s.0) (unfunded_in h o fill ps) ∷ option_map ExchangeShort (short_in o fill ps) ∷ option_map (λ l. TooLittle l.1 l.0) (little_in o fill ps) ∷ [] in
    three (unfunded (amount_at ledger) order.market (part_of order fill) parts) (short_place (part_of order fill) parts) (too_little (part_of order fill) parts)
    ∙ (λ i. first_some (by (sym held i) (are i) (sym at i)))

pub staged-refused : (X : Type 0) (limits : Bounds) (made : EventsView) (table : ConditionsView) (ledger : LedgerView) (history : List Act) (order : Placed) (taker fill : ℕ) (makers : List (ℕ × ℕ)) (parts : List Part) (fault : MatchFault) → IsKept limits made table ledger history
    → slice_get (placed history) taker ≡ Some order → parts ≡ parts_in (placed history) makers → MatchedBy (fault_of (amount_at ledger) order.market (part_of order fill) parts) (Err fault)
    → AnsweredBy {X = X} (first_some (funding_refusals (placed history) (balance history) taker fill makers)) (Err (fault_refusal fault))
staged-refused X limits made table ledger history order taker fill makers parts fault kept at are by =
    subst (λ (o : Option Refusal). AnsweredBy {X = X} o (Err (fault_refusal fault))) (same-refusals limits made table ledger history order taker fill makers parts kept at are)
    (refused-by X (fault_of (amount_at ledger) order.market (part_of order fill) parts) fault by)

pub staged-right : (limits : Bounds) (made : EventsView) (table : ConditionsView) (ledger : LedgerView) (history : List Act) (order : Placed) (taker fill : ℕ) (makers : List (ℕ × ℕ)) (parts : List Part) → IsKept limits made table ledger history
    → slice_get (placed history) taker ≡ Some order → parts ≡ parts_in (placed history) makers → fault_of (amount_at ledger) order.market (part_of order fill) parts ≡ None
    → first_some (funding_refusals (placed history) (balance history) taker fill makers) ≡ None
staged-right limits made table ledger history order taker fill makers parts kept at are none =
    sym (same-refusals limits made table ledger history order taker fill makers parts kept at are) ∙ ap (option_map fault_refusal) none

-- what it posts is something
pub staged-some : (history : List Act) (taker fill : ℕ) (makers : List (ℕ × ℕ)) (ps : List Posting) → AreParts (placed history) taker fill makers
    → ps ≡ matched_in (slice_get (placed history) taker) fill (parts_in (placed history) makers) → 0 < length ps
staged-some history taker fill makers ps parts posted =
    let some : 0 < length (matched_in (Some parts.order) fill (parts_in (placed history) makers)) = omega (arith, match-many parts.order.market (part_of parts.order fill) (parts_in (placed history) makers)) in
    subst (λ (qs : List Posting). 0 < length qs) (sym (posted ∙ ap (λ (o : Option Placed). matched_in o fill (parts_in (placed history) makers)) parts.at)) some

-- ---- the verdict on it

pub match-refused : (limits : Bounds) (history : List Act) (account taker fill : ℕ) (makers : List (ℕ × ℕ)) (now : ℕ) (r : Refusal) → (account == OPERATOR) ≡ true
    → first_some (match_refusals (order_state history) (nonce history) now taker fill makers) ≡ Some r → verdict (question limits history account (Match taker fill makers) now) ≡ Some r
match-refused limits history account taker fill makers now r operator is =
    match-front limits history account taker fill makers now operator ∙ front-some (match_refusals (order_state history) (nonce history) now taker fill makers) _ r is

pub match-unstaged : (X Y : Type 0) (limits : Bounds) (history : List Act) (account taker fill : ℕ) (makers : List (ℕ × ℕ)) (now : ℕ) (r : Refusal) → (account == OPERATOR) ≡ true
    → first_some (match_refusals (order_state history) (nonce history) now taker fill makers) ≡ None → AnsweredBy {X = X} (first_some (funding_refusals (placed history) (balance history) taker fill makers)) (Err r)
    → AnsweredBy {X = Y} (verdict (question limits history account (Match taker fill makers) now)) (Err r)
match-unstaged X Y limits history account taker fill makers now NoMemory operator none by = tt
match-unstaged X Y limits history account taker fill makers now r operator none by =
    match-front limits history account taker fill makers now operator
    ∙ front-past (match_refusals (order_state history) (nonce history) now taker fill makers) _ none
    ∙ front-some (funding_refusals (placed history) (balance history) taker fill makers) _ r by

pub match-last : (limits : Bounds) (history : List Act) (account taker fill : ℕ) (makers : List (ℕ × ℕ)) (now : ℕ) (ps : List Posting) → (account == OPERATOR) ≡ true
    → first_some (match_refusals (order_state history) (nonce history) now taker fill makers) ≡ None → first_some (funding_refusals (placed history) (balance history) taker fill makers) ≡ None
    → ps ≡ matched_in (slice_get (placed history) taker) fill (parts_in (placed history) makers)
    → verdict (question limits history account (Match taker fill makers) now) ≡ last_refusals limits history ps
match-last limits history account taker fill makers now ps operator none funded posted =
    match-front limits history account taker fill makers now operator
    ∙ front-past (match_refusals (order_state history) (nonce history) now taker fill makers) _ none
    ∙ front-past (funding_refusals (placed history) (balance history) taker fill makers) _ funded
    ∙ ap (last_refusals limits history) (sym posted)

-- its reply
pub match-reply : (history : List Act) (account taker fill : ℕ) (makers : List (ℕ × ℕ)) (sums : MatchSums) → sums_in (slice_get (placed history) taker) fill (parts_in (placed history) makers) ≡ Some sums
    → Matched sums.fee sums.got (length history) sums.refund ≡ accepted_reply history account (Match taker fill makers)
match-reply history account taker fill makers sums is = sym (ap (matched_reply (length history)) is)
