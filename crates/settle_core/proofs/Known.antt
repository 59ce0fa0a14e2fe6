-- What a history posts is of conditions that it prepared.
use Rattle.std.proofs.Common.{◌≡◌, ℕ, suc, ◌<◌, ◌≤◌, false, List, [], ◌∷◌, ◌++◌, length, Option, Some, None, All, refl, ◌∙◌, arith, inl, inr}
use Rattle.std.specs.Int.{bit_at}
use Rattle.std.specs.Prelude.{◌==◌, ⊤, map, slice_get, MatchOption}
use Rattle.std.specs.List.{list_any, flat_map}
use Rattle.std.proofs.lemmas.Bool.{cases_Bool, or_parts, leb-false}
use Rattle.std.proofs.lemmas.Bool.Decides.{nat_tests}
use Rattle.std.proofs.lemmas.List.Elements.{All-append, All-cons, All-head, All-nil, All-tail, All-weaker}
use Rattle.collection_keys.proofs.Joining.{part-joined_other}
use Rattle.collection_keys.specs.Collections.{Pairs, joined, part, root}
use Rattle.condition_table.specs.declared.facts.Facts.{Facts}
use Rattle.condition_sets.specs.declared.names.TheConstants.{OPERATOR}
use Rattle.convert_positions.specs.Converting.{cash_of, chosen_from, fee_of, no_of, others_from, out_of, paid_for, yes_of}
use Rattle.event_table.specs.Events.{EventView}
use Rattle.ledger_book.specs.Postings.{credit, debit}
use Rattle.ledger_book.specs.declared.posting.Posting.{Posting}
use Rattle.command_words.specs.declared.act.Act.{Act}
use Rattle.command_words.specs.declared.command.Command.{Command}
use Rattle.command_words.specs.declared.command.Command.TheVariants.{Deposit, Withdraw, Move, Split, Merge, Redeem, Convert, Match}
use Rattle.condition_sets.specs.declared.partition.Union.{Union}
use Rattle.condition_sets.specs.declared.partition.Union.TheVariants.{Full, Part}
use Rattle.match_kinds.specs.Matching.{pays_in}
use Rattle.order_rules.specs.declared.side.Side.{Side}
use Rattle.order_rules.specs.declared.side.Side.TheVariants.{Buy, Sell}
use Rattle.order_rules.specs.declared.token.Token.{Token}
use Rattle.order_rules.specs.declared.token.Token.TheVariants.{Yes, No}
use Rattle.report_redeem.specs.Redeeming.{Redeemed, postings_for, redeemed}
use Rattle.split_merge.specs.Splitting.{whole_of}
use Rattle.settle_core.specs.Book.{Book, answers, book, conditions, conversions, converted_in, events, held_in, postings_of, redeemed_in, reports, told}
use Rattle.settle_core.specs.Bounds.{Bounds}
use Rattle.settle_core.specs.Keys.{is_unprepared, key_is_unprepared, union_in, whole_in}
use Rattle.settle_core.specs.Refusals.{Question}
use Rattle.settle_core.proofs.Matched.{IsMatched, each-posted, market-within}
use Rattle.settle_core.proofs.Orderly.{IsOrderlyBy, event-known}
use Rattle.settle_core.proofs.Verdicts.{AreNone, earlier, accepted-prepared}

-- a collection has no condition from this number on
abbrev pub IsKnown : ℕ → Pairs → Type 0
IsKnown n k = (c : ℕ) → n ≤ c → part k c ≡ None

-- nor has what is posted
abbrev pub AreKnown : ℕ → List Posting → Type 0
AreKnown n ps = All (λ p. IsKnown n p.collection) ps

pub known-root : (n : ℕ) → IsKnown n root
known-root n c past = refl

-- a key whose conditions are prepared
pub known-key : (prepared : List Facts) (key : Pairs) → key_is_unprepared prepared key ≡ false → IsKnown (length prepared) key
known-key prepared [] is c past = refl
known-key prepared (p ∷ ps) is c past =
    let parts = or_parts (is_unprepared prepared p.0) (list_any (λ (q : ℕ × ℕ). is_unprepared prepared q.0) ps) is in
    let inside : p.0 < length prepared = leb-false _ _ parts.0 in
    let rest : part ps c ≡ None = known-key prepared ps parts.1 c past in
    let other : (p.0 == c) ≡ false = grind (arith, nat_tests) in
    rw other rest

-- with a prepared condition joined
pub known-joined : (n : ℕ) (k : Pairs) (c set : ℕ) → c < n → IsKnown n k → IsKnown n (joined k c set)
known-joined n k c set inside known d past = part-joined_other k c d set (λ same. absurd (omega (arith, same))) ∙ known d past

-- as more is prepared
pub known-later : (n m : ℕ) (ps : List Posting) → n ≤ m → AreKnown n ps → AreKnown m ps
known-later n m ps later known = All-weaker (λ (p : Posting). IsKnown n p.collection) (λ (p : Posting). IsKnown m p.collection) (λ p is c past. is c (omega arith)) ps known

pub known-none : (n : ℕ) → AreKnown n []
known-none n = All-nil (λ (p : Posting). IsKnown n p.collection)

pub known-one : (n : ℕ) (p : Posting) (ps : List Posting) → IsKnown n p.collection → AreKnown n ps → AreKnown n (p ∷ ps)
known-one n p ps is others = All-cons (λ (q : Posting). IsKnown n q.collection) p ps is others

pub known-both : (n : ℕ) (ps qs : List Posting) → AreKnown n ps → AreKnown n qs → AreKnown n (ps ++ qs)
known-both n ps qs first second = All-append (λ (q : Posting). IsKnown n q.collection) ps qs first second

-- the parts of a parent, paid or taken
pub known-credits : (n a amount : ℕ) (k : Pairs) (c : ℕ) (sets : List ℕ) → c < n → IsKnown n k → AreKnown n (map (λ j. credit a j amount) (map (λ set. joined k c set) sets))
known-credits n a amount k c [] inside known = known-none n
known-credits n a amount k c (x ∷ xs) inside known = known-one n (credit a (joined k c x) amount) _ (known-joined n k c x inside known) (known-credits n a amount k c xs inside known)

pub known-debits : (n a amount : ℕ) (k : Pairs) (c : ℕ) (sets : List ℕ) → c < n → IsKnown n k → AreKnown n (map (λ j. debit a j amount) (map (λ set. joined k c set) sets))
known-debits n a amount k c [] inside known = known-none n
known-debits n a amount k c (x ∷ xs) inside known = known-one n (debit a (joined k c x) amount) _ (known-joined n k c x inside known) (known-debits n a amount k c xs inside known)

-- what is redeemed
pub known-redeemed : (n a : ℕ) (k : Pairs) (c : ℕ) (rs : List Redeemed) → c < n → IsKnown n k → AreKnown n (flat_map (postings_for a k c) rs)
known-redeemed n a k c [] inside known = known-none n
known-redeemed n a k c (r ∷ rs) inside known =
    known-one n (debit a (joined k c r.set) r.burnt) (credit a k r.paid ∷ flat_map (postings_for a k c) rs) (known-joined n k c r.set inside known)
    (known-one n (credit a k r.paid) (flat_map (postings_for a k c) rs) known (known-redeemed n a k c rs inside known))

known-redemption : (b : Book) (a : ℕ) (parent : Pairs) (c : ℕ) (sets : List ℕ) (o : Option (List ℕ)) → c < length b.conditions → IsKnown (length b.conditions) parent → AreKnown (length b.conditions) (redeemed_in b a parent c sets o)
known-redemption b a parent c sets None inside known = known-none _
known-redemption b a parent c sets (Some ns) inside known = known-redeemed (length b.conditions) a parent c (redeemed (held_in b) a parent c ns sets) inside known

-- what is converted, in an event whose conditions are prepared
known-chosen : (n a amount set place : ℕ) (cs : List ℕ) → All (λ c. c < n) cs → AreKnown n (map (λ c. debit a (no_of c) amount) (chosen_from set place cs))
known-chosen n a amount set place [] inside = known-none n
known-chosen n a amount set place (c ∷ cs) inside =
    let first : c < n = All-head (λ (d : ℕ). d < n) c cs inside in
    let rest = known-chosen n a amount set (suc place) cs (All-tail (λ (d : ℕ). d < n) c cs inside) in
    elim (cases_Bool (bit_at set place == 1)) [
      | inl here ↦ rw here (known-one n (debit a (no_of c) amount) _ (known-joined n root c 2 first (known-root n)) rest)
      | inr other ↦ rw other rest
    ]

known-others : (n a each set place : ℕ) (cs : List ℕ) → All (λ c. c < n) cs → AreKnown n (map (λ c. credit a (yes_of c) each) (others_from set place cs))
known-others n a each set place [] inside = known-none n
known-others n a each set place (c ∷ cs) inside =
    let first : c < n = All-head (λ (d : ℕ). d < n) c cs inside in
    let rest = known-others n a each set (suc place) cs (All-tail (λ (d : ℕ). d < n) c cs inside) in
    elim (cases_Bool (bit_at set place == 1)) [
      | inl here ↦ rw here rest
      | inr other ↦ rw other (known-one n (credit a (yes_of c) each) _ (known-joined n root c 1 first (known-root n)) rest)
    ]

known-paid : (n a each set : ℕ) (cs : List ℕ) → All (λ c. c < n) cs → AreKnown n (paid_for a each set cs)
known-paid n a each set cs inside =
    known-both n _ _ (known-others n a each set 0 cs inside) (known-one n (credit a root (cash_of each set cs)) [] (known-root n) (known-none n))

known-converted : (n a set amount : ℕ) (o : Option EventView) → MatchOption o ⊤ (λ event. All (λ c. c < n) event.conditions) → AreKnown n (converted_in o a set amount)
known-converted n a set amount None inside = known-none n
known-converted n a set amount (Some event) inside =
    known-both n _ _ (known-chosen n a amount set 0 event.conditions inside)
    (known-both n _ _ (known-paid n a (out_of amount event.bips) set event.conditions inside) (known-paid n OPERATOR (fee_of amount event.bips) set event.conditions inside))

-- what is split and merged
known-whole : (prepared : List Facts) (parent : Pairs) (condition : ℕ) (sets : List ℕ) → condition < length prepared → IsKnown (length prepared) parent → IsKnown (length prepared) (whole_in prepared parent condition sets)
known-whole prepared parent condition sets inside known = by (union_in prepared condition sets)
  where
    by : (u : Union) → IsKnown (length prepared) (whole_of u parent condition)
    by Full = known
    by (Part set) = known-joined (length prepared) parent condition set inside known

-- what a part of a match pays, in a market that is prepared
known-paid_in : (n market : ℕ) (side : Side) (token : Token) → market < n → IsKnown n (pays_in market side token)
known-paid_in n market Buy token inside = known-root n
known-paid_in n market Sell Yes inside = known-joined n root market 1 inside (known-root n)
known-paid_in n market Sell No inside = known-joined n root market 2 inside (known-root n)

-- what an accepted command posts
pub known-posted : (limits : Bounds) (history : List Act) (account moment : ℕ) (command : Command) → IsOrderlyBy history → IsMatched history command
    → AreNone (earlier (record { limits = limits; history = history; account = account; command = command; moment = moment }))
    → AreKnown (length (conditions history)) (postings_of (book history) account command)
known-posted limits history account moment (Deposit to amount) is matched none = known-one _ (credit to root amount) [] (known-root _) (known-none _)
known-posted limits history account moment (Withdraw amount) is matched none = known-one _ (debit account root amount) [] (known-root _) (known-none _)
known-posted limits history account moment (Move to key amount) is matched none =
    let q : Question = record { limits = limits; history = history; account = account; command = Move to key amount; moment = moment } in
    let there = or_parts (key_is_unprepared (conditions history) key) false (accepted-prepared q none) in
    let known = known-key (conditions history) key there.0 in
    let n = length (conditions history) in
    known-one n (debit account key amount) (credit to key amount ∷ []) known (known-one n (credit to key amount) [] known (known-none n))
known-posted limits history account moment (Split parent condition sets amount) is matched none =
    let q : Question = record { limits = limits; history = history; account = account; command = Split parent condition sets amount; moment = moment } in
    let there = or_parts (key_is_unprepared (conditions history) parent) (is_unprepared (conditions history) condition) (accepted-prepared q none) in
    let known = known-key (conditions history) parent there.0 in
    let inside : condition < length (conditions history) = leb-false _ _ there.1 in
    known-one _ (debit account (whole_in (conditions history) parent condition sets) amount) _ (known-whole (conditions history) parent condition sets inside known) (known-credits _ account amount parent condition sets inside known)
known-posted limits history account moment (Merge parent condition sets amount) is matched none =
    let q : Question = record { limits = limits; history = history; account = account; command = Merge parent condition sets amount; moment = moment } in
    let there = or_parts (key_is_unprepared (conditions history) parent) (is_unprepared (conditions history) condition) (accepted-prepared q none) in
    let known = known-key (conditions history) parent there.0 in
    let inside : condition < length (conditions history) = leb-false _ _ there.1 in
    known-both _ _ _ (known-debits _ account amount parent condition sets inside known)
    (known-one _ (credit account (whole_in (conditions history) parent condition sets) amount) [] (known-whole (conditions history) parent condition sets inside known) (known-none _))
known-posted limits history account moment (Redeem parent condition sets) is matched none =
    let q : Question = record { limits = limits; history = history; account = account; command = Redeem parent condition sets; moment = moment } in
    let there = or_parts (key_is_unprepared (conditions history) parent) (is_unprepared (conditions history) condition) (accepted-prepared q none) in
    let known = known-key (conditions history) parent there.0 in
    let inside : condition < length (conditions history) = leb-false _ _ there.1 in
    known-redemption (book history) account parent condition sets (told history condition) inside known
known-posted limits history account moment (Convert event set amount) is matched none =
    known-converted _ account set amount (slice_get (events history) event) (event-known (conditions history) (reports history) (answers history) (events history) (conversions history) event is)
known-posted limits history account moment (Match taker fill makers) is matched none =
    let n = length (conditions history) in
    let market = matched.parts.order.market in
    let known = λ (side : Side) (token : Token). known-paid_in n market side token (market-within history taker fill makers matched) in
    each-posted history (λ (p : Posting). IsKnown n p.collection) taker fill makers matched (λ a side token amount. (known side token, known side token))
known-posted limits history account moment command is matched none = known-none _
