-- What an accepted command moves, in what it is worth at an outcome: it pays what it takes and deposits, but that a
-- redemption may lose what is rounded down.
use Rattle.std.proofs.Common.{◌≡◌, ℕ, ◌+◌, ◌-◌, ◌*◌, ◌<◌, ◌≤◌, ◌^◌, Bool, true, false, List, [], ◌∷◌, ◌++◌, length, Option, Some, None, refl, sym, ap, subst, ◌∙◌, All, arith, inl, inr}
use Rattle.std.specs.Prelude.{◌==◌, map, sum, slice_get, MatchOption}
use Rattle.std.specs.List.{flat_map}
use Rattle.std.proofs.lemmas.Bool.{cases_Bool, eqb-true, or_parts}
use Rattle.std.proofs.lemmas.Bool.Decides.{nat_tests}
use Rattle.std.proofs.lemmas.List.Elements.{All-contains, All-head}
use Rattle.std.proofs.lemmas.Option.{slice_get_within}
use Rattle.collection_keys.specs.Collections.{Pairs, joined, part, root}
use Rattle.command_words.specs.declared.act.Act.{Act}
use Rattle.command_words.specs.declared.command.Command.{Command}
use Rattle.command_words.specs.declared.command.Command.TheVariants.{Deposit, Withdraw, Move, Split, Merge, Redeem, Convert, Match}
use Rattle.condition_sets.proofs.Unions.{AreApart_from_none}
use Rattle.condition_sets.specs.Sets.{union_of}
use Rattle.condition_sets.specs.declared.names.TheConstants.{EXCHANGE}
use Rattle.condition_table.specs.Conditions.{IsReport}
use Rattle.condition_table.specs.declared.facts.Facts.{Facts}
use Rattle.convert_positions.specs.Questions.{conditions_of}
use Rattle.coverage_law.proofs.Conversions.{conversion-worth}
use Rattle.coverage_law.proofs.Needs.{paid-append, paid-cons, taken-append, taken-cons, paid-none, taken-none, credit-paid, credit-taken, debit-paid, debit-taken, credits-taken, debits-paid}
use Rattle.coverage_law.proofs.Worths.{answered-worth, cash-worth, parts-paid, parts-taken, union-worth, whole-worth, redeemed-worth}
use Rattle.coverage_law.specs.Need.{paid_worth, taken_worth}
use Rattle.coverage_law.specs.Outcomes.{Outcome, IsLawful, HaveWinners, winners}
use Rattle.coverage_law.specs.Questions.{AreQuestions, IsQuestion}
use Rattle.coverage_law.specs.Worth.{Results, worth, denominator}
use Rattle.event_table.specs.Events.{EventView}
use Rattle.ledger_book.specs.Entries.{held_after}
use Rattle.ledger_book.specs.Postings.{credit, debit}
use Rattle.ledger_book.specs.declared.posting.Posting.{Posting}
use Rattle.match_kinds.proofs.Balance.{balanced}
use Rattle.match_kinds.specs.Matching.{IsMaker, IsPart, pairs_merged, pairs_minted, token_of}
use Rattle.match_kinds.specs.Settling.{match_postings, short_place}
use Rattle.match_kinds.specs.declared.part.Part.{Part}
use Rattle.order_rules.specs.declared.token.Token.TheVariants.{Yes, No}
use Rattle.order_table.specs.declared.order.Placed.{Placed}
use Rattle.report_redeem.specs.Redeeming.{Redeemed, redeemed_of, redeemed_behind, postings_for}
use Rattle.split_merge.specs.Splitting.{parts_of, split_postings, merge_postings}
use Rattle.settle_core.specs.Book.{Book, Payouts, book, conditions, converted_by, converted_in, events, held_in, numerators_on, postings_of, redeemed_in, reports, told_on}
use Rattle.settle_core.specs.Bounds.{Bounds}
use Rattle.settle_core.specs.Coverage.{outlook, outlook_of, questions_of, results, results_of}
use Rattle.settle_core.specs.Keys.{slots_of, whole_in}
use Rattle.settle_core.specs.Matches.{matched_in, part_of, parts_in, short_in}
use Rattle.settle_core.specs.Orders.{placed}
use Rattle.settle_core.specs.Postings.{deposit_of, withdrawal_of}
use Rattle.settle_core.specs.Refusals.{Question, is_outside}
use Rattle.settle_core.proofs.Lists.{told-before, told-behind}
use Rattle.settle_core.proofs.Markets.{HasTwoSlots}
use Rattle.settle_core.proofs.Matched.{IsMatched}
use Rattle.settle_core.proofs.Orderly.{AreRight, IsAnswer, IsOrderlyBy, IsOrderlyOf, IsQuestionIn, each-question, event-listed, question-unreported, question-within, right-of}
use Rattle.settle_core.proofs.Partitions.{IsPartition, accepted-split, accepted-merge, accepted-redeem, IsChoice}
use Rattle.settle_core.proofs.Verdicts.{AreNone, earlier, accepted-flows, accepted-proper}

-- each slot of an outcome is one of its condition
abbrev pub HasSlots : List Facts → Outcome → Type 0
HasSlots prepared outcome = (c : ℕ) (f : Facts) → slice_get prepared c ≡ Some f → outcome c < f.slots

-- a report on a condition of these facts has a numerator for each slot, and not all are 0
pub right-report : (prepared : List Facts) (numerators : ℕ → Option (List ℕ)) (c : ℕ) (f : Facts) (ns : List ℕ) → AreRight prepared numerators → slice_get prepared c ≡ Some f
    → numerators c ≡ Some ns → IsReport f.slots ns
right-report prepared numerators c f ns right at is = subst (λ (o : Option Facts). MatchOption o ⊥ (λ g. IsReport g.slots ns)) at (right c ns is)

-- ---- splits and merges

-- the whole is worth what the union of the sets is
whole-even : (prepared : List Facts) (numerators : ℕ → Option (List ℕ)) (outcome : Outcome) (parent : Pairs) (condition : ℕ) (sets : List ℕ) → AreRight prepared numerators → HasSlots prepared outcome → IsPartition prepared parent condition sets
    → let r : Results = record { conditions = length prepared; numerators = numerators } in
    worth r outcome (joined parent condition (union_of sets)) ≡ worth r outcome (whole_in prepared parent condition sets)
whole-even prepared numerators outcome parent condition sets right lawful is =
    let r : Results = record { conditions = length prepared; numerators = numerators } in
    let inside : condition < length prepared = slice_get_within prepared condition is.facts is.is_prepared in
    let slots : slots_of (slice_get prepared condition) ≡ is.facts.slots = ap slots_of is.is_prepared in
    elim (cases_Bool (union_of sets + 1 == 2 ^ slots_of (slice_get prepared condition))) [
      | inl full ↦
          let all : union_of sets + 1 ≡ 2 ^ is.facts.slots = eqb-true _ _ full ∙ ap (λ n. 2 ^ n) slots in
          rw full (whole-worth r outcome parent condition is.facts.slots (union_of sets) inside is.free all (lawful condition is.facts is.is_prepared) (λ ns reported. (right-report prepared numerators condition is.facts ns right is.is_prepared reported).each))
      | inr partly ↦ rw partly refl
    ]

split-even : (prepared : List Facts) (numerators : ℕ → Option (List ℕ)) (outcome : Outcome) (a amount : ℕ) (parent : Pairs) (condition : ℕ) (sets : List ℕ) → AreRight prepared numerators → HasSlots prepared outcome → IsPartition prepared parent condition sets
    → let v = worth (record { conditions = length prepared; numerators = numerators }) outcome in
    paid_worth v (split_postings a (whole_in prepared parent condition sets) (parts_of parent condition sets) amount)
    ≡ taken_worth v (split_postings a (whole_in prepared parent condition sets) (parts_of parent condition sets) amount)
split-even prepared numerators outcome a amount parent condition sets right lawful is =
    let r : Results = record { conditions = length prepared; numerators = numerators } in
    let v : Pairs → ℕ = worth r outcome in
    let whole = whole_in prepared parent condition sets in
    let paid : List Posting = map (λ k. credit a k amount) (parts_of parent condition sets) in
    let inside : condition < length prepared = slice_get_within prepared condition is.facts is.is_prepared in
    let same : amount * v (joined parent condition (union_of sets)) ≡ amount * v whole = ap (λ n. amount * n) (whole-even prepared numerators outcome parent condition sets right lawful is) in
    omega (
      arith,
      same,
      parts-paid r outcome parent condition a amount sets inside is.free is.apart,
      credits-taken v a amount (parts_of parent condition sets),
      paid-cons v (debit a whole amount) paid,
      taken-cons v (debit a whole amount) paid,
    )

merge-even : (prepared : List Facts) (numerators : ℕ → Option (List ℕ)) (outcome : Outcome) (a amount : ℕ) (parent : Pairs) (condition : ℕ) (sets : List ℕ) → AreRight prepared numerators → HasSlots prepared outcome → IsPartition prepared parent condition sets
    → let v = worth (record { conditions = length prepared; numerators = numerators }) outcome in
    paid_worth v (merge_postings a (whole_in prepared parent condition sets) (parts_of parent condition sets) amount)
    ≡ taken_worth v (merge_postings a (whole_in prepared parent condition sets) (parts_of parent condition sets) amount)
merge-even prepared numerators outcome a amount parent condition sets right lawful is =
    let r : Results = record { conditions = length prepared; numerators = numerators } in
    let v : Pairs → ℕ = worth r outcome in
    let whole = whole_in prepared parent condition sets in
    let taken : List Posting = map (λ k. debit a k amount) (parts_of parent condition sets) in
    let inside : condition < length prepared = slice_get_within prepared condition is.facts is.is_prepared in
    let same : amount * v (joined parent condition (union_of sets)) ≡ amount * v whole = ap (λ n. amount * n) (whole-even prepared numerators outcome parent condition sets right lawful is) in
    omega (
      arith,
      same,
      parts-taken r outcome parent condition a amount sets inside is.free is.apart,
      debits-paid v a amount (parts_of parent condition sets),
      paid-append v taken (credit a whole amount ∷ []),
      taken-append v taken (credit a whole amount ∷ []),
      credit-paid v a whole amount,
      credit-taken v a whole amount,
    )

-- ---- redemptions

-- set by set no more is paid than was taken
sets-within : (r : Results) (outcome : Outcome) (held : ℕ → Pairs → ℕ) (a : ℕ) (parent : Pairs) (c : ℕ) (ns : List ℕ) (before : List Posting) (sets : List ℕ) → c < r.conditions → part parent c ≡ None → r.numerators c ≡ Some ns → 0 < sum ns
    → paid_worth (worth r outcome) (flat_map (postings_for a parent c) (redeemed_behind held a parent c ns before sets)) ≤ taken_worth (worth r outcome) (flat_map (postings_for a parent c) (redeemed_behind held a parent c ns before sets))
sets-within r outcome held a parent c ns before [] inside free reported some = omega (arith, paid-none (worth r outcome))
sets-within r outcome held a parent c ns before (set ∷ sets) inside free reported some =
    let v : Pairs → ℕ = worth r outcome in
    let one : Redeemed = redeemed_of ns set (held_after held before a (joined parent c set)) in
    let rest : List Posting = flat_map (postings_for a parent c) (redeemed_behind held a parent c ns (before ++ postings_for a parent c one) sets) in
    omega (
      arith,
      sets-within r outcome held a parent c ns (before ++ postings_for a parent c one) sets inside free reported some,
      redeemed-worth r outcome parent c set one.burnt ns inside free reported some,
      paid-cons v (debit a (joined parent c set) one.burnt) (credit a parent one.paid ∷ rest),
      paid-cons v (credit a parent one.paid) rest,
      taken-cons v (debit a (joined parent c set) one.burnt) (credit a parent one.paid ∷ rest),
      taken-cons v (credit a parent one.paid) rest,
    )

-- of an answered question set by set as much is paid as was taken
sets-even : (r : Results) (outcome : Outcome) (held : ℕ → Pairs → ℕ) (a : ℕ) (parent : Pairs) (c : ℕ) (ns : List ℕ) (before : List Posting) (sets : List ℕ) → c < r.conditions → part parent c ≡ None → r.numerators c ≡ None
    → sum ns ≡ 1 → slice_get ns (outcome c) ≡ Some 1
    → paid_worth (worth r outcome) (flat_map (postings_for a parent c) (redeemed_behind held a parent c ns before sets)) ≡ taken_worth (worth r outcome) (flat_map (postings_for a parent c) (redeemed_behind held a parent c ns before sets))
sets-even r outcome held a parent c ns before [] inside free none one wins = paid-none (worth r outcome) ∙ sym (taken-none (worth r outcome))
sets-even r outcome held a parent c ns before (set ∷ sets) inside free none one wins =
    let v : Pairs → ℕ = worth r outcome in
    let first : Redeemed = redeemed_of ns set (held_after held before a (joined parent c set)) in
    let rest : List Posting = flat_map (postings_for a parent c) (redeemed_behind held a parent c ns (before ++ postings_for a parent c first) sets) in
    omega (
      arith,
      sets-even r outcome held a parent c ns (before ++ postings_for a parent c first) sets inside free none one wins,
      answered-worth r outcome parent c set first.burnt ns inside free none one wins,
      paid-cons v (debit a (joined parent c set) first.burnt) (credit a parent first.paid ∷ rest),
      paid-cons v (credit a parent first.paid) rest,
      taken-cons v (debit a (joined parent c set) first.burnt) (credit a parent first.paid ∷ rest),
      taken-cons v (credit a parent first.paid) rest,
    )

-- an answer's sum is 1
answer-one : (ns : List ℕ) → IsAnswer ns → sum ns ≡ 1
answer-one ns is = elim is [
  | inl won ↦ ap sum won
  | inr lost ↦ ap sum lost
]

-- a redemption of what isn't reported, at a lawful outcome
redeem-even : (b : Book) (outcome : Outcome) (a : ℕ) (parent : Pairs) (c : ℕ) (sets : List ℕ) (o : Option (List ℕ)) → IsOrderlyOf b → IsLawful (outlook_of b) outcome → IsChoice b.conditions parent c sets
    → numerators_on b.reports c ≡ None → numerators_on b.answers c ≡ o
    → let v = worth (results_of b) outcome in
    paid_worth v (redeemed_in b a parent c sets o) ≡ taken_worth v (redeemed_in b a parent c sets o)
redeem-even b outcome a parent c sets None is lawful choice none answered = paid-none (worth (results_of b) outcome) ∙ sym (taken-none (worth (results_of b) outcome))
redeem-even b outcome a parent c sets (Some ns) is lawful choice none answered =
    sets-even (results_of b) outcome (held_in b) a parent c ns [] sets (slice_get_within b.conditions c choice.facts choice.is_prepared) choice.free none
    (answer-one ns (is.answers c ns answered).1) (lawful.answers c ns answered)

-- what a redemption pays is worth no more than what it takes
redeem-within : (b : Book) (outcome : Outcome) (a : ℕ) (parent : Pairs) (c : ℕ) (sets : List ℕ) (o : Option (List ℕ)) → IsOrderlyOf b → IsLawful (outlook_of b) outcome → IsChoice b.conditions parent c sets → numerators_on b.reports c ≡ o
    → let v = worth (results_of b) outcome in
    paid_worth v (redeemed_in b a parent c sets (told_on b c)) ≤ taken_worth v (redeemed_in b a parent c sets (told_on b c))
redeem-within b outcome a parent c sets None is lawful choice reported =
    omega (arith, redeem-even b outcome a parent c sets (told_on b c) is lawful choice reported (sym (told-behind b.reports b.answers c reported)))
redeem-within b outcome a parent c sets (Some ns) is lawful choice reported =
    let told : told_on b c ≡ Some ns = told-before b.reports b.answers c ns reported in
    let right = right-report b.conditions (numerators_on b.reports) c choice.facts ns (right-of b is) choice.is_prepared reported in
    rw told (sets-within (results_of b) outcome (held_in b) a parent c ns [] sets (slice_get_within b.conditions c choice.facts choice.is_prepared) choice.free reported right.some)

-- ---- conversions

-- an event's questions are conditions on which nothing is reported
are-questions : (b : Book) (outcome : Outcome) (e : ℕ) (event : EventView) → IsOrderlyOf b → IsLawful (outlook_of b) outcome → slice_get b.events e ≡ Some event → AreQuestions (results_of b) outcome event.conditions
are-questions b outcome e event is lawful at =
    each-question (λ (c : ℕ). IsQuestion (results_of b) outcome c) b.events e event at (λ i c there. question c (is.questions e i c there))
  where
    two : (o : Option Facts) (c : ℕ) → slice_get b.conditions c ≡ o → MatchOption o ⊥ (λ f. (f.oracle ≡ EXCHANGE) × (f.slots ≡ 2)) → outcome c < 2
    two None c at is = absurd is
    two (Some f) c at is = omega (arith, lawful.slots c f at, is.1)

    question : (c : ℕ) → IsQuestionIn b.conditions c → IsQuestion (results_of b) outcome c
    question c own = record {
      prepared = question-within b.conditions c own;
      unreported = question-unreported b.conditions b.reports b.answers b.events b.conversions c is own;
      two_slots = two (slice_get b.conditions c) c refl own;
    }

-- at most one of them wins
winners-few : (b : Book) (outcome : Outcome) (e : ℕ) (event : EventView) → IsLawful (outlook_of b) outcome → slice_get b.events e ≡ Some event → winners outcome event.conditions ≤ 1
winners-few b outcome e event lawful at = All-contains (λ (qs : List ℕ). winners outcome qs ≤ 1) (questions_of b.events) event.conditions lawful.one_winner (event-listed b.events e event at)

-- what is given up where no question of the event wins
abbrev lost_in : Results → Outcome → Option EventView → ℕ → ℕ
lost_in r outcome None amount = 0
lost_in r outcome (Some event) amount = (1 - winners outcome event.conditions) * (amount * denominator r)

-- what a conversion takes is worth what it pays, and the amount more where none of the event's questions wins
converted-moved : (b : Book) (outcome : Outcome) (a e set amount : ℕ) (o : Option EventView) → IsOrderlyOf b → IsLawful (outlook_of b) outcome → slice_get b.events e ≡ o → (set == 0) ≡ false → is_outside o set ≡ false
    → let v = worth (results_of b) outcome in
    taken_worth v (converted_in o a set amount) ≡ paid_worth v (converted_in o a set amount) + lost_in (results_of b) outcome o amount
converted-moved b outcome a e set amount None is lawful at some inside = taken-none (worth (results_of b) outcome) ∙ sym (paid-none (worth (results_of b) outcome)) ∙ omega arith
converted-moved b outcome a e set amount (Some event) is lawful at some inside =
    conversion-worth (results_of b) outcome a amount event.bips set event.conditions (are-questions b outcome e event is lawful at) (is.sizes e event at).1
    (record { some = grind (arith, nat_tests, some); inside = grind (arith, nat_tests, inside) }) (winners-few b outcome e event lawful at)

-- ---- matches

-- a pair of the two tokens of a market is worth what cash is
pair-worth : (prepared : List Facts) (numerators : ℕ → Option (List ℕ)) (outcome : Outcome) (market : ℕ) → AreRight prepared numerators → HasSlots prepared outcome → HasTwoSlots prepared market
    → let v = worth (record { conditions = length prepared; numerators = numerators }) outcome in
    v (token_of market Yes) + v (token_of market No) ≡ v root
pair-worth prepared numerators outcome market right lawful two = by (slice_get prepared market) refl two
  where
    by : (o : Option Facts) → slice_get prepared market ≡ o → MatchOption o ⊥ (λ f. f.slots ≡ 2)
        → let v = worth (record { conditions = length prepared; numerators = numerators }) outcome in
        v (token_of market Yes) + v (token_of market No) ≡ v root
    by None at two = absurd two
    by (Some f) at two =
        let r : Results = record { conditions = length prepared; numerators = numerators } in
        let v : Pairs → ℕ = worth r outcome in
        let inside : market < length prepared = slice_get_within prepared market f at in
        let parts = union-worth r outcome root market 1 (1 ∷ 2 ∷ []) inside refl (AreApart_from_none (1 ∷ 2 ∷ []) refl) in
        let whole = whole-worth r outcome root market 2 3 inside refl refl (omega (arith, lawful market f at, two)) (λ ns reported. (right-report prepared numerators market f ns right at reported).each ∙ two) in
        omega (arith, parts, whole)

-- so that a match pays what it takes
match-even : (prepared : List Facts) (numerators : ℕ → Option (List ℕ)) (outcome : Outcome) (market : ℕ) (taker : Part) (makers : List Part) → AreRight prepared numerators → HasSlots prepared outcome → HasTwoSlots prepared market
    → IsPart taker → All (IsMaker taker) makers → short_place taker makers ≡ None
    → let v = worth (record { conditions = length prepared; numerators = numerators }) outcome in
    paid_worth v (match_postings market taker makers) ≡ taken_worth v (match_postings market taker makers)
unfolding paid_worth taken_worth
match-even prepared numerators outcome market taker makers right lawful two part are_makers none =
    let v : Pairs → ℕ = worth (record { conditions = length prepared; numerators = numerators }) outcome in
    let pair = pair-worth prepared numerators outcome market right lawful two in
    let minted : pairs_minted taker makers * (v (token_of market Yes) + v (token_of market No)) ≡ pairs_minted taker makers * v root = ap (λ n. pairs_minted taker makers * n) pair in
    let merged : pairs_merged taker makers * (v (token_of market Yes) + v (token_of market No)) ≡ pairs_merged taker makers * v root = ap (λ n. pairs_merged taker makers * n) pair in
    omega (arith, balanced v market taker makers part are_makers none, minted, merged)

-- ---- by cases on the command

-- a redemption and a conversion alone may lose something
abbrev pub may_lose : Command → Bool
may_lose (Redeem parent condition sets) = true
may_lose (Convert event set amount) = true
may_lose command = false

-- every other accepted command pays what it takes, with what it deposits and withdraws
pub moved-even : (limits : Bounds) (history : List Act) (account moment : ℕ) (command : Command) (outcome : Outcome)
    → AreRight (conditions history) (numerators_on (reports history)) → HasSlots (conditions history) outcome → IsMatched history command → may_lose command ≡ false
    → AreNone (earlier (record { limits = limits; history = history; account = account; command = command; moment = moment }))
    → paid_worth (worth (results history) outcome) (postings_of (book history) account command) + withdrawal_of command * denominator (results history)
    ≡ taken_worth (worth (results history) outcome) (postings_of (book history) account command) + deposit_of command * denominator (results history)
moved-even limits history account moment (Deposit to amount) outcome right lawful matched other none =
    let v : Pairs → ℕ = worth (results history) outcome in
    let cash : amount * v root ≡ amount * denominator (results history) = ap (λ n. amount * n) (cash-worth (results history) outcome) in
    omega (arith, cash, credit-paid v to root amount, credit-taken v to root amount)
moved-even limits history account moment (Withdraw amount) outcome right lawful matched other none =
    let v : Pairs → ℕ = worth (results history) outcome in
    let cash : amount * v root ≡ amount * denominator (results history) = ap (λ n. amount * n) (cash-worth (results history) outcome) in
    omega (arith, cash, debit-paid v account root amount, debit-taken v account root amount)
moved-even limits history account moment (Move to key amount) outcome right lawful matched other none =
    let v : Pairs → ℕ = worth (results history) outcome in
    omega (arith, paid-cons v (debit account key amount) (credit to key amount ∷ []), taken-cons v (debit account key amount) (credit to key amount ∷ []), credit-paid v to key amount, credit-taken v to key amount)
moved-even limits history account moment (Split parent condition sets amount) outcome right lawful matched other none =
    omega (arith, split-even (conditions history) (numerators_on (reports history)) outcome account amount parent condition sets right lawful (accepted-split limits history account moment parent condition sets amount none))
moved-even limits history account moment (Merge parent condition sets amount) outcome right lawful matched other none =
    omega (arith, merge-even (conditions history) (numerators_on (reports history)) outcome account amount parent condition sets right lawful (accepted-merge limits history account moment parent condition sets amount none))
moved-even limits history account moment (Redeem parent condition sets) outcome right lawful matched other none = cc
moved-even limits history account moment (Convert event set amount) outcome right lawful matched other none = cc
moved-even limits history account moment (Match taker fill makers) outcome right lawful matched other none =
    let q : Question = record { limits = limits; history = history; account = account; command = Match taker fill makers; moment = moment } in
    let v : Pairs → ℕ = worth (results history) outcome in
    let parts = parts_in (placed history) makers in
    let order = matched.parts.order in
    let none_short : short_in (Some order) fill parts ≡ None = sym (ap (λ (o : Option Placed). short_in o fill parts) matched.parts.at) ∙ accepted-flows q none in
    let even = match-even (conditions history) (numerators_on (reports history)) outcome order.market (part_of order fill) parts right lawful matched.market matched.parts.taken matched.parts.made.each none_short in
    subst (λ (o : Option Placed). paid_worth v (matched_in o fill parts) + 0 * denominator (results history) ≡ taken_worth v (matched_in o fill parts) + 0 * denominator (results history)) (sym matched.parts.at) (omega (arith, even))
moved-even limits history account moment command outcome right lawful matched other none =
    omega (arith, paid-none (worth (results history) outcome), taken-none (worth (results history) outcome))

-- what an accepted conversion takes, and what it pays
accepted-converted : (limits : Bounds) (history : List Act) (account moment event set amount : ℕ) (outcome : Outcome) → IsOrderlyBy history → IsLawful (outlook history) outcome
    → AreNone (earlier (record { limits = limits; history = history; account = account; command = Convert event set amount; moment = moment }))
    → let v = worth (results history) outcome in
    let posted = converted_in (slice_get (events history) event) account set amount in
    taken_worth v posted ≡ paid_worth v posted + lost_in (results history) outcome (slice_get (events history) event) amount
accepted-converted limits history account moment event set amount outcome is lawful none =
    let q : Question = record { limits = limits; history = history; account = account; command = Convert event set amount; moment = moment } in
    let parts = or_parts (set == 0) (is_outside (slice_get (events history) event) set) (accepted-proper q none) in
    converted-moved (book history) outcome account event set amount (slice_get (events history) event) is lawful refl parts.0 parts.1

-- and none pays more than it takes
pub moved-within : (limits : Bounds) (history : List Act) (account moment : ℕ) (command : Command) (outcome : Outcome) → IsOrderlyBy history → IsLawful (outlook history) outcome → IsMatched history command
    → AreNone (earlier (record { limits = limits; history = history; account = account; command = command; moment = moment }))
    → paid_worth (worth (results history) outcome) (postings_of (book history) account command) + withdrawal_of command * denominator (results history)
    ≤ taken_worth (worth (results history) outcome) (postings_of (book history) account command) + deposit_of command * denominator (results history)
moved-within limits history account moment (Redeem parent condition sets) outcome is lawful matched none =
    omega (arith, redeem-within (book history) outcome account parent condition sets (numerators_on (reports history) condition) is lawful (accepted-redeem limits history account moment parent condition sets none) refl)
moved-within limits history account moment (Convert event set amount) outcome is lawful matched none =
    omega (arith, accepted-converted limits history account moment event set amount outcome is lawful none)
moved-within limits history account moment command outcome is lawful matched none =
    omega (arith, moved-even limits history account moment command outcome (right-of (book history) is) lawful.slots matched refl none)

-- before any report, and where a question of the event of a conversion wins, each pays just what it takes
pub moved-exact : (limits : Bounds) (history : List Act) (account moment : ℕ) (command : Command) (outcome : Outcome) → IsOrderlyBy history → IsLawful (outlook history) outcome → reports history ≡ []
    → HaveWinners outcome (converted_by (events history) command) → IsMatched history command
    → AreNone (earlier (record { limits = limits; history = history; account = account; command = command; moment = moment }))
    → paid_worth (worth (results history) outcome) (postings_of (book history) account command) + withdrawal_of command * denominator (results history)
    ≡ taken_worth (worth (results history) outcome) (postings_of (book history) account command) + deposit_of command * denominator (results history)
moved-exact limits history account moment (Redeem parent condition sets) outcome is lawful before won matched none =
    let b = book history in
    let unreported : numerators_on (reports history) condition ≡ None = ap (λ (rs : List Payouts). numerators_on rs condition) before in
    omega (arith, redeem-even b outcome account parent condition sets (told_on b condition) is lawful (accepted-redeem limits history account moment parent condition sets none) unreported (sym (told-behind b.reports b.answers condition unreported)))
moved-exact limits history account moment (Convert event set amount) outcome is lawful before won matched none =
    omega (arith, accepted-converted limits history account moment event set amount outcome is lawful none, nothing (slice_get (events history) event) won)
  where
    nothing : (o : Option EventView) → HaveWinners outcome (conditions_of o ∷ []) → lost_in (results history) outcome o amount ≡ 0
    nothing None won = refl
    nothing (Some e) won =
        let one : winners outcome e.conditions ≡ 1 = All-head (λ (qs : List ℕ). winners outcome qs ≡ 1) e.conditions [] won in
        rw one (omega arith)
moved-exact limits history account moment command outcome is lawful before won matched none = moved-even limits history account moment command outcome (right-of (book history) is) lawful.slots matched refl none
