-- What an accepted act posts takes what is there.
use Rattle.std.proofs.Common.{◌≡◌, ◌≢◌, ℕ, zero, suc, ◌+◌, ◌<◌, ◌≤◌, Bool, true, false, cond, List, [], ◌∷◌, ◌++◌, length, take, get_or, All, Option, Some, None, refl, ap, subst, ◌∙◌, arith, add-one, inl, inr, sym}
use Rattle.std.specs.Int.{bit_at}
use Rattle.std.specs.Prelude.{◌==◌, ◌&&◌, map, nat_lt, option_map, slice_get}
use Rattle.std.proofs.lemmas.Bool.{cases_Bool, eqb-true, ltb-false}
use Rattle.std.proofs.lemmas.List.{get_or_default, map_more, map_push, take_all}
use Rattle.std.proofs.lemmas.List.Elements.{All-get_or, All-nil, All-cons, All-head, All-tail, All-weaker}
use Rattle.std.proofs.lemmas.List.Sums.{sum_by-append, sum_by-cons, sum_by_push}
use Rattle.std.proofs.lemmas.Option.{slice_get-get_or}
use Rattle.collection_keys.proofs.Joining.{part-joined_other, part-joined_same}
use Rattle.collection_keys.proofs.Sameness.{same_collection_Decides}
use Rattle.collection_keys.specs.Collections.{Pairs, joined, part, root}
use Rattle.collection_keys.specs.Comparing.{same_collection}
use Rattle.command_words.specs.declared.act.Act.{Act}
use Rattle.command_words.specs.declared.command.Command.{Command}
use Rattle.command_words.specs.declared.command.Command.TheVariants.{Deposit, Withdraw, Move, Split, Merge, Redeem, Convert, Match}
use Rattle.condition_sets.specs.Sets.{IsProper, AreApart}
use Rattle.condition_sets.specs.declared.names.TheConstants.{OPERATOR}
use Rattle.convert_positions.specs.Converting.{cash_of, chosen, chosen_from, fee_of, no_of, others, out_of, paid_for, short_from, short_question, yes_of}
use Rattle.convert_positions.specs.Questions.{conditions_of}
use Rattle.event_table.specs.Events.{AreDistinct, EventView}
use Rattle.ledger_book.specs.Planning.{first_short}
use Rattle.ledger_book.specs.Postings.{IsFunded, credit, debit, debits, taken_from_account}
use Rattle.ledger_book.specs.declared.posting.Posting.{Posting}
use Rattle.match_kinds.proofs.Covered.{match-covered}
use Rattle.order_table.specs.declared.order.Placed.{Placed}
use Rattle.split_merge.proofs.Apart.{same_set, untaken_at}
use Rattle.split_merge.specs.Splitting.{merge_postings, parts_of, split_postings}
use Rattle.settle_core.specs.Book.{Book, Payouts, answers, book, conditions, conversions, converted_in, events, held_in, postings_of, redeemed_in, reports, told}
use Rattle.settle_core.specs.Bounds.{Bounds}
use Rattle.settle_core.specs.Keys.{whole_in}
use Rattle.settle_core.specs.Matches.{matched_in, part_of, parts_in}
use Rattle.settle_core.specs.Orders.{placed}
use Rattle.settle_core.specs.Postings.{balance}
use Rattle.report_redeem.proofs.Redemptions.{redeemed-funded}
use Rattle.settle_core.specs.Refusals.{Question, unfunded_in}
use Rattle.condition_table.specs.declared.facts.Facts.{Facts}
use Rattle.settle_core.proofs.Matched.{IsMatched}
use Rattle.settle_core.proofs.Orderly.{IsOrderly, IsOrderlyBy, event-distinct}
use Rattle.settle_core.proofs.Partitions.{IsPartition, accepted-merge}
use Rattle.settle_core.proofs.Verdicts.{AreNone, earlier, accepted-funds}

-- ---- what is there where nothing is short

-- where a list has no short place, the first isn't short and the rest has none
none-short : (short : Bool) (first : ℕ × ℕ) (g : ℕ × ℕ → ℕ × ℕ) (rest : Option (ℕ × ℕ)) → cond short (Some first) (option_map g rest) ≡ None → (short ≡ false) × (rest ≡ None)
none-short true first g rest none = cc
none-short false first g None none = (refl, refl)
none-short false first g (Some x) none = cc

-- of each collection that a set gives as much as the amount is held
enough : (held : Pairs → ℕ) (amount : ℕ) (f : ℕ → Pairs) (sets : List ℕ) → first_short held amount (map f sets) ≡ None → All (λ set. amount ≤ held (f set)) sets
enough held amount f [] none = All-nil (λ (set : ℕ). amount ≤ held (f set))
enough held amount f (x ∷ xs) none =
    let parts = none-short (nat_lt (held (f x)) amount) (0, held (f x)) (λ short. (suc short.0, short.1)) (first_short held amount (map f xs)) none in
    All-cons (λ (set : ℕ). amount ≤ held (f set)) x xs (ltb-false _ _ parts.0) (enough held amount f xs parts.1)

-- ---- what is taken position by position

-- of another position a debit takes nothing
not_here : (b c : Bool) (amount : ℕ) → (b ≡ true → c ≡ true → ⊥) → cond b (cond c amount 0) 0 ≡ 0
not_here true true amount other = absurd (other refl refl)
not_here true false amount other = refl
not_here false c amount other = refl

-- an amount that is held of a position is taken of it, of which nothing was taken before
one-more : (held taken : ℕ → Pairs → ℕ) (a amount : ℕ) (j : Pairs) (b : ℕ) (k : Pairs) → amount ≤ held a j → taken a j ≡ 0 → taken b k ≤ held b k
    → taken b k + taken_from_account b k (debit a j amount) ≤ held b k
one-more held taken a amount j b k there untaken so_far =
    elim (cases_Bool (a == b)) [
      | inl own ↦ elim (cases_Bool (same_collection j k)) [
        | inl same ↦
            let account : a ≡ b = eqb-true a b own in
            let collection : j ≡ k = (same_collection_Decides j k).0 same in
            let holds : held a j ≡ held b k = λ i. held (account i) (collection i) in
            let takes : taken a j ≡ taken b k = λ i. taken (account i) (collection i) in
            let all : taken_from_account b k (debit a j amount) ≡ amount = rw (own, same) refl in
            omega (arith, there, untaken, holds, takes, all)
        | inr other ↦
            let none : taken_from_account b k (debit a j amount) ≡ 0 = not_here (a == b) (same_collection j k) amount (λ yes same. cc) in
            omega (arith, none, so_far)
      ]
      | inr other ↦
          let none : taken_from_account b k (debit a j amount) ≡ 0 = not_here (a == b) (same_collection j k) amount (λ yes same. cc) in
          omega (arith, none, so_far)
    ]

-- credits take nothing
untaken-credits : (a amount : ℕ) (ks : List Pairs) (b : ℕ) (k : Pairs) → debits (map (λ k. credit a k amount) ks) b k ≡ 0
untaken-credits a amount [] b k = refl
untaken-credits a amount (x ∷ xs) b k =
    let none : taken_from_account b k (credit a x amount) ≡ 0 = nothing (a == b) (same_collection x k) in
    omega (arith, untaken-credits a amount xs b k, none, sum_by-cons (taken_from_account b k) (credit a x amount) (map (λ k. credit a k amount) xs))
  where
    nothing : (b c : Bool) → ◌≡◌ {A = ℕ} (cond b (cond c 0 0) 0) 0
    nothing true true = refl
    nothing true false = refl
    nothing false c = refl

-- a split takes its amount of the whole
split-funded : (held : ℕ → Pairs → ℕ) (a amount : ℕ) (whole : Pairs) (parts : List Pairs) → amount ≤ held a whole → IsFunded held (split_postings a whole parts amount)
split-funded held a amount whole parts there b k =
    let first : 0 + taken_from_account b k (debit a whole amount) ≤ held b k = one-more held (λ b k. 0) a amount whole b k there refl (omega arith) in
    omega (arith, first, untaken-credits a amount parts b k, sum_by-cons (taken_from_account b k) (debit a whole amount) (map (λ k. credit a k amount) parts))

-- the parts of the first sets, which are apart, take what is held of them
front-funded : (held : ℕ → Pairs → ℕ) (a amount : ℕ) (f : ℕ → Pairs) (sets : List ℕ) → ((i j : ℕ) → same_collection (f i) (f j) ≡ true → i ≡ j) → AreApart sets
    → All (λ set. 0 < set) sets → All (λ set. amount ≤ held a (f set)) sets → (n : ℕ) → n ≤ length sets → (b : ℕ) (k : Pairs) → debits (map (λ k. debit a k amount) (map f (take n sets))) b k ≤ held b k
front-funded held a amount f sets same apart some there zero few b k = omega arith
front-funded held a amount f sets same apart some there (suc n) few b k =
    let take_of : Pairs → Posting = λ k. debit a k amount in
    let before = map take_of (map f (take n sets)) in
    let set = get_or sets n 0 in
    let longer : map take_of (map f (take (suc n) sets)) ≡ before ++ take_of (f set) ∷ []
    = ap (map take_of) (rw (← add-one) (map_more f sets n 0 few)) ∙ map_push take_of (map f (take n sets)) (f set) in
    let sum : debits (map take_of (map f (take (suc n) sets))) b k ≡ debits before b k + taken_from_account b k (take_of (f set))
    = ap (λ ps. debits ps b k) longer ∙ sum_by_push (taken_from_account b k) before (take_of (f set)) in
    let positive : 0 < set = All-get_or (λ (x : ℕ). 0 < x) sets n 0 few some in
    let holds : amount ≤ held a (f set) = All-get_or (λ (x : ℕ). amount ≤ held a (f x)) sets n 0 few there in
    let untaken : debits before a (f set) ≡ 0 = untaken_at a amount f sets n set same apart few (get_or_default sets n 0 set few) positive in
    let more : debits before b k + taken_from_account b k (take_of (f set)) ≤ held b k
    = one-more held (debits before) a amount (f set) b k holds untaken (front-funded held a amount f sets same apart some there n (omega arith) b k) in
    omega (arith, sum, more)

-- a merge takes its amount of each part
merge-funded : (held : ℕ → Pairs → ℕ) (prepared : List Facts) (a amount : ℕ) (whole parent : Pairs) (condition : ℕ) (sets : List ℕ) → IsPartition prepared parent condition sets
    → first_short (held a) amount (parts_of parent condition sets) ≡ None → IsFunded held (merge_postings a whole (parts_of parent condition sets) amount)
merge-funded held prepared a amount whole parent condition sets is none b k =
    let f : ℕ → Pairs = λ set. joined parent condition set in
    let taken = map (λ k. debit a k amount) (map f sets) in
    let same : (i j : ℕ) → same_collection (f i) (f j) ≡ true → i ≡ j
    = λ i j yes. same_set parent condition (λ set. part-joined_same parent condition set is.free) i j ((same_collection_Decides (f i) (f j)).0 yes) in
    let some : All (λ set. 0 < set) sets = All-weaker (IsProper is.facts.slots) (λ (set : ℕ). 0 < set) (λ set proper. proper.nonempty) sets is.proper in
    let within = front-funded held a amount f sets same is.apart some (enough (held a) amount f sets none) (length sets) (omega arith) b k in
    let all : debits taken b k ≤ held b k
    = subst (λ (xs : List ℕ). debits (map (λ k. debit a k amount) (map f xs)) b k ≤ held b k) (take_all (length sets) sets (omega arith)) within in
    omega (arith, all, sum_by-append (taken_from_account b k) taken (credit a whole amount ∷ []), untaken-credits a amount (whole ∷ []) b k)

-- ---- by cases on the command

-- nothing that is posted takes nothing
none-posted : (held : ℕ → Pairs → ℕ) → IsFunded held []
none-posted held b k = omega arith

-- a move takes what it pays
move-funded : (held : ℕ → Pairs → ℕ) (a to amount : ℕ) (key : Pairs) → amount ≤ held a key → IsFunded held (debit a key amount ∷ credit to key amount ∷ [])
move-funded held a to amount key there b k =
    let first : 0 + taken_from_account b k (debit a key amount) ≤ held b k = one-more held (λ b k. 0) a amount key b k there refl (omega arith) in
    omega (arith, first, untaken-credits to amount (key ∷ []) b k, sum_by-cons (taken_from_account b k) (debit a key amount) (credit to key amount ∷ []))

-- what a command takes of one collection is held
one-there : (held : Pairs → ℕ) (amount : ℕ) (k : Pairs) → first_short held amount (k ∷ []) ≡ None → amount ≤ held k
one-there held amount k short =
    let parts = none-short (nat_lt (held k) amount) (0, held k) (λ short. (suc short.0, short.1)) None short in
    ltb-false _ _ parts.0

-- a redemption takes what is left of each set
redeem-funded : (b : Book) (a : ℕ) (parent : Pairs) (c : ℕ) (sets : List ℕ) (o : Option (List ℕ)) → IsFunded (held_in b) (redeemed_in b a parent c sets o)
redeem-funded b a parent c sets None = none-posted (held_in b)
redeem-funded b a parent c sets (Some ns) = redeemed-funded (held_in b) a parent c ns sets

-- ---- conversions

-- NO of one condition isn't NO of another
no-apart : (c d : ℕ) → c ≢ d → same_collection (no_of c) (no_of d) ≡ false
no-apart c d other =
    elim (cases_Bool (same_collection (no_of c) (no_of d))) [
      | inl equal ↦
          let same : no_of c ≡ no_of d = (same_collection_Decides (no_of c) (no_of d)).0 equal in
          let here : part (no_of c) c ≡ Some 2 = part-joined_same root c 2 refl in
          let gone : part (no_of d) c ≡ None = part-joined_other root d c 2 (λ here. other (sym here)) in
          absurd (clash (sym gone ∙ (ap (λ k. part k c) (sym same) ∙ here)))
      | inr differs ↦ differs
    ]
  where
    clash : ◌≡◌ {A = Option ℕ} None (Some 2) → ⊥
    clash e = cc

-- of a list without it nothing is taken of its NO
untaken-no : (a amount set place b d : ℕ) (cs : List ℕ) → All (λ c. c ≢ d) cs → debits (map (λ c. debit a (no_of c) amount) (chosen_from set place cs)) b (no_of d) ≡ 0
untaken-no a amount set place b d [] apart = refl
untaken-no a amount set place b d (c ∷ cs) apart =
    let other : c ≢ d = All-head (λ (x : ℕ). x ≢ d) c cs apart in
    let rest = untaken-no a amount set (suc place) b d cs (All-tail (λ (x : ℕ). x ≢ d) c cs apart) in
    elim (cases_Bool (bit_at set place == 1)) [
      | inl here ↦ rw here (omega (
        arith,
        rest,
        elsewhere (a == b) (same_collection (no_of c) (no_of d)) amount (no-apart c d other),
        sum_by-cons (taken_from_account b (no_of d)) (debit a (no_of c) amount) (map (λ x. debit a (no_of x) amount) (chosen_from set (suc place) cs)),
      ))
      | inr past ↦ rw past rest
    ]
  where
    elsewhere : (b c : Bool) (amount : ℕ) → c ≡ false → cond b (cond c amount 0) 0 ≡ 0
    elsewhere true true amount other = cc
    elsewhere true false amount other = refl
    elsewhere false c amount other = refl

-- the first of distinct conditions isn't among the rest, and these are distinct
distinct-head : (c : ℕ) (cs : List ℕ) → AreDistinct (c ∷ cs) → All (λ x. x ≢ c) cs
distinct-head c cs distinct = λ i d inside same. clash i (distinct 0 (suc i) c refl (slice_get-get_or cs i d inside ∙ ap (λ (x : ℕ). Some x) same))
  where
    clash : (i : ℕ) → 0 ≡ suc i → ⊥
    clash i e = absurd (omega (arith, e))

distinct-tail : (c : ℕ) (cs : List ℕ) → AreDistinct (c ∷ cs) → AreDistinct cs
distinct-tail c cs distinct = λ i j x here there. omega (arith, distinct (suc i) (suc j) x here there)

-- a chosen question that isn't short, and those behind it
none-short_from : (here : Bool) (short : Bool) (first : ℕ × ℕ) (rest : Option (ℕ × ℕ)) → cond (here && short) (Some first) rest ≡ None → (here ≡ true → short ≡ false) × (rest ≡ None)
none-short_from true true first rest none = cc
none-short_from true false first rest none = ((λ e. refl), none)
none-short_from false short first rest none = ((λ e. cc), none)

-- NO of each chosen question is held
chosen-funded : (held : ℕ → Pairs → ℕ) (a amount set place : ℕ) (cs : List ℕ) → AreDistinct cs → short_from (held a) amount set place cs ≡ None
    → (b : ℕ) (k : Pairs) → debits (map (λ c. debit a (no_of c) amount) (chosen_from set place cs)) b k ≤ held b k
chosen-funded held a amount set place [] distinct none b k = omega arith
chosen-funded held a amount set place (c ∷ cs) distinct none b k =
    let parts = none-short_from (bit_at set place == 1) (nat_lt (held a (no_of c)) amount) (place, held a (no_of c)) (short_from (held a) amount set (suc place) cs) none in
    let rest : List Posting = map (λ x. debit a (no_of x) amount) (chosen_from set (suc place) cs) in
    let so_far = chosen-funded held a amount set (suc place) cs (distinct-tail c cs distinct) parts.1 b k in
    elim (cases_Bool (bit_at set place == 1)) [
      | inl here ↦
          let there : amount ≤ held a (no_of c) = ltb-false _ _ (parts.0 here) in
          let untaken : debits rest a (no_of c) ≡ 0 = untaken-no a amount set (suc place) a c cs (distinct-head c cs distinct) in
          let more = one-more held (debits rest) a amount (no_of c) b k there untaken so_far in
          rw here (omega (arith, more, sum_by-cons (taken_from_account b k) (debit a (no_of c) amount) rest))
      | inr past ↦ rw past so_far
    ]

-- what is paid takes nothing
untaken-paid : (a each set : ℕ) (cs : List ℕ) (b : ℕ) (k : Pairs) → debits (paid_for a each set cs) b k ≡ 0
untaken-paid a each set cs b k =
    omega (
      arith,
      untaken-yes (others set cs),
      untaken-credits a (cash_of each set cs) (root ∷ []) b k,
      sum_by-append (taken_from_account b k) (map (λ c. credit a (yes_of c) each) (others set cs)) (credit a root (cash_of each set cs) ∷ []),
    )
  where
    untaken-yes : (ds : List ℕ) → debits (map (λ c. credit a (yes_of c) each) ds) b k ≡ 0
    untaken-yes [] = refl
    untaken-yes (d ∷ ds) =
        omega (
          arith,
          untaken-yes ds,
          untaken-credits a each (yes_of d ∷ []) b k,
          sum_by-cons (taken_from_account b k) (credit a (yes_of d) each) (map (λ c. credit a (yes_of c) each) ds),
          sum_by-cons (taken_from_account b k) (credit a (yes_of d) each) [],
        )

-- a conversion takes NO that is held
converted-funded : (held : ℕ → Pairs → ℕ) (a set amount : ℕ) (event : EventView) → AreDistinct event.conditions → short_question (held a) amount set event.conditions ≡ None → IsFunded held (converted_in (Some event) a set amount)
converted-funded held a set amount event distinct none b k =
    let cs = event.conditions in
    let out = paid_for a (out_of amount event.bips) set cs in
    let fee = paid_for OPERATOR (fee_of amount event.bips) set cs in
    let taken : List Posting = map (λ c. debit a (no_of c) amount) (chosen set cs) in
    omega (
      arith,
      chosen-funded held a amount set 0 cs distinct none b k,
      untaken-paid a (out_of amount event.bips) set cs b k,
      untaken-paid OPERATOR (fee_of amount event.bips) set cs b k,
      sum_by-append (taken_from_account b k) taken (out ++ fee),
      sum_by-append (taken_from_account b k) out fee,
    )

conversion-funded : (held : ℕ → Pairs → ℕ) (cs : List Facts) (rs ans : List Payouts) (es : List EventView) (vs : List (List ℕ)) (a e set amount : ℕ) → IsOrderly cs rs ans es vs
    → (o : Option EventView) → slice_get es e ≡ o → short_question (held a) amount set (conditions_of o) ≡ None → IsFunded held (converted_in o a set amount)
conversion-funded held cs rs ans es vs a e set amount is None at none = none-posted held
conversion-funded held cs rs ans es vs a e set amount is (Some event) at none = converted-funded held a set amount event (event-distinct cs rs ans es vs e event is at) none

-- every command that no refusal below that of a supply meets
pub funded-by : (limits : Bounds) (history : List Act) (account moment : ℕ) (command : Command) → IsOrderlyBy history → IsMatched history command
    → AreNone (earlier (record { limits = limits; history = history; account = account; command = command; moment = moment }))
    → IsFunded (balance history) (postings_of (book history) account command)
funded-by limits history account moment (Deposit to amount) is matched none = λ b k. omega (arith, untaken-credits to amount (root ∷ []) b k)
funded-by limits history account moment (Withdraw amount) is matched none =
    let q : Question = record { limits = limits; history = history; account = account; command = Withdraw amount; moment = moment } in
    split-funded (balance history) account amount root [] (one-there (balance history account) amount root (accepted-funds q none))
funded-by limits history account moment (Move to key amount) is matched none =
    let q : Question = record { limits = limits; history = history; account = account; command = Move to key amount; moment = moment } in
    move-funded (balance history) account to amount key (one-there (balance history account) amount key (accepted-funds q none))
funded-by limits history account moment (Split parent condition sets amount) is matched none =
    let q : Question = record { limits = limits; history = history; account = account; command = Split parent condition sets amount; moment = moment } in
    let whole = whole_in (conditions history) parent condition sets in
    split-funded (balance history) account amount whole (parts_of parent condition sets) (one-there (balance history account) amount whole (accepted-funds q none))
funded-by limits history account moment (Merge parent condition sets amount) is matched none =
    let q : Question = record { limits = limits; history = history; account = account; command = Merge parent condition sets amount; moment = moment } in
    merge-funded (balance history) (conditions history) account amount (whole_in (conditions history) parent condition sets) parent condition sets
    (accepted-merge limits history account moment parent condition sets amount none) (accepted-funds q none)
funded-by limits history account moment (Redeem parent condition sets) is matched none = redeem-funded (book history) account parent condition sets (told history condition)
funded-by limits history account moment (Convert event set amount) is matched none =
    let q : Question = record { limits = limits; history = history; account = account; command = Convert event set amount; moment = moment } in
    conversion-funded (balance history) (conditions history) (reports history) (answers history) (events history) (conversions history) account event set amount is (slice_get (events history) event) refl (accepted-funds q none)
funded-by limits history account moment (Match taker fill makers) is matched none =
    let q : Question = record { limits = limits; history = history; account = account; command = Match taker fill makers; moment = moment } in
    let parts = parts_in (placed history) makers in
    let order = matched.parts.order in
    let none_short : unfunded_in (balance history) (Some order) fill parts ≡ None = sym (ap (λ (o : Option Placed). unfunded_in (balance history) o fill parts) matched.parts.at) ∙ accepted-funds q none in
    subst (λ (o : Option Placed). IsFunded (balance history) (matched_in o fill parts)) (sym matched.parts.at)
    (match-covered (balance history) order.market (part_of order fill) parts matched.parts.made.each none_short)
funded-by limits history account moment command is matched none = none-posted (balance history)
