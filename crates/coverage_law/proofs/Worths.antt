-- What each kind of step does to worths.
use Rattle.std.proofs.Common.{◌≡◌, ◌≢◌, ℕ, zero, suc, ◌+◌, ◌*◌, ◌/◌, ◌<◌, ◌≤◌, ◌^◌, List, [], ◌∷◌, length, map, sum, sum_by, slice_get, Option, Some, None, All, cond, get_or, refl, sym, ap, ◌∙◌, arith, inl, inr, mul_assoc, mul-le-mul_right, div-mul-le_self}
use Rattle.std.specs.Int.{bit_at}
use Rattle.std.proofs.lemmas.Bool.{cases_eq, cond-true, cond-false}
use Rattle.std.proofs.lemmas.Bool.Decides.{nat_tests}
use Rattle.std.specs.Prelude.{◌==◌}
use Rattle.std.proofs.lemmas.List.Elements.{All-head, All-tail, All-weaker}
use Rattle.std.proofs.lemmas.List.Sums.{sum_by-cons}
use Rattle.collection_keys.proofs.Joining.{part-joined_same, part-joined_other}
use Rattle.collection_keys.specs.Collections.{Pairs, root, part, joined}
use Rattle.condition_sets.specs.Sets.{AreApart, union_of}
use Rattle.condition_table.specs.Shares.{numerators_in, weighted}
use Rattle.condition_table.specs.declared.facts.Facts.{Facts}
use Rattle.ledger_book.specs.Postings.{credit, debit}
use Rattle.coverage_law.specs.Need.{paid_worth, taken_worth}
use Rattle.coverage_law.specs.Outcomes.{Outcome, Outlook, IsLawful, winners, with_slot}
use Rattle.coverage_law.specs.Worth.{Results, worth, denominator, denominator_of, share_of, factor_of, product_below, prepared, reported}
use Rattle.coverage_law.proofs.Needs.{credits-paid, debits-taken}
use Rattle.coverage_law.proofs.Products.{product-same, product-some, others, others-same, product-out}
use Rattle.coverage_law.proofs.Shares.{share-union, share-full}
use Rattle.coverage_law.proofs.Weights.{weighted-one, weighted-same, weighted-times_right}

-- ---- cash

-- a unit of cash is worth the denominator
pub cash-worth : (results : Results) (outcome : Outcome) → worth results outcome root ≡ denominator results
unfolding worth denominator
cash-worth results outcome = refl

-- the denominator isn't 0
pub denominator-some : (results : Results) → ((c : ℕ) → 0 < denominator_of (results.numerators c)) → 0 < denominator results
unfolding denominator
denominator-some results some = product-some results.conditions (λ c. denominator_of (results.numerators c)) some

-- ---- one condition, and all others

-- the factor of each condition
abbrev factors : Results → Outcome → Pairs → ℕ → ℕ
factors results outcome k c = factor_of (results.numerators c) (outcome c) (part k c)

-- what all conditions but one make of a collection
abbrev pub rest_of : Results → Outcome → Pairs → ℕ → ℕ
rest_of results outcome k c = others results.conditions (factors results outcome k) c

-- a worth is the factor of one condition times the rest
worth-out : (results : Results) (outcome : Outcome) (k : Pairs) (c : ℕ) → c < results.conditions → worth results outcome k ≡ factors results outcome k c * rest_of results outcome k c
unfolding worth
worth-out results outcome k c below = product-out results.conditions (factors results outcome k) c below

-- of a collection without the condition that factor is its denominator
pub worth-free : (results : Results) (outcome : Outcome) (k : Pairs) (c : ℕ) → c < results.conditions → part k c ≡ None
    → worth results outcome k ≡ denominator_of (results.numerators c) * rest_of results outcome k c
worth-free results outcome k c below free =
    worth-out results outcome k c below ∙ ap (λ p. factor_of (results.numerators c) (outcome c) p * rest_of results outcome k c) free

-- joined with a set of the condition it is the set's share, and the rest is as before
pub worth-joined : (results : Results) (outcome : Outcome) (k : Pairs) (c set : ℕ) → c < results.conditions → part k c ≡ None
    → worth results outcome (joined k c set) ≡ share_of (results.numerators c) (outcome c) set * rest_of results outcome k c
worth-joined results outcome k c set below free =
    let here : factors results outcome (joined k c set) c ≡ share_of (results.numerators c) (outcome c) set
    = ap (factor_of (results.numerators c) (outcome c)) (part-joined_same k c set free) in
    let rest : rest_of results outcome (joined k c set) c ≡ rest_of results outcome k c
    = others-same results.conditions (factors results outcome (joined k c set)) (factors results outcome k) c
    (λ i other. ap (factor_of (results.numerators i) (outcome i)) (part-joined_other k c i set (λ same. other (sym same)))) in
    worth-out results outcome (joined k c set) c below ∙ (λ j. here j * rest j)

-- ---- splits and merges

-- a factor that all terms of a sum share
sum_by-times : (x : ℕ) (f : ℕ → ℕ) (xs : List ℕ) → sum_by (λ set. f set * x) xs ≡ sum_by f xs * x
sum_by-times x f [] = omega arith
sum_by-times x f (y ∷ ys) =
    let whole = ap (λ (m : ℕ). m * x) (sum_by-cons f y ys) in
    omega (arith, sum_by-times x f ys, whole, sum_by-cons (λ set. f set * x) y ys)

-- an amount of each part is worth as much as that amount of their union
pub union-worth : (results : Results) (outcome : Outcome) (k : Pairs) (c amount : ℕ) (sets : List ℕ) → c < results.conditions → part k c ≡ None → AreApart sets
    → sum_by (λ set. amount * worth results outcome (joined k c set)) sets ≡ amount * worth results outcome (joined k c (union_of sets))
union-worth results outcome k c amount sets below free apart =
    let share = share_of (results.numerators c) (outcome c) in
    let rest = rest_of results outcome k c in
    let one : (set : ℕ) → amount * worth results outcome (joined k c set) ≡ share set * (amount * rest)
    = λ set. ap (λ (w : ℕ). amount * w) (worth-joined results outcome k c set below free) ∙ omega arith in
    ap (λ (f : ℕ → ℕ). sum_by f sets) (λ j set. one set j)
    ∙ sum_by-times (amount * rest) share sets
    ∙ ap (λ (w : ℕ). w * (amount * rest)) (share-union (results.numerators c) (outcome c) sets apart)
    ∙ sym (one (union_of sets))

-- a sum over the parts is one over the sets
pub parts-sum : (f : Pairs → ℕ) (g : ℕ → Pairs) (sets : List ℕ) → sum_by f (map g sets) ≡ sum_by (λ set. f (g set)) sets
parts-sum f g [] = refl
parts-sum f g (x ∷ xs) = omega (arith, parts-sum f g xs, sum_by-cons f (g x) (map g xs), sum_by-cons (λ set. f (g set)) x xs)

-- so it is of what credits of the parts pay
pub parts-paid : (results : Results) (outcome : Outcome) (k : Pairs) (c a amount : ℕ) (sets : List ℕ) → c < results.conditions → part k c ≡ None → AreApart sets
    → paid_worth (worth results outcome) (map (λ j. credit a j amount) (map (λ set. joined k c set) sets)) ≡ amount * worth results outcome (joined k c (union_of sets))
parts-paid results outcome k c a amount sets below free apart =
    credits-paid (worth results outcome) a amount (map (λ set. joined k c set) sets)
    ∙ parts-sum (λ j. amount * worth results outcome j) (λ set. joined k c set) sets
    ∙ union-worth results outcome k c amount sets below free apart

-- and of what debits of them take
pub parts-taken : (results : Results) (outcome : Outcome) (k : Pairs) (c a amount : ℕ) (sets : List ℕ) → c < results.conditions → part k c ≡ None → AreApart sets
    → taken_worth (worth results outcome) (map (λ j. debit a j amount) (map (λ set. joined k c set) sets)) ≡ amount * worth results outcome (joined k c (union_of sets))
parts-taken results outcome k c a amount sets below free apart =
    debits-taken (worth results outcome) a amount (map (λ set. joined k c set) sets)
    ∙ parts-sum (λ j. amount * worth results outcome j) (λ set. joined k c set) sets
    ∙ union-worth results outcome k c amount sets below free apart

-- with all slots of a condition a collection is worth what it is without the condition
pub whole-worth : (results : Results) (outcome : Outcome) (k : Pairs) (c slots full : ℕ) → c < results.conditions → part k c ≡ None → full + 1 ≡ 2 ^ slots → outcome c < slots
    → ((ns : List ℕ) → results.numerators c ≡ Some ns → length ns ≡ slots) → worth results outcome (joined k c full) ≡ worth results outcome k
whole-worth results outcome k c slots full below free all inside each =
    worth-joined results outcome k c full below free
    ∙ ap (λ (w : ℕ). w * rest_of results outcome k c) (share-full (results.numerators c) slots full (outcome c) all inside each)
    ∙ sym (worth-free results outcome k c below free)

-- ---- preparing a condition

-- the conditions there were keep what was reported on them
prepared-before : (results : Results) (i : ℕ) → i < results.conditions → (prepared results).numerators i ≡ results.numerators i
prepared-before results i below = cond-false _ None (results.numerators i) (grind (arith, nat_tests))

-- on the new one nothing is reported
prepared-new : (results : Results) → (prepared results).numerators results.conditions ≡ None
prepared-new results = cond-true _ None (results.numerators results.conditions) (grind (arith, nat_tests))

-- no worth of what there was changes
pub prepared-worth : (results : Results) (outcome : Outcome) (k : Pairs) → part k results.conditions ≡ None → worth (prepared results) outcome k ≡ worth results outcome k
unfolding worth
prepared-worth results outcome k free =
    let n = results.conditions in
    let before = product-same n (factors (prepared results) outcome k) (factors results outcome k) (λ i below. ap (λ o. factor_of o (outcome i) (part k i)) (prepared-before results i below)) in
    let new : factors (prepared results) outcome k n ≡ 1 = λ j. factor_of (prepared-new results j) (outcome n) (free j) in
    (λ j. before j * new j) ∙ omega arith

-- nor does the denominator
pub prepared-denominator : (results : Results) → denominator (prepared results) ≡ denominator results
unfolding denominator
prepared-denominator results =
    let n = results.conditions in
    let before = product-same n (λ i. denominator_of ((prepared results).numerators i)) (λ i. denominator_of (results.numerators i)) (λ i below. ap denominator_of (prepared-before results i below)) in
    let new : denominator_of ((prepared results).numerators n) ≡ 1 = ap denominator_of (prepared-new results) in
    (λ j. before j * new j) ∙ omega arith

-- ---- reporting

-- the condition has the numerators
reported-here : (results : Results) (c : ℕ) (ns : List ℕ) → (reported results c ns).numerators c ≡ Some ns
reported-here results c ns = cond-true _ (Some ns) (results.numerators c) (grind (arith, nat_tests))

-- the others keep what they had
reported-other : (results : Results) (c : ℕ) (ns : List ℕ) (i : ℕ) → i ≢ c → (reported results c ns).numerators i ≡ results.numerators i
reported-other results c ns i other = cond-false _ (Some ns) (results.numerators i) (grind (arith, nat_tests))

-- the slot that was put into an outcome wins
slot-here : (outcome : Outcome) (c slot : ℕ) → with_slot outcome c slot c ≡ slot
slot-here outcome c slot = cond-true _ slot (outcome c) (grind (arith, nat_tests))

-- of other conditions the same slots win as before
slot-other : (outcome : Outcome) (c slot i : ℕ) → i ≢ c → with_slot outcome c slot i ≡ outcome i
slot-other outcome c slot i other = cond-false _ slot (outcome i) (grind (arith, nat_tests))

-- the factor of a reported condition is its factor with each slot winning, as often as the slot's numerator says
factor-weighted : (ns : List ℕ) (slot : ℕ) (p : Option ℕ) → factor_of (Some ns) slot p ≡ weighted ns (λ s. factor_of None s p)
factor-weighted ns slot None = sym (weighted-one ns)
factor-weighted ns slot (Some set) = refl

-- so a worth is what it was with each slot winning, as often as the slot's numerator says
pub reported-worth : (results : Results) (outcome : Outcome) (k : Pairs) (c : ℕ) (ns : List ℕ) → c < results.conditions → results.numerators c ≡ None
    → worth (reported results c ns) outcome k ≡ weighted ns (λ slot. worth results (with_slot outcome c slot) k)
reported-worth results outcome k c ns below none =
    let rest = rest_of results outcome k c in
    let now : worth (reported results c ns) outcome k ≡ factor_of (Some ns) (outcome c) (part k c) * rest
    = worth-out (reported results c ns) outcome k c below ∙ (λ j. factor_of (reported-here results c ns j) (outcome c) (part k c) * same j) in
    let each : (slot : ℕ) → worth results (with_slot outcome c slot) k ≡ factor_of None slot (part k c) * rest
    = λ slot. worth-out results (with_slot outcome c slot) k c below ∙ (λ j. factor_of (none j) (slot-here outcome c slot j) (part k c) * kept slot j) in
    now
    ∙ ap (λ (w : ℕ). w * rest) (factor-weighted ns (outcome c) (part k c))
    ∙ sym (weighted-times_right ns rest (λ s. factor_of None s (part k c)))
    ∙ weighted-same ns (λ s. factor_of None s (part k c) * rest) (λ slot. worth results (with_slot outcome c slot) k) (λ s inside. sym (each s))
  where
    same : rest_of (reported results c ns) outcome k c ≡ rest_of results outcome k c
    same =
        others-same results.conditions (factors (reported results c ns) outcome k) (factors results outcome k) c
        (λ i other. ap (λ o. factor_of o (outcome i) (part k i)) (reported-other results c ns i other))

    kept : (slot : ℕ) → rest_of results (with_slot outcome c slot) k c ≡ rest_of results outcome k c
    kept slot =
        others-same results.conditions (factors results (with_slot outcome c slot) k) (factors results outcome k) c
        (λ i other. ap (λ s. factor_of (results.numerators i) s (part k i)) (slot-other outcome c slot i other))

-- the denominator grows by the sum of the numerators
pub reported-denominator : (results : Results) (c : ℕ) (ns : List ℕ) → c < results.conditions → results.numerators c ≡ None → denominator (reported results c ns) ≡ sum ns * denominator results
unfolding denominator
reported-denominator results c ns below none =
    let n = results.conditions in
    let now : ℕ → ℕ = λ i. denominator_of ((reported results c ns).numerators i) in
    let before : ℕ → ℕ = λ i. denominator_of (results.numerators i) in
    let rest : others n now c ≡ others n before c = others-same n now before c (λ i other. ap denominator_of (reported-other results c ns i other)) in
    let here : now c ≡ sum ns = ap denominator_of (reported-here results c ns) in
    let one : before c ≡ 1 = ap denominator_of none in
    let all : product_below n before ≡ others n before c = product-out n before c below ∙ (λ j. one j * others n before c) ∙ omega arith in
    product-out n now c below ∙ (λ j. here j * rest j) ∙ (λ j. sum ns * sym all j)

-- of questions that aren't the condition as many come out YES
winners-other : (outcome : Outcome) (c slot : ℕ) (qs : List ℕ) → All (λ q. q ≢ c) qs → winners (with_slot outcome c slot) qs ≡ winners outcome qs
winners-other outcome c slot [] apart = refl
winners-other outcome c slot (q ∷ qs) apart =
    let here : with_slot outcome c slot q ≡ outcome q = slot-other outcome c slot q (All-head (λ (x : ℕ). x ≢ c) q qs apart) in
    let rest = winners-other outcome c slot qs (All-tail (λ (x : ℕ). x ≢ c) q qs apart) in
    λ i. cond (here i == 0) 1 0 + rest i

-- each of these outcomes is lawful where the condition is no question
pub with_slot-lawful : (outlook : Outlook) (outcome : Outcome) (c slot : ℕ) (facts : Facts) → IsLawful outlook outcome → slice_get outlook.conditions c ≡ Some facts → slot < facts.slots
    → outlook.answers c ≡ None → All (λ questions. All (λ q. q ≢ c) questions) outlook.events → IsLawful outlook (with_slot outcome c slot)
with_slot-lawful outlook outcome c slot facts lawful is inside unanswered apart = record {
  slots = λ condition f at. elim (cases_eq condition c) [
    | inl same ↦
        let facts_same : facts ≡ f = some-same (sym is ∙ ap (slice_get outlook.conditions) (sym same) ∙ at) in
        let few : facts.slots ≡ f.slots = ap (λ (g : Facts). g.slots) facts_same in
        let here : with_slot outcome c slot condition ≡ slot = ap (with_slot outcome c slot) same ∙ slot-here outcome c slot in
        omega (arith, here, few, inside)
    | inr other ↦ omega (arith, slot-other outcome c slot condition other, lawful.slots condition f at)
  ];
  answers = λ condition ns told. elim (cases_eq condition c) [
    | inl same ↦ absurd (clash ns (sym (ap outlook.answers same ∙ unanswered) ∙ told))
    | inr other ↦ ap (slice_get ns) (slot-other outcome c slot condition other) ∙ lawful.answers condition ns told
  ];
  one_winner = each outlook.events apart lawful.one_winner;
}
  where
    some-same : {a b : Facts} → ◌≡◌ {A = Option Facts} (Some a) (Some b) → a ≡ b
    some-same same = cc

    clash : (ns : List ℕ) → ◌≡◌ {A = Option (List ℕ)} None (Some ns) → ⊥
    clash ns e = cc

    each : (events : List (List ℕ)) → All (λ questions. All (λ q. q ≢ c) questions) events → All (λ questions. winners outcome questions ≤ 1) events → All (λ questions. winners (with_slot outcome c slot) questions ≤ 1) events
    each events apart one i questions inside =
        omega (arith, winners-other outcome c slot (get_or events i questions) (apart i questions inside), one i questions inside)

-- ---- redeeming

-- what is paid is worth at most what is burnt
pub redeemed-worth : (results : Results) (outcome : Outcome) (k : Pairs) (c set amount : ℕ) (ns : List ℕ) → c < results.conditions → part k c ≡ None → results.numerators c ≡ Some ns → 0 < sum ns
    → (amount * numerators_in ns set / sum ns) * worth results outcome k ≤ amount * worth results outcome (joined k c set)
redeemed-worth results outcome k c set amount ns below free is some =
    let rest = rest_of results outcome k c in
    let burnt = amount * numerators_in ns set in
    let before : worth results outcome k ≡ sum ns * rest = worth-free results outcome k c below free ∙ ap (λ o. denominator_of o * rest) is in
    let after : worth results outcome (joined k c set) ≡ numerators_in ns set * rest = worth-joined results outcome k c set below free ∙ ap (λ o. share_of o (outcome c) set * rest) is in
    let paid : (burnt / sum ns) * worth results outcome k ≡ (burnt / sum ns) * sum ns * rest = ap (λ (w : ℕ). (burnt / sum ns) * w) before ∙ sym (mul_assoc (burnt / sum ns) (sum ns) rest) in
    let all : amount * worth results outcome (joined k c set) ≡ burnt * rest = ap (λ (w : ℕ). amount * w) after ∙ sym (mul_assoc amount (numerators_in ns set) rest) in
    let floor : (burnt / sum ns) * sum ns * rest ≤ burnt * rest = mul-le-mul_right rest (div-mul-le_self burnt (sum ns)) in
    omega (arith, paid, all, floor)

-- ---- answers

sum-more : (n : ℕ) (ns : List ℕ) → sum (n ∷ ns) ≡ n + sum ns
sum-more n ns = sum_by-cons (λ (x : ℕ). x) n ns

-- numerators that are all 0 weigh nothing
weighted-none : (ns : List ℕ) (f : ℕ → ℕ) → sum ns ≡ 0 → weighted ns f ≡ 0
weighted-none [] f none = refl
weighted-none (zero ∷ ns) f none = omega (arith, weighted-none ns (λ s. f (suc s)) (omega (arith, none, sum-more zero ns)))
weighted-none (suc n ∷ ns) f none = absurd (omega (arith, none, sum-more (suc n) ns))

-- a numerator is within the sum
sum-some : (ns : List ℕ) (slot : ℕ) → slice_get ns slot ≡ Some 1 → 1 ≤ sum ns
sum-some [] slot is = cc
sum-some (n ∷ ns) zero is = let one : n ≡ 1 = cc in omega (arith, one, sum-more n ns)
sum-some (n ∷ ns) (suc slot) is = omega (arith, sum-some ns slot is, sum-more n ns)

-- where the sum is 1, the slot that has it is weighed alone
weighted-answer : (ns : List ℕ) (f : ℕ → ℕ) (slot : ℕ) → sum ns ≡ 1 → slice_get ns slot ≡ Some 1 → weighted ns f ≡ f slot
weighted-answer [] f slot one is = cc
weighted-answer (n ∷ ns) f zero one is =
    let first : n ≡ 1 = cc in
    let rest = weighted-none ns (λ s. f (suc s)) (omega (arith, one, first, sum-more n ns)) in
    rw first (omega (arith, rest))
weighted-answer (zero ∷ ns) f (suc slot) one is = omega (arith, weighted-answer ns (λ s. f (suc s)) slot (omega (arith, one, sum-more zero ns)) is)
weighted-answer (suc n ∷ ns) f (suc slot) one is = absurd (omega (arith, one, sum-some ns slot is, sum-more (suc n) ns))

by-one : (n amount : ℕ) → n ≡ 1 → amount / n ≡ amount
by-one n amount one = rw one (omega arith)

-- what is paid for an answered question's set is worth just what is burnt
pub answered-worth : (results : Results) (outcome : Outcome) (k : Pairs) (c set amount : ℕ) (ns : List ℕ) → c < results.conditions → part k c ≡ None → results.numerators c ≡ None
    → sum ns ≡ 1 → slice_get ns (outcome c) ≡ Some 1
    → (amount * numerators_in ns set / sum ns) * worth results outcome k ≡ amount * worth results outcome (joined k c set)
answered-worth results outcome k c set amount ns below free none one wins =
    let rest = rest_of results outcome k c in
    let share = numerators_in ns set in
    let before : worth results outcome k ≡ rest = worth-free results outcome k c below free ∙ ap (λ o. denominator_of o * rest) none ∙ omega arith in
    let after : worth results outcome (joined k c set) ≡ share * rest
    = worth-joined results outcome k c set below free ∙ ap (λ o. share_of o (outcome c) set * rest) none ∙ ap (λ n. n * rest) (sym (weighted-answer ns (bit_at set) (outcome c) one wins)) in
    let paid : amount * share / sum ns ≡ amount * share = by-one (sum ns) (amount * share) one in
    (λ i. paid i * before i) ∙ mul_assoc amount share rest ∙ sym (ap (λ (w : ℕ). amount * w) after)
