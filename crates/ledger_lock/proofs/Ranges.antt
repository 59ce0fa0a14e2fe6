-- The commands of a turn have their members in their ranges.
use Rattle.std.proofs.Common.{◌≡◌, ℕ, zero, suc, ◌-◌, ◌<◌, ◌≤◌, ◌^◌, Bool, true, false, List, [], ◌∷◌, length, take, Option, Some, None, refl, arith}
use Rattle.std.specs.Prelude.{◌==◌, ◌&&◌, All, is_none, nat_le, sum, slice_index_or}
use Rattle.std.specs.List.{list_all}
use Rattle.std.proofs.lemmas.Bool.{lt-ltb}
use Rattle.std.proofs.lemmas.Bool.Decides.{nat_tests}
use Rattle.std.proofs.lemmas.List.{length-take}
use Rattle.std.proofs.lemmas.List.Elements.{All-cons, All-head, All-nil, All-tail, All-take, All-weaker}
use Rattle.std.proofs.lemmas.List.Sums.{sum_by-cons, sum_by-take-le}
use Rattle.book_propose.specs.Proposals.{AreTerms}
use Rattle.book_propose.specs.declared.terms.MatchTerms.{MatchTerms}
use Rattle.command_words.specs.Ranges.{is_amount, is_fill, is_makers, is_order}
use Rattle.command_words.specs.declared.act.Act.{Act}
use Rattle.command_words.specs.declared.command.Command.TheVariants.{Lapse, Match}
use Rattle.command_words.specs.declared.refusal.Refusal.{Refusal}
use Rattle.command_words.specs.declared.refusal.Refusal.TheVariants.{NoOrder}
use Rattle.condition_sets.specs.declared.amount.TheConstants.{MAX_AMOUNT}
use Rattle.settle_core.specs.Crossings.{first_maker, in_its_place, match_of, shortened}
use Rattle.settle_core.specs.Legal.{IsPlannable}
use Rattle.settle_core.specs.OrderRules.{match_refusals, never_placed, where_}
use Rattle.settle_core.specs.Orders.{nonce, order_state, orders}
use Rattle.settle_core.specs.Verdict.{first_some}
use Rattle.settle_core.proofs.Filling.{named-within}
use Rattle.settle_core.proofs.Parts.{or-none}
use Rattle.ledger_lock.specs.Turns.{AreNumbers}

both : (a b : Bool) → a ≡ true → b ≡ true → (a && b) ≡ true
both a b one two = rw (one, two) refl

order-in : (n : ℕ) → n < 2 ^ 32 → is_order n ≡ true
order-in n below = lt-ltb n (2 ^ 32) below

amount-in : (n : ℕ) → 1 ≤ n → n ≤ MAX_AMOUNT → is_amount n ≡ true
amount-in n some within = grind (arith, nat_tests, some, within)

fills-in : (ms : List (ℕ × ℕ)) → All (λ m. m.0 < 2 ^ 32) ms → All (λ m. (1 ≤ m.1) × (m.1 ≤ MAX_AMOUNT)) ms → list_all is_fill ms ≡ true
fills-in [] numbers amounts = refl
fills-in (m ∷ ms) numbers amounts =
    let amount = All-head (λ (n : ℕ × ℕ). (1 ≤ n.1) × (n.1 ≤ MAX_AMOUNT)) m ms amounts in
    let rest = fills-in ms (All-tail (λ (n : ℕ × ℕ). n.0 < 2 ^ 32) m ms numbers) (All-tail (λ (n : ℕ × ℕ). (1 ≤ n.1) × (n.1 ≤ MAX_AMOUNT)) m ms amounts) in
    both (is_fill m) (list_all is_fill ms) (both (is_order m.0) (is_amount m.1) (order-in m.0 (All-head (λ (n : ℕ × ℕ). n.0 < 2 ^ 32) m ms numbers)) (amount-in m.1 amount.0 amount.1)) rest

makers-in : (ms : List (ℕ × ℕ)) → All (λ m. m.0 < 2 ^ 32) ms → All (λ m. (1 ≤ m.1) × (m.1 ≤ MAX_AMOUNT)) ms → 1 ≤ length ms → length ms ≤ 16 → is_makers ms ≡ true
makers-in ms numbers amounts some few =
    both (list_all is_fill ms) (nat_le 1 (length ms) && nat_le (length ms) 16) (fills-in ms numbers amounts) (grind (arith, nat_tests, some, few))

-- the first ones of some amounts, each of which is some, come to some, and to no more than all
sum-some : (n : ℕ) (xs : List ℕ) → 1 ≤ n → 1 ≤ sum xs → All (λ x. 1 ≤ x) xs → 1 ≤ sum (take n xs)
sum-some zero xs some all each = absurd (omega arith)
sum-some (suc n) [] some all each = absurd (omega arith)
sum-some (suc n) (x ∷ xs) some all each = omega (arith, All-head (λ y. 1 ≤ y) x xs each, sum_by-cons (λ (y : ℕ). y) x (take n xs))

-- ---- the commands

plannable : (taker fill : ℕ) (makers : List (ℕ × ℕ)) → taker < 2 ^ 32 → 1 ≤ fill → fill ≤ MAX_AMOUNT → is_makers makers ≡ true → IsPlannable (Match taker fill makers)
plannable taker fill makers below some within are = record {
  makes_act = refl;
  in_ranges = both (is_order taker) (is_amount fill && is_makers makers) (order-in taker below) (both (is_amount fill) (is_makers makers) (amount-in fill some within) are);
}

pub match-plannable : (terms : MatchTerms) → AreTerms terms → AreNumbers terms → IsPlannable (match_of terms)
match-plannable terms are numbers =
    plannable terms.taker terms.fill terms.makers numbers.taker are.some are.within (makers-in terms.makers numbers.makers are.each are.makers_some are.makers_few)

shortened-plannable : (count : ℕ) (terms : MatchTerms) → 1 ≤ count → AreTerms terms → AreNumbers terms → IsPlannable (shortened count terms)
shortened-plannable count terms some are numbers =
    let makers = take count terms.makers in
    let many = length-take count terms.makers in
    let fill = sum (take count terms.spent) in
    plannable terms.taker fill makers numbers.taker (sum-some count terms.spent some (omega (arith, are.fill, are.some)) are.spent) (omega (arith, sum_by-take-le (λ (y : ℕ). y) terms.spent count, are.fill, are.within))
    (makers-in makers (All-take (λ m. m.0 < 2 ^ 32) count terms.makers numbers.makers) (All-take (λ m. (1 ≤ m.1) × (m.1 ≤ MAX_AMOUNT)) count terms.makers are.each)
    (omega (arith, many, some, are.makers_some)) (omega (arith, many, are.makers_few)))

lapse-plannable : (order : ℕ) → order < 2 ^ 32 → IsPlannable (Lapse order)
lapse-plannable order below = record { makes_act = refl; in_ranges = order-in order below }

first-below : (ms : List (ℕ × ℕ)) → All (λ m. m.0 < 2 ^ 32) ms → (slice_index_or ms 0 (0, 0)).0 < 2 ^ 32
first-below [] numbers = omega arith
first-below (m ∷ ms) numbers = All-head (λ (n : ℕ × ℕ). n.0 < 2 ^ 32) m ms numbers

pub instead-plannable : (place : ℕ) (terms : MatchTerms) → AreTerms terms → AreNumbers terms → IsPlannable (in_its_place place terms)
instead-plannable zero terms are numbers = lapse-plannable terms.taker numbers.taker
instead-plannable (suc zero) terms are numbers = lapse-plannable (first_maker terms) (first-below terms.makers numbers.makers)
instead-plannable (suc (suc before)) terms are numbers =
    let taker : (suc (suc before) == 0) ≡ false = grind (arith, nat_tests) in
    let first : (suc (suc before) == 1) ≡ false = grind (arith, nat_tests) in
    let one : suc (suc before) - 1 ≡ suc before = omega arith in
    rw (taker, first, one) (shortened-plannable (suc before) terms (omega arith) are numbers)

-- ---- the numbers of its orders

first-none : (first : Option Refusal) (others : List (Option Refusal)) → first_some (first ∷ others) ≡ None → first ≡ None
first-none None others none = refl
first-none (Some refusal) others none = cc

-- each of them was placed
placed-below : (history : List Act) (place : ℕ) (ns : List (ℕ × ℕ)) → never_placed (order_state history) place ns ≡ None → All (λ n. n.0 < length (orders history)) ns
placed-below history place [] none = All-nil _
placed-below history place (n ∷ ns) none =
    let parts = or-none (where_ (is_none (order_state history n.0)) (NoOrder place)) (never_placed (order_state history) (suc place) ns) none in
    All-cons (λ (m : ℕ × ℕ). m.0 < length (orders history)) n ns (named-within (orders history) n.0 place parts.0) (placed-below history (suc place) ns parts.1)

pub numbers-of : (history : List Act) (now : ℕ) (terms : MatchTerms) → first_some (match_refusals (order_state history) (nonce history) now terms.taker terms.fill terms.makers) ≡ None
    → length (orders history) < 2 ^ 32 → AreNumbers terms
numbers-of history now terms none few =
    let named = (terms.taker, terms.fill) ∷ terms.makers in
    let below = placed-below history 0 named (first-none _ _ none) in
    record {
      taker = omega (arith, few, All-head (λ (m : ℕ × ℕ). m.0 < length (orders history)) (terms.taker, terms.fill) terms.makers below);
      makers = All-weaker (λ (m : ℕ × ℕ). m.0 < length (orders history)) (λ m. m.0 < 2 ^ 32) (λ m under. omega (arith, few, under)) terms.makers
          (All-tail (λ (m : ℕ × ℕ). m.0 < length (orders history)) (terms.taker, terms.fill) terms.makers below);
    }
