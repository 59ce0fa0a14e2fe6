-- What a conversion does to worths.
use Rattle.std.proofs.Common.{◌≡◌, ◌==◌, ℕ, zero, suc, ◌+◌, ◌-◌, ◌*◌, ◌<◌, ◌≤◌, cond, List, [], ◌∷◌, ◌++◌, length, map, refl, sym, ap, ◌∙◌, arith, add-mul, inl, inr}
use Rattle.std.proofs.lemmas.Bool.{cases_Bool}
use Rattle.std.proofs.lemmas.List.Elements.{All-cons, All-head, All-tail}
use Rattle.std.specs.Int.{bit_at}
use Rattle.collection_keys.specs.Collections.{Pairs, root, joined}
use Rattle.condition_sets.specs.declared.names.TheConstants.{OPERATOR}
use Rattle.convert_positions.specs.Converting.{IsChoice, cash_of, chosen, chosen_from, convert_postings, fee_of, no_of, others, others_from, out_of, paid_for, yes_of}
use Rattle.convert_positions.proofs.Counting.{chosen-some}
use Rattle.ledger_book.specs.Postings.{credit, debit}
use Rattle.ledger_book.specs.declared.posting.Posting.{Posting}
use Rattle.coverage_law.specs.Need.{paid_worth, taken_worth}
use Rattle.coverage_law.specs.Outcomes.{Outcome, winners}
use Rattle.coverage_law.specs.Worth.{Results, worth, denominator, denominator_of, share_of}
use Rattle.coverage_law.specs.Questions.{AreQuestions, IsQuestion}
use Rattle.coverage_law.proofs.Needs.{credit-paid, credit-taken, paid-append, paid-cons, paid-none, taken-append, taken-cons, taken-none}
use Rattle.coverage_law.proofs.Worths.{cash-worth, rest_of, worth-free, worth-joined}

-- ---- one question

-- nothing was reported on it, so that its set is worth a unit of cash where the slot that wins is in it
question-worth : (results : Results) (outcome : Outcome) (c set : ℕ) → IsQuestion results outcome c → worth results outcome (joined root c set) ≡ bit_at set (outcome c) * denominator results
question-worth results outcome c set is =
    let rest = rest_of results outcome root c in
    let whole : denominator results ≡ 1 * rest = sym (cash-worth results outcome) ∙ (worth-free results outcome root c is.prepared refl ∙ ap (λ o. denominator_of o * rest) is.unreported) in
    let share : worth results outcome (joined root c set) ≡ bit_at set (outcome c) * rest
    = worth-joined results outcome root c set is.prepared refl ∙ ap (λ o. share_of o (outcome c) set * rest) is.unreported in
    share ∙ ap (λ (n : ℕ). bit_at set (outcome c) * n) (omega (arith, whole))

-- whether it comes out YES, as a number
abbrev won : Outcome → ℕ → ℕ
won outcome c = cond (outcome c == 0) 1 0

yes-won : (slot : ℕ) → slot < 2 → bit_at 1 slot ≡ cond (slot == 0) 1 0
yes-won zero few = refl
yes-won (suc zero) few = refl
yes-won (suc (suc slot)) few = absurd (omega arith)

no-won : (slot : ℕ) → slot < 2 → bit_at 2 slot + cond (slot == 0) 1 0 ≡ 1
no-won zero few = refl
no-won (suc zero) few = refl
no-won (suc (suc slot)) few = absurd (omega arith)

-- an amount of YES
yes-worth : (results : Results) (outcome : Outcome) (c amount : ℕ) → IsQuestion results outcome c → amount * worth results outcome (yes_of c) ≡ won outcome c * (amount * denominator results)
yes-worth results outcome c amount is =
    let here : worth results outcome (yes_of c) ≡ won outcome c * denominator results = question-worth results outcome c 1 is ∙ ap (λ (n : ℕ). n * denominator results) (yes-won (outcome c) is.two_slots) in
    ap (λ (n : ℕ). amount * n) here ∙ grind arith

-- an amount of NO, and what it lacks of cash
no-worth : (results : Results) (outcome : Outcome) (c amount : ℕ) → IsQuestion results outcome c → amount * worth results outcome (no_of c) + won outcome c * (amount * denominator results) ≡ amount * denominator results
no-worth results outcome c amount is =
    let d = denominator results in
    let here : amount * worth results outcome (no_of c) ≡ bit_at 2 (outcome c) * (amount * d) = ap (λ (n : ℕ). amount * n) (question-worth results outcome c 2 is) ∙ grind arith in
    let one : (bit_at 2 (outcome c) + won outcome c) * (amount * d) ≡ 1 * (amount * d) = ap (λ (n : ℕ). n * (amount * d)) (no-won (outcome c) is.two_slots) in
    omega (arith, here, one)

-- ---- several questions

-- what the debits of NO take, and what that lacks of as much cash each
no-taken : (results : Results) (outcome : Outcome) (a amount : ℕ) (cs : List ℕ) → AreQuestions results outcome cs
    → taken_worth (worth results outcome) (map (λ c. debit a (no_of c) amount) cs) + winners outcome cs * (amount * denominator results) ≡ length cs * (amount * denominator results)
no-taken results outcome a amount [] are = omega (arith, taken-none (worth results outcome))
no-taken results outcome a amount (c ∷ cs) are =
    let v = worth results outcome in
    let here = no-worth results outcome c amount (All-head (IsQuestion results outcome) c cs are) in
    let rest = no-taken results outcome a amount cs (All-tail (IsQuestion results outcome) c cs are) in
    let more = taken-cons v (debit a (no_of c) amount) (map (λ x. debit a (no_of x) amount) cs) in
    omega (arith, here, rest, more)

-- what the credits of YES pay
yes-paid : (results : Results) (outcome : Outcome) (a each : ℕ) (cs : List ℕ) → AreQuestions results outcome cs
    → paid_worth (worth results outcome) (map (λ c. credit a (yes_of c) each) cs) ≡ winners outcome cs * (each * denominator results)
yes-paid results outcome a each [] are = omega (arith, paid-none (worth results outcome))
yes-paid results outcome a each (c ∷ cs) are =
    let v = worth results outcome in
    let here = yes-worth results outcome c each (All-head (IsQuestion results outcome) c cs are) in
    let rest = yes-paid results outcome a each cs (All-tail (IsQuestion results outcome) c cs are) in
    let more = paid-cons v (credit a (yes_of c) each) (map (λ x. credit a (yes_of x) each) cs) in
    omega (arith, here, rest, more)

-- debits pay nothing, and credits take nothing
no-paid : (value : Pairs → ℕ) (a amount : ℕ) (cs : List ℕ) → paid_worth value (map (λ c. debit a (no_of c) amount) cs) ≡ 0
no-paid value a amount [] = paid-none value
no-paid value a amount (c ∷ cs) = omega (arith, no-paid value a amount cs, paid-cons value (debit a (no_of c) amount) (map (λ x. debit a (no_of x) amount) cs))

yes-taken : (value : Pairs → ℕ) (a each : ℕ) (cs : List ℕ) → taken_worth value (map (λ c. credit a (yes_of c) each) cs) ≡ 0
yes-taken value a each [] = taken-none value
yes-taken value a each (c ∷ cs) = omega (arith, yes-taken value a each cs, taken-cons value (credit a (yes_of c) each) (map (λ x. credit a (yes_of x) each) cs))

-- ---- the chosen and the others

-- each question is of the one or the other
winners-parted : (outcome : Outcome) (set place : ℕ) (cs : List ℕ) → winners outcome (chosen_from set place cs) + winners outcome (others_from set place cs) ≡ winners outcome cs
winners-parted outcome set place [] = refl
winners-parted outcome set place (c ∷ cs) =
    let rest = winners-parted outcome set (suc place) cs in
    elim (cases_Bool (bit_at set place == 1)) [
      | inl there ↦ rw there (omega (arith, rest))
      | inr absent ↦ rw absent (omega (arith, rest))
    ]

are-chosen : (results : Results) (outcome : Outcome) (set place : ℕ) (cs : List ℕ) → AreQuestions results outcome cs → AreQuestions results outcome (chosen_from set place cs)
are-chosen results outcome set place [] are = are
are-chosen results outcome set place (c ∷ cs) are =
    let here = All-head (IsQuestion results outcome) c cs are in
    let rest = are-chosen results outcome set (suc place) cs (All-tail (IsQuestion results outcome) c cs are) in
    elim (cases_Bool (bit_at set place == 1)) [
      | inl there ↦ rw there (All-cons (IsQuestion results outcome) c (chosen_from set (suc place) cs) here rest)
      | inr absent ↦ rw absent rest
    ]

are-others : (results : Results) (outcome : Outcome) (set place : ℕ) (cs : List ℕ) → AreQuestions results outcome cs → AreQuestions results outcome (others_from set place cs)
are-others results outcome set place [] are = are
are-others results outcome set place (c ∷ cs) are =
    let here = All-head (IsQuestion results outcome) c cs are in
    let rest = are-others results outcome set (suc place) cs (All-tail (IsQuestion results outcome) c cs are) in
    elim (cases_Bool (bit_at set place == 1)) [
      | inl there ↦ rw there rest
      | inr absent ↦ rw absent (All-cons (IsQuestion results outcome) c (others_from set (suc place) cs) here rest)
    ]

-- ---- the conversion

-- what an account is paid
paid-for : (results : Results) (outcome : Outcome) (account each set : ℕ) (cs : List ℕ) → AreQuestions results outcome cs
    → paid_worth (worth results outcome) (paid_for account each set cs) ≡ winners outcome (others set cs) * (each * denominator results) + (length (chosen set cs) - 1) * (each * denominator results)
paid-for results outcome account each set cs are =
    let v = worth results outcome in
    let d = denominator results in
    let n = length (chosen set cs) - 1 in
    let cash : n * each * v root ≡ n * (each * d) = ap (λ (w : ℕ). n * each * w) (cash-worth results outcome) ∙ grind arith in
    omega (
      arith,
      yes-paid results outcome account each (others set cs) (are-others results outcome set 0 cs are),
      cash,
      credit-paid v account root (cash_of each set cs),
      paid-append v (map (λ c. credit account (yes_of c) each) (others set cs)) (credit account root (cash_of each set cs) ∷ []),
    )

none-taken : (value : Pairs → ℕ) (account each set : ℕ) (cs : List ℕ) → taken_worth value (paid_for account each set cs) ≡ 0
none-taken value account each set cs =
    omega (
      arith,
      yes-taken value account each (others set cs),
      credit-taken value account root (cash_of each set cs),
      taken-append value (map (λ c. credit account (yes_of c) each) (others set cs)) (credit account root (cash_of each set cs) ∷ []),
    )

-- so many times each of two parts is so many times both
parted : (k x y whole : ℕ) → x + y ≡ whole → k * x + k * y ≡ k * whole
parted k x y whole both = let all : k * (x + y) ≡ k * whole = ap (λ (n : ℕ). k * n) both in omega (arith, all)

one_more : (n whole : ℕ) → (n + 1) * whole ≡ n * whole + whole
one_more n whole = grind arith

-- what is paid in two parts, of `there` winners among the others, and `here` among the n + 1 that are chosen
summed : (here there n x y whole taken first second : ℕ) → x + y ≡ whole → taken + here * whole ≡ n * whole + whole → first ≡ there * x + n * x → second ≡ there * y + n * y
    → here + there ≤ 1 → taken ≡ first + second + (1 - (here + there)) * whole
summed zero zero n x y whole taken first second both is one two few = omega (arith, is, one, two, parted n x y whole both)
summed (suc zero) zero n x y whole taken first second both is one two few = omega (arith, is, one, two, parted n x y whole both)
summed zero (suc zero) n x y whole taken first second both is one two few = omega (arith, is, one, two, both, parted n x y whole both)
summed (suc (suc w)) there n x y whole taken first second both is one two few = absurd (omega (arith, few))
summed (suc zero) (suc w) n x y whole taken first second both is one two few = absurd (omega (arith, few))
summed zero (suc (suc w)) n x y whole taken first second both is one two few = absurd (omega (arith, few))

-- with one winner among the questions as much is taken as paid, and with none the amount more
pub conversion-worth : (results : Results) (outcome : Outcome) (a amount bips set : ℕ) (cs : List ℕ) → AreQuestions results outcome cs → bips ≤ 10000 → IsChoice (length cs) set → winners outcome cs ≤ 1
    → taken_worth (worth results outcome) (convert_postings a amount bips set cs) ≡ paid_worth (worth results outcome) (convert_postings a amount bips set cs) + (1 - winners outcome cs) * (amount * denominator results)
conversion-worth results outcome a amount bips set cs are few choice one =
    let v = worth results outcome in
    let d = denominator results in
    let fee = fee_of amount bips in
    let out = out_of amount bips in
    let shared : out + fee ≡ amount = grind (arith, few) in
    let whole : out * d + fee * d ≡ amount * d = sym (add-mul out fee d) ∙ ap (λ (n : ℕ). n * d) shared in
    let parts = winners-parted outcome set 0 cs in
    let debited : List Posting = map (λ c. debit a (no_of c) amount) (chosen set cs) in
    let own = paid_for a out set cs in
    let fees = paid_for OPERATOR fee set cs in
    let n = length (chosen set cs) - 1 in
    let count : length (chosen set cs) ≡ n + 1 = omega (arith, chosen-some set cs choice) in
    let all : length (chosen set cs) * (amount * d) ≡ n * (amount * d) + amount * d = ap (λ (m : ℕ). m * (amount * d)) count ∙ one_more n (amount * d) in
    let sum = summed (winners outcome (chosen set cs)) (winners outcome (others set cs)) n (out * d) (fee * d) (amount * d) (taken_worth v debited) (paid_worth v own) (paid_worth v fees) whole
    (no-taken results outcome a amount (chosen set cs) (are-chosen results outcome set 0 cs are) ∙ all) (paid-for results outcome a out set cs are) (paid-for results outcome OPERATOR fee set cs are) (omega (arith, parts, one)) in
    let lost : (1 - (winners outcome (chosen set cs) + winners outcome (others set cs))) * (amount * d) ≡ (1 - winners outcome cs) * (amount * d) = ap (λ (n : ℕ). (1 - n) * (amount * d)) parts in
    omega (
      arith,
      sum,
      lost,
      taken-append v debited (own ++ fees),
      taken-append v own fees,
      none-taken v a out set cs,
      none-taken v OPERATOR fee set cs,
      paid-append v debited (own ++ fees),
      paid-append v own fees,
      no-paid v a amount (chosen set cs),
    )
