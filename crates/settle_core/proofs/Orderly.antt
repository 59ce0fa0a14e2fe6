-- What holds of the conditions, events and answers of each legal history: questions are the exchange's own conditions, none
-- is in two places, what was answered is YES or NO, and the only YES of an event is its winner's.
use Rattle.std.proofs.Common.{◌≡◌, ◌≢◌, ℕ, zero, suc, ◌+◌, ◌*◌, ◌<◌, ◌≤◌, Bool, true, false, cond, List, [], ◌∷◌, ◌++◌, length, get_or, Option, Some, None, All, refl, sym, ap, subst, ◌∙◌, arith, inl, inr, length-append, append-nil}
use Rattle.std.specs.Prelude.{◌==◌, ◌⊎◌, ⊤, Contains, option_and_then, option_map, slice_get, slice_set, MatchOption}
use Rattle.std.proofs.lemmas.Bool.{cases_Bool, cases_eq, eqb-true}
use Rattle.std.proofs.lemmas.Bool.Decides.{nat_tests}
use Rattle.std.proofs.lemmas.List.{length-map, map-append}
use Rattle.std.proofs.lemmas.List.Elements.{All-nil, All-push, All-weaker, Contains-append_left}
use Rattle.std.proofs.lemmas.Option.{MatchOption-at_some, get_or_from_slice_get, option_and_then_some, slice_get-get_or, slice_get-map, slice_get_within}
use Rattle.condition_sets.specs.declared.names.TheConstants.{EXCHANGE}
use Rattle.condition_table.specs.Conditions.{IsReport}
use Rattle.condition_table.specs.declared.facts.Facts.{Facts}
use Rattle.event_table.specs.Events.{AreDistinct, EventView, answered, no, numbers_from, question_facts, question_in, questions_from, winner_in, yes}
use Rattle.command_words.specs.declared.act.Act.{Act}
use Rattle.settle_core.specs.Book.{Book, Payouts, answer_of, answered_in, book, numerators_on}
use Rattle.settle_core.specs.Coverage.{questions_of}
use Rattle.settle_core.proofs.Lists.{get-after, get-before, get-behind, holds-before, set-elsewhere, set-here, set-same}

-- a condition of these is a question's: the exchange's own, of two slots
abbrev pub IsQuestionIn : List Facts → ℕ → Type 0
IsQuestionIn prepared c = MatchOption (slice_get prepared c) ⊥ (λ f. (f.oracle ≡ EXCHANGE) × (f.slots ≡ 2))

-- numerators that may be reported on a condition, which isn't a question's
abbrev pub MayBeReported : List Facts → ℕ → List ℕ → Type 0
MayBeReported prepared c ns = MatchOption (slice_get prepared c) ⊥ (λ f. IsReport f.slots ns × (f.oracle ≡ EXCHANGE → ⊥))

-- YES or NO
abbrev pub IsAnswer : List ℕ → Type 0
IsAnswer ns = (ns ≡ yes) ⊎ (ns ≡ no)

pub record IsOrderly (cs : List Facts) (rs ans : List Payouts) (es : List EventView) (vs : List (List ℕ)) : Type 0 where
  pub slots : (c : ℕ) (f : Facts) → slice_get cs c ≡ Some f → 2 ≤ f.slots
  pub numbered : (c : ℕ) (f : Facts) → slice_get cs c ≡ Some f → f.oracle ≡ EXCHANGE → f.question < 32 * length es
  pub questions : (e i c : ℕ) → question_in es e i ≡ Some c → IsQuestionIn cs c
  pub placed : (d e i j c : ℕ) → question_in es d i ≡ Some c → question_in es e j ≡ Some c → (d ≡ e) × (i ≡ j)
  pub sizes : (e : ℕ) (event : EventView) → slice_get es e ≡ Some event → (length event.conditions ≤ 32) × (event.bips ≤ 10000)
  pub right : (c : ℕ) (ns : List ℕ) → numerators_on rs c ≡ Some ns → MayBeReported cs c ns
  pub answers : (c : ℕ) (ns : List ℕ) → numerators_on ans c ≡ Some ns → IsQuestionIn cs c × IsAnswer ns
  pub winners : (e i c : ℕ) → question_in es e i ≡ Some c → numerators_on ans c ≡ Some yes → winner_in es e ≡ Some i
  pub converted : All (Contains (questions_of es)) vs

-- what a book holds is orderly, and what a history does
abbrev pub IsOrderlyOf : Book → Type 0
IsOrderlyOf b = IsOrderly b.conditions b.reports b.answers b.events b.conversions

abbrev pub IsOrderlyBy : List Act → Type 0
IsOrderlyBy history = IsOrderlyOf (book history)

pub orderly-start : IsOrderly [] [] [] [] []
orderly-start = record {
  slots = λ c f at. cc;
  numbered = λ c f at own. cc;
  questions = λ e i c at. cc;
  placed = λ d e i j c at there. cc;
  sizes = λ e event at. cc;
  right = λ c ns is. cc;
  answers = λ c ns is. cc;
  winners = λ e i c at is. cc;
  converted = All-nil (Contains (questions_of []));
}

-- what was reported on each condition may be
abbrev pub AreRight : List Facts → (ℕ → Option (List ℕ)) → Type 0
AreRight prepared numerators = (c : ℕ) (ns : List ℕ) → numerators c ≡ Some ns → MatchOption (slice_get prepared c) ⊥ (λ f. IsReport f.slots ns)

pub right-of : (b : Book) → IsOrderlyOf b → AreRight b.conditions (numerators_on b.reports)
right-of b is c ns told = first (slice_get b.conditions c) (is.right c ns told)
  where
    first : (o : Option Facts) → MatchOption o ⊥ (λ f. IsReport f.slots ns × (f.oracle ≡ EXCHANGE → ⊥)) → MatchOption o ⊥ (λ f. IsReport f.slots ns)
    first None is = is
    first (Some f) is = is.0

-- a question's condition is prepared
pub question-within : (cs : List Facts) (c : ℕ) → IsQuestionIn cs c → c < length cs
question-within cs c is = by (slice_get cs c) refl is
  where
    by : (o : Option Facts) → slice_get cs c ≡ o → MatchOption o ⊥ (λ f. (f.oracle ≡ EXCHANGE) × (f.slots ≡ 2)) → c < length cs
    by None at none = absurd none
    by (Some f) at is = slice_get_within cs c f at

-- what is reported on it isn't
pub question-unreported : (cs : List Facts) (rs ans : List Payouts) (es : List EventView) (vs : List (List ℕ)) (c : ℕ) → IsOrderly cs rs ans es vs → IsQuestionIn cs c → numerators_on rs c ≡ None
question-unreported cs rs ans es vs c is own = by (numerators_on rs c) refl
  where
    both : (o : Option Facts) (ns : List ℕ) → MatchOption o ⊥ (λ f. (f.oracle ≡ EXCHANGE) × (f.slots ≡ 2)) → MatchOption o ⊥ (λ f. IsReport f.slots ns × (f.oracle ≡ EXCHANGE → ⊥)) → ⊥
    both None ns one two = one
    both (Some f) ns one two = two.1 one.0

    by : (o : Option (List ℕ)) → numerators_on rs c ≡ o → o ≡ None
    by None told = refl
    by (Some ns) told = absurd (both (slice_get cs c) ns own (is.right c ns told))

-- a condition that is another's isn't a question's
pub plain : (cs : List Facts) (c : ℕ) (f : Facts) → slice_get cs c ≡ Some f → (f.oracle ≡ EXCHANGE → ⊥) → IsQuestionIn cs c → ⊥
plain cs c f at other is =
    let own = MatchOption-at_some ⊥ (λ (g : Facts). (g.oracle ≡ EXCHANGE) × (g.slots ≡ 2)) f at is in
    other own.0

-- ---- an event that is made

-- a question by its event
asked-by : (es : List EventView) (e i c : ℕ) (event : EventView) → slice_get es e ≡ Some event → slice_get event.conditions i ≡ Some c → question_in es e i ≡ Some c
asked-by es e i c event at there = ap (option_and_then (λ (x : EventView). slice_get x.conditions i)) at ∙ there

-- what holds of each question of an event holds of all its conditions
pub each-question : (P : ℕ → Type 0) (es : List EventView) (e : ℕ) (event : EventView) → slice_get es e ≡ Some event → ((i c : ℕ) → question_in es e i ≡ Some c → P c) → All P event.conditions
each-question P es e event at each = λ i d inside. each i (get_or event.conditions i d) (asked-by es e i (get_or event.conditions i d) event at (slice_get-get_or event.conditions i d inside))

-- its conditions are prepared
pub event-known : (cs : List Facts) (rs ans : List Payouts) (es : List EventView) (vs : List (List ℕ)) (e : ℕ) → IsOrderly cs rs ans es vs → MatchOption (slice_get es e) ⊤ (λ event. All (λ c. c < length cs) event.conditions)
event-known cs rs ans es vs e is = by (slice_get es e) refl
  where
    by : (o : Option EventView) → slice_get es e ≡ o → MatchOption o ⊤ (λ event. All (λ c. c < length cs) event.conditions)
    by None at = tt
    by (Some event) at = each-question (λ (c : ℕ). c < length cs) es e event at (λ i c there. question-within cs c (is.questions e i c there))

-- and each is there once
pub event-distinct : (cs : List Facts) (rs ans : List Payouts) (es : List EventView) (vs : List (List ℕ)) (e : ℕ) (event : EventView) → IsOrderly cs rs ans es vs → slice_get es e ≡ Some event → AreDistinct event.conditions
event-distinct cs rs ans es vs e event is at i j c here there = (is.placed e e i j c (asked-by es e i c event at here) (asked-by es e j c event at there)).1

-- its questions are one of the lists of questions
pub event-listed : (es : List EventView) (e : ℕ) (event : EventView) → slice_get es e ≡ Some event → Contains (questions_of es) event.conditions
event-listed es e event at = listed (questions_of es) e event.conditions (slice_get-map (λ (x : EventView). x.conditions) es e ∙ ap (option_map (λ (x : EventView). x.conditions)) at)
  where
    listed : (lists : List (List ℕ)) (i : ℕ) (v : List ℕ) → slice_get lists i ≡ Some v → Contains lists v
    listed lists i v at = (i, slice_get_within lists i v at, get_or_from_slice_get lists i v v at)

-- ---- a condition is prepared, of another oracle

pub orderly-prepared : (cs : List Facts) (rs ans : List Payouts) (es : List EventView) (vs : List (List ℕ)) (f : Facts) → IsOrderly cs rs ans es vs → 2 ≤ f.slots → (f.oracle ≡ EXCHANGE → ⊥)
    → IsOrderly (cs ++ f ∷ []) rs ans es vs
orderly-prepared cs rs ans es vs f is some other = record {
  slots = λ c g at. elim (get-after cs (f ∷ []) c g at) [
    | inl there ↦ is.slots c g there
    | inr behind ↦ let same = only behind.0 g behind.2 in subst (λ (h : Facts). 2 ≤ h.slots) same some
  ];
  numbered = λ c g at own. elim (get-after cs (f ∷ []) c g at) [
    | inl there ↦ is.numbered c g there own
    | inr behind ↦ let same = only behind.0 g behind.2 in absurd (other (ap (λ (h : Facts). h.oracle) same ∙ own))
  ];
  questions = λ e i c at. holds-before (λ (g : Facts). (g.oracle ≡ EXCHANGE) × (g.slots ≡ 2)) cs (f ∷ []) c (is.questions e i c at);
  placed = is.placed;
  sizes = is.sizes;
  right = λ c ns told. holds-before (λ (g : Facts). IsReport g.slots ns × (g.oracle ≡ EXCHANGE → ⊥)) cs (f ∷ []) c (is.right c ns told);
  answers = λ c ns told. (holds-before (λ (g : Facts). (g.oracle ≡ EXCHANGE) × (g.slots ≡ 2)) cs (f ∷ []) c (is.answers c ns told).0, (is.answers c ns told).1);
  winners = is.winners;
  converted = is.converted;
}
  where
    only : (j : ℕ) (g : Facts) → slice_get (f ∷ []) j ≡ Some g → f ≡ g
    only zero g at = cc
    only (suc j) g at = cc

-- ---- an event is made

-- a question's facts, by its place
questions-at : (e place n j : ℕ) (f : Facts) → slice_get (questions_from e place n) j ≡ Some f → (j < n) × (f ≡ question_facts e (place + j))
questions-at e place zero j f at = cc
questions-at e place (suc n) zero f at =
    let same : question_facts e place ≡ f = cc in
    let here : place + 0 ≡ place = omega arith in
    (omega arith, sym same ∙ ap (question_facts e) (sym here))
questions-at e place (suc n) (suc j) f at =
    let rest = questions-at e (suc place) n j f at in
    let here : suc place + j ≡ place + suc j = omega arith in
    (omega (arith, rest.0), rest.1 ∙ ap (question_facts e) here)

questions-there : (e place n j : ℕ) → j < n → slice_get (questions_from e place n) j ≡ Some (question_facts e (place + j))
questions-there e place zero j inside = absurd (omega arith)
questions-there e place (suc n) zero inside = ap (λ p. Some (question_facts e p)) (omega arith)
questions-there e place (suc n) (suc j) inside = questions-there e (suc place) n j (omega arith) ∙ ap (λ p. Some (question_facts e p)) (omega arith)

pub questions-many : (e place n : ℕ) → length (questions_from e place n) ≡ n
questions-many e place zero = refl
questions-many e place (suc n) = omega (arith, questions-many e (suc place) n)

-- the number at a place
numbers-at : (first n i c : ℕ) → slice_get (numbers_from first n) i ≡ Some c → (i < n) × (c ≡ first + i)
numbers-at first zero i c at = cc
numbers-at first (suc n) zero c at = let same : first ≡ c = cc in (omega arith, omega (arith, same))
numbers-at first (suc n) (suc i) c at = let rest = numbers-at (suc first) n i c at in (omega (arith, rest.0), omega (arith, rest.1))

numbers-many : (first n : ℕ) → length (numbers_from first n) ≡ n
numbers-many first zero = refl
numbers-many first (suc n) = omega (arith, numbers-many (suc first) n)

-- a question of these events is one of those there were, or of the last
question-cases : (es : List EventView) (new : EventView) (e i c : ℕ) → question_in (es ++ new ∷ []) e i ≡ Some c → (question_in es e i ≡ Some c) ⊎ ((e ≡ length es) × (slice_get new.conditions i ≡ Some c))
question-cases es new e i c at = option_and_then_some (λ (event : EventView). slice_get event.conditions i) (slice_get (es ++ new ∷ []) e) c at by
  where
    by : (event : EventView) → slice_get (es ++ new ∷ []) e ≡ Some event → slice_get event.conditions i ≡ Some c → (question_in es e i ≡ Some c) ⊎ ((e ≡ length es) × (slice_get new.conditions i ≡ Some c))
    by event there found =
        elim (get-after es (new ∷ []) e event there) [
          | inl before ↦ inl (ap (option_and_then (λ (x : EventView). slice_get x.conditions i)) before ∙ found)
          | inr behind ↦ last behind.0 behind.1 behind.2
        ]
      where
        last : (j : ℕ) → e ≡ length es + j → slice_get (new ∷ []) j ≡ Some event → (question_in es e i ≡ Some c) ⊎ ((e ≡ length es) × (slice_get new.conditions i ≡ Some c))
        last zero place is = let same : new ≡ event = cc in inr (omega (arith, place), ap (λ (x : EventView). slice_get x.conditions i) same ∙ found)
        last (suc j) place is = cc

-- of the events there were the winners are as before
winner-before : (es : List EventView) (new : EventView) (e i : ℕ) → winner_in es e ≡ Some i → winner_in (es ++ new ∷ []) e ≡ Some i
winner-before es new e i won = option_and_then_some (λ (event : EventView). event.winner) (slice_get es e) i won by
  where
    by : (event : EventView) → slice_get es e ≡ Some event → event.winner ≡ Some i → winner_in (es ++ new ∷ []) e ≡ Some i
    by event there is = ap (option_and_then (λ (x : EventView). x.winner)) (get-before es (new ∷ []) e event there) ∙ is

pub orderly-made : (cs : List Facts) (rs ans : List Payouts) (es : List EventView) (vs : List (List ℕ)) (oracle fee n : ℕ) → IsOrderly cs rs ans es vs → n ≤ 32 → fee ≤ 10000
    → IsOrderly (cs ++ questions_from (length es) 0 n) rs ans (es ++ record { oracle = oracle; bips = fee; conditions = numbers_from (length cs) n; winner = None } ∷ []) vs
orderly-made cs rs ans es vs oracle fee n is few low = record {
  slots = λ c f at. elim (get-after cs qs c f at) [
    | inl there ↦ is.slots c f there
    | inr behind ↦
        let made = questions-at (length es) 0 n behind.0 f behind.2 in
        let two : f.slots ≡ 2 = ap (λ (g : Facts). g.slots) made.1 in
        omega (arith, two)
  ];
  numbered = λ c f at own. elim (get-after cs qs c f at) [
    | inl there ↦ omega (arith, is.numbered c f there own, many)
    | inr behind ↦
        let made = questions-at (length es) 0 n behind.0 f behind.2 in
        let number : f.question ≡ 32 * length es + (0 + behind.0) = ap (λ (g : Facts). g.question) made.1 in
        omega (arith, number, made.0, few, many)
  ];
  questions = λ e i c at. elim (question-cases es new e i c at) [
    | inl there ↦ holds-before (λ (f : Facts). (f.oracle ≡ EXCHANGE) × (f.slots ≡ 2)) cs qs c (is.questions e i c there)
    | inr last ↦
        let numbers = numbers-at (length cs) n i c last.1 in
        let there : slice_get (cs ++ qs) c ≡ Some (question_facts (length es) (0 + i))
        = ap (slice_get (cs ++ qs)) numbers.1 ∙ (get-behind cs qs i ∙ questions-there (length es) 0 n i numbers.0) in
        subst (λ (o : Option Facts). MatchOption o ⊥ (λ f. (f.oracle ≡ EXCHANGE) × (f.slots ≡ 2))) (sym there) (refl, refl)
  ];
  placed = λ d e i j c at there. elim (question-cases es new d i c at) [
    | inl first ↦ elim (question-cases es new e j c there) [
      | inl second ↦ is.placed d e i j c first second
      | inr last ↦ absurd (omega (arith, question-within cs c (is.questions d i c first), (numbers-at (length cs) n j c last.1).1))
    ]
    | inr one ↦ elim (question-cases es new e j c there) [
      | inl second ↦ absurd (omega (arith, question-within cs c (is.questions e j c second), (numbers-at (length cs) n i c one.1).1))
      | inr two ↦ (omega (arith, one.0, two.0), omega (arith, (numbers-at (length cs) n i c one.1).1, (numbers-at (length cs) n j c two.1).1))
    ]
  ];
  sizes = λ e event at. elim (get-after es (new ∷ []) e event at) [
    | inl there ↦ is.sizes e event there
    | inr behind ↦ size behind.0 event behind.2
  ];
  right = λ c ns told. holds-before (λ (f : Facts). IsReport f.slots ns × (f.oracle ≡ EXCHANGE → ⊥)) cs qs c (is.right c ns told);
  answers = λ c ns told. (holds-before (λ (f : Facts). (f.oracle ≡ EXCHANGE) × (f.slots ≡ 2)) cs qs c (is.answers c ns told).0, (is.answers c ns told).1);
  winners = λ e i c at told. elim (question-cases es new e i c at) [
    | inl there ↦ winner-before es new e i (is.winners e i c there told)
    | inr last ↦ absurd (omega (arith, question-within cs c (is.answers c yes told).0, (numbers-at (length cs) n i c last.1).1))
  ];
  converted = All-weaker (Contains (questions_of es)) (Contains (questions_of (es ++ new ∷ [])))
      (λ v has. subst (λ (lists : List (List ℕ)). Contains lists v) (sym (map-append (λ (event : EventView). event.conditions) es (new ∷ []))) (Contains-append_left (questions_of es) (questions_of (new ∷ [])) v has)) vs is.converted;
}
  where
    qs : List Facts
    qs = questions_from (length es) 0 n

    new : EventView
    new = record { oracle = oracle; bips = fee; conditions = numbers_from (length cs) n; winner = None }

    many : length (es ++ new ∷ []) ≡ length es + 1
    many = length-append es (new ∷ [])

    size : (j : ℕ) (event : EventView) → slice_get (new ∷ []) j ≡ Some event → (length event.conditions ≤ 32) × (event.bips ≤ 10000)
    size zero event at =
        let same : new ≡ event = cc in
        subst (λ (x : EventView). (length x.conditions ≤ 32) × (x.bips ≤ 10000)) same (omega (arith, few, numbers-many (length cs) n), low)
    size (suc j) event at = cc

-- ---- a condition that is no question's is reported

-- two numbers that are the one and not the other differ
other-place : (r c d : ℕ) → (r == d) ≡ true → (r == c) ≡ false → (d == c) ≡ false
other-place r c d here other = grind (arith, nat_tests, here, other)

-- one thing more told among others, on a condition of which nothing was
pub numerators-put : (xs ys : List Payouts) (c : ℕ) (ns : List ℕ) (d : ℕ) → numerators_on (xs ++ ys) c ≡ None
    → numerators_on (xs ++ record { condition = c; numerators = ns } ∷ ys) d ≡ cond (d == c) (Some ns) (numerators_on (xs ++ ys) d)
numerators-put [] ys c ns d none = by (c == d) (d == c) (grind (arith, nat_tests))
  where
    by : (b e : Bool) → b ≡ e → cond b (Some ns) (numerators_on ys d) ≡ cond e (Some ns) (numerators_on ys d)
    by b e same = ap (λ x. cond x (Some ns) (numerators_on ys d)) same
numerators-put (r ∷ rs) ys c ns d none =
    elim (cases_Bool (r.condition == d)) [
      | inl here ↦
          let other : (d == c) ≡ false = other-place r.condition c d here (missed (r.condition == c) none) in
          rw (here, other) refl
      | inr past ↦ rw past (numerators-put rs ys c ns d (rest (r.condition == c) none))
    ]
  where
    missed : (b : Bool) → cond b (Some r.numerators) (numerators_on (rs ++ ys) c) ≡ None → b ≡ false
    missed true e = cc
    missed false e = refl

    rest : (b : Bool) → cond b (Some r.numerators) (numerators_on (rs ++ ys) c) ≡ None → numerators_on (rs ++ ys) c ≡ None
    rest true e = cc
    rest false e = e

-- or behind them
pub numerators-more : (told : List Payouts) (c : ℕ) (ns : List ℕ) (d : ℕ) → numerators_on told c ≡ None
    → numerators_on (told ++ record { condition = c; numerators = ns } ∷ []) d ≡ cond (d == c) (Some ns) (numerators_on told d)
numerators-more told c ns d none =
    numerators-put told [] c ns d (ap (λ xs. numerators_on xs c) (append-nil told) ∙ none) ∙ ap (λ xs. cond (d == c) (Some ns) (numerators_on xs d)) (append-nil told)

-- what is told with one thing more is that, or was told before
told-cases : (told : List Payouts) (c : ℕ) (ns : List ℕ) (d : ℕ) (ms : List ℕ) → numerators_on told c ≡ None → numerators_on (told ++ record { condition = c; numerators = ns } ∷ []) d ≡ Some ms
    → ((d ≡ c) × (ns ≡ ms)) ⊎ (numerators_on told d ≡ Some ms)
told-cases told c ns d ms none is = by (d == c) refl (sym (numerators-more told c ns d none) ∙ is)
  where
    by : (b : Bool) → (d == c) ≡ b → cond b (Some ns) (numerators_on told d) ≡ Some ms → ((d ≡ c) × (ns ≡ ms)) ⊎ (numerators_on told d ≡ Some ms)
    by true here e = let same : ns ≡ ms = cc in inl (eqb-true d c here, same)
    by false here e = inr e

pub orderly-reported : (cs : List Facts) (rs ans : List Payouts) (es : List EventView) (vs : List (List ℕ)) (c : ℕ) (ns : List ℕ) → IsOrderly cs rs ans es vs → numerators_on rs c ≡ None → MayBeReported cs c ns
    → IsOrderly cs (rs ++ record { condition = c; numerators = ns } ∷ []) ans es vs
orderly-reported cs rs ans es vs c ns is none may = record {
  slots = is.slots;
  numbered = is.numbered;
  questions = is.questions;
  placed = is.placed;
  sizes = is.sizes;
  right = λ d ms told. elim (told-cases rs c ns d ms none told) [
    | inl here ↦ subst (λ (x : ℕ). MayBeReported cs x ms) (sym here.0) (subst (λ (xs : List ℕ). MayBeReported cs c xs) here.1 may)
    | inr before ↦ is.right d ms before
  ];
  answers = is.answers;
  winners = is.winners;
  converted = is.converted;
}

-- ---- a question is answered

-- an answer changes no event's questions
pub questions-answered : (es : List EventView) (e question : ℕ) (won : Bool) (o : Option EventView) → slice_get es e ≡ o → questions_of (answered_in es e question won o) ≡ questions_of es
questions-answered es e question won None at = refl
questions-answered es e question won (Some event) at = set-same (λ (x : EventView). x.conditions) es e event (answered event question (answer_of won)) at (same won)
  where
    same : (b : Bool) → (answered event question (answer_of b)).conditions ≡ event.conditions
    same true = refl
    same false = refl

-- a question by the questions of each event
question-by : (es : List EventView) (e i : ℕ) → question_in es e i ≡ option_and_then (λ qs. slice_get qs i) (slice_get (questions_of es) e)
question-by es e i = by (slice_get es e) ∙ ap (option_and_then (λ (qs : List ℕ). slice_get qs i)) (sym (slice_get-map (λ (event : EventView). event.conditions) es e))
  where
    by : (o : Option EventView) → option_and_then (λ (event : EventView). slice_get event.conditions i) o ≡ option_and_then (λ (qs : List ℕ). slice_get qs i) (option_map (λ (event : EventView). event.conditions) o)
    by None = refl
    by (Some event) = refl

pub question-answered : (es : List EventView) (e question : ℕ) (won : Bool) (o : Option EventView) → slice_get es e ≡ o → (d i : ℕ) → question_in (answered_in es e question won o) d i ≡ question_in es d i
question-answered es e question won o at d i =
    question-by (answered_in es e question won o) d i
    ∙ (ap (λ (lists : List (List ℕ)). option_and_then (λ (qs : List ℕ). slice_get qs i) (slice_get lists d)) (questions-answered es e question won o at) ∙ sym (question-by es d i))

-- there are as many
pub events-answered : (es : List EventView) (e question : ℕ) (won : Bool) (o : Option EventView) → slice_get es e ≡ o → length (answered_in es e question won o) ≡ length es
events-answered es e question won o at =
    sym (length-map (answered_in es e question won o) (λ (event : EventView). event.conditions))
    ∙ (ap length (questions-answered es e question won o at) ∙ length-map es (λ (event : EventView). event.conditions))

-- an event after an answer, or as before
answered-cases : (es : List EventView) (e question : ℕ) (won : Bool) (event : EventView) → slice_get es e ≡ Some event → (d : ℕ) (x : EventView) → slice_get (answered_in es e question won (Some event)) d ≡ Some x
    → ((d ≡ e) × (answered event question (answer_of won) ≡ x)) ⊎ ((d ≢ e) × (slice_get es d ≡ Some x))
answered-cases es e question won event at d x there =
    elim (cases_eq d e) [
      | inl same ↦
          let here = set-here es e event (answered event question (answer_of won)) at in
          let both : Some (answered event question (answer_of won)) ≡ Some x = sym here ∙ (ap (slice_get (slice_set es e (answered event question (answer_of won)))) (sym same) ∙ there) in
          inl (same, value both)
      | inr other ↦ inr (other, sym (set-elsewhere es e d (answered event question (answer_of won)) other) ∙ there)
    ]
  where
    value : {a b : EventView} → ◌≡◌ {A = Option EventView} (Some a) (Some b) → a ≡ b
    value e = cc

-- no answer changes what a conversion costs
same-size : (event : EventView) (question : ℕ) (won : Bool) → (length event.conditions ≤ 32) × (event.bips ≤ 10000) → (length (answered event question (answer_of won)).conditions ≤ 32) × ((answered event question (answer_of won)).bips ≤ 10000)
same-size event question true is = is
same-size event question false is = is

-- what is answered is YES or NO
pub answer-form : (won : Bool) → IsAnswer (answer_of won)
answer-form true = inl refl
answer-form false = inr refl

pub orderly-answered : (cs : List Facts) (rs ans : List Payouts) (es : List EventView) (vs : List (List ℕ)) (e question c : ℕ) (won : Bool) (event : EventView) → IsOrderly cs rs ans es vs
    → slice_get es e ≡ Some event → slice_get event.conditions question ≡ Some c → numerators_on ans c ≡ None → (won ≡ true → event.winner ≡ None)
    → IsOrderly cs rs (ans ++ record { condition = c; numerators = answer_of won } ∷ []) (answered_in es e question won (Some event)) vs
orderly-answered cs rs ans es vs e question c won event is at asked none first = record {
  slots = is.slots;
  numbered = λ d f there own. subst (λ (n : ℕ). f.question < 32 * n) (sym (events-answered es e question won (Some event) at)) (is.numbered d f there own);
  questions = λ d i b there. is.questions d i b (sym (question-answered es e question won (Some event) at d i) ∙ there);
  placed = λ d f i j b there other. is.placed d f i j b (sym (question-answered es e question won (Some event) at d i) ∙ there) (sym (question-answered es e question won (Some event) at f j) ∙ other);
  sizes = λ d x there. elim (answered-cases es e question won event at d x there) [
    | inl here ↦ subst (λ (y : EventView). (length y.conditions ≤ 32) × (y.bips ≤ 10000)) here.1 (same-size event question won (is.sizes e event at))
    | inr before ↦ is.sizes d x before.1
  ];
  right = is.right;
  answers = λ d ms told. elim (told-cases ans c (answer_of won) d ms none told) [
    | inl here ↦ (subst (λ (x : ℕ). IsQuestionIn cs x) (sym here.0) (is.questions e question c own), subst (λ (xs : List ℕ). IsAnswer xs) here.1 (answer-form won))
    | inr before ↦ is.answers d ms before
  ];
  winners = λ d i b there told.
      let question_there : question_in es d i ≡ Some b = sym (question-answered es e question won (Some event) at d i) ∙ there in
      elim (told-cases ans c (answer_of won) b yes none told) [
        | inl here ↦
            let place = is.placed d e i question c (subst (λ (x : ℕ). question_in es d i ≡ Some x) here.0 question_there) own in
            subst (λ (x : ℕ). winner_in es' x ≡ Some i) (sym place.0) (subst (λ (x : ℕ). winner_in es' e ≡ Some x) (sym place.1) (won-here won here.1))
        | inr before ↦ kept d i (is.winners d i b question_there before)
      ];
  converted = subst (λ (lists : List (List ℕ)). All (Contains lists) vs) (sym (questions-answered es e question won (Some event) at)) is.converted;
}
  where
    es' : List EventView
    es' = answered_in es e question won (Some event)

    own : question_in es e question ≡ Some c
    own = ap (option_and_then (λ (x : EventView). slice_get x.conditions question)) at ∙ asked

    here-now : slice_get es' e ≡ Some (answered event question (answer_of won))
    here-now = set-here es e event (answered event question (answer_of won)) at

    -- where the answer is YES the question wins
    won-here : (b : Bool) → answer_of b ≡ yes → winner_in (slice_set es e (answered event question (answer_of b))) e ≡ Some question
    won-here true is = ap (option_and_then (λ (x : EventView). x.winner)) (set-here es e event (answered event question yes) at)
    won-here false is = cc

    -- whoever won before has won
    kept : (d i : ℕ) → winner_in es d ≡ Some i → winner_in es' d ≡ Some i
    kept d i before = option_and_then_some (λ (x : EventView). x.winner) (slice_get es d) i before by
      where
        by : (x : EventView) → slice_get es d ≡ Some x → x.winner ≡ Some i → winner_in es' d ≡ Some i
        by x there is = elim (cases_eq d e) [
          | inl same ↦
              let event_is : Some x ≡ Some event = sym there ∙ (ap (slice_get es) same ∙ at) in
              let wins : event.winner ≡ Some i = subst (λ (y : EventView). y.winner ≡ Some i) (value event_is) is in
              ap (winner_in es') same ∙ (ap (option_and_then (λ (y : EventView). y.winner)) here-now ∙ still won first wins)
          | inr other ↦ ap (option_and_then (λ (y : EventView). y.winner)) (set-elsewhere es e d (answered event question (answer_of won)) other ∙ there) ∙ is
        ]
          where
            value : {a b : EventView} → ◌≡◌ {A = Option EventView} (Some a) (Some b) → a ≡ b
            value e = cc

            clash : (n : ℕ) → ◌≡◌ {A = Option ℕ} None (Some n) → ⊥
            clash n e = cc

            still : (b : Bool) → (b ≡ true → event.winner ≡ None) → event.winner ≡ Some i → (answered event question (answer_of b)).winner ≡ Some i
            still true nobody wins = absurd (clash i (sym (nobody refl) ∙ wins))
            still false nobody wins = wins

-- ---- a conversion

pub orderly-converted : (cs : List Facts) (rs ans : List Payouts) (es : List EventView) (vs : List (List ℕ)) (v : List ℕ) → IsOrderly cs rs ans es vs → Contains (questions_of es) v
    → IsOrderly cs rs ans es (vs ++ v ∷ [])
orderly-converted cs rs ans es vs v is has = record {
  slots = is.slots;
  numbered = is.numbered;
  questions = is.questions;
  placed = is.placed;
  sizes = is.sizes;
  right = is.right;
  answers = is.answers;
  winners = is.winners;
  converted = All-push (Contains (questions_of es)) vs v is.converted has;
}
