-- The first place with which more went out than came in, found from the left.
use Rattle.std.proofs.Common.{◌≡◌, ℕ, suc, ◌+◌, ◌-◌, ◌<◌, ◌≤◌, Bool, true, false, List, [], length, zero, Option, Some, None, take, get_or, refl, ap, subst, ◌∙◌, arith}
use Rattle.std.specs.Prelude.{nat_lt, ◌||◌, if◌then◌else◌}
use Rattle.std.proofs.lemmas.Bool.{lt-ltb, le-ltb, ltb-false}
use Rattle.std.proofs.lemmas.List.{take_all}
use Rattle.std.proofs.lemmas.List.Sums.{sum_by_more}
use Rattle.match_kinds.specs.Matching.{all_paid_in, all_paid_out, all_taken_in, all_taken_out, flow_of}
use Rattle.match_kinds.specs.Settling.{runs_short, short_from, short_place}
use Rattle.match_kinds.specs.declared.part.Part.{Part}

first_true : (a b : Bool) → a ≡ true → (a || b) ≡ true
first_true true b holds = refl
first_true false b holds = cc

second_true : (a b : Bool) → b ≡ true → (a || b) ≡ true
second_true true b holds = refl
second_true false b holds = holds

both_false : (a b : Bool) → a ≡ false → b ≡ false → (a || b) ≡ false
both_false true b first second = cc
both_false false b first second = second

-- sums of so many makers
pub record AreSums (taker : Part) (makers : List Part) (a b c d : ℕ) : Type 0 where
  pub paid_in : a ≡ all_paid_in taker makers
  pub paid_out : b ≡ all_paid_out taker makers
  pub taken_in : c ≡ all_taken_in taker makers
  pub taken_out : d ≡ all_taken_out taker makers

module _ (taker : Part) (makers : List Part) (paid_in paid_out taken_in taken_out : ℕ) (sums : AreSums taker makers paid_in paid_out taken_in taken_out) where
  pub paid_short : paid_in < paid_out → runs_short taker makers ≡ true
  paid_short less = first_true _ (nat_lt (all_taken_in taker makers) (all_taken_out taker makers)) (lt-ltb (all_paid_in taker makers) (all_paid_out taker makers) (omega (arith, less, sums.paid_in, sums.paid_out)))

  pub taken_short : taken_in < taken_out → runs_short taker makers ≡ true
  taken_short less = second_true (nat_lt (all_paid_in taker makers) (all_paid_out taker makers)) _ (lt-ltb (all_taken_in taker makers) (all_taken_out taker makers) (omega (arith, less, sums.taken_in, sums.taken_out)))

  pub neither_short : paid_out ≤ paid_in → taken_out ≤ taken_in → runs_short taker makers ≡ false
  neither_short paid taken =
      both_false _ _ (le-ltb (all_paid_in taker makers) (all_paid_out taker makers) (omega (arith, paid, sums.paid_in, sums.paid_out)))
      (le-ltb (all_taken_in taker makers) (all_taken_out taker makers) (omega (arith, taken, sums.taken_in, sums.taken_out)))

-- none of the first so many places is short: the first that is one is behind them
abbrev pub IsEnoughTo : Part → List Part → ℕ → Type 0
IsEnoughTo taker makers i = short_from taker makers 1 (length makers) ≡ short_from taker makers (i + 1) (length makers - i)

module _ (taker : Part) (makers : List Part) (i : ℕ) (inside : i < length makers) (so_far : IsEnoughTo taker makers i) where
  more : length makers - i ≡ suc (length makers - (i + 1))
  more = omega arith

  stopped : (place n : ℕ) → runs_short taker (take place makers) ≡ true → short_from taker makers place (suc n) ≡ Some place
  stopped place n short = rw short refl

  passed : (place n : ℕ) → runs_short taker (take place makers) ≡ false → short_from taker makers place (suc n) ≡ short_from taker makers (suc place) n
  passed place n enough = rw enough refl

  pub short_there : runs_short taker (take (i + 1) makers) ≡ true → short_place taker makers ≡ Some (i + 1)
  short_there short = so_far ∙ ap (short_from taker makers (i + 1)) more ∙ stopped (i + 1) (length makers - (i + 1)) short

  pub enough_more : runs_short taker (take (i + 1) makers) ≡ false → IsEnoughTo taker makers (i + 1)
  enough_more enough =
      let next : suc (i + 1) ≡ i + 1 + 1 = omega arith in
      so_far ∙ ap (short_from taker makers (i + 1)) more ∙ passed (i + 1) (length makers - (i + 1)) enough ∙ ap (λ (n : ℕ). short_from taker makers n (length makers - (i + 1))) next

-- the sums with one maker more
pub sums_more : (taker : Part) (makers : List Part) (i : ℕ) (m : Part) (a b c d p q r s : ℕ) → i < length makers → m ≡ get_or makers i m → AreSums taker (take i makers) a b c d
    → p ≡ (flow_of taker m).paid_in → q ≡ (flow_of taker m).paid_out → r ≡ (flow_of taker m).taken_in → s ≡ (flow_of taker m).taken_out
    → AreSums taker (take (i + 1) makers) (a + p) (b + q) (c + r) (d + s)
sums_more taker makers i m a b c d p q r s inside item sums paid_in paid_out taken_in taken_out =
    let f = λ (x : Part). (flow_of taker x).paid_in in
    let g = λ (x : Part). (flow_of taker x).paid_out in
    let h = λ (x : Part). (flow_of taker x).taken_in in
    let k = λ (x : Part). (flow_of taker x).taken_out in
    record {
      paid_in = omega (arith, sums.paid_in, paid_in, sum_by_more f makers i m inside, ap f item);
      paid_out = omega (arith, sums.paid_out, paid_out, sum_by_more g makers i m inside, ap g item);
      taken_in = omega (arith, sums.taken_in, taken_in, sum_by_more h makers i m inside, ap h item);
      taken_out = omega (arith, sums.taken_out, taken_out, sum_by_more k makers i m inside, ap k item);
    }

-- ---- where no place is short

neither_true : (a b : Bool) → (a || b) ≡ false → (a ≡ false) × (b ≡ false)
neither_true true b neither = cc
neither_true false b neither = (refl, neither)

found_none : (short : Bool) (place : ℕ) (rest : Option ℕ) → (if short then Some place else rest) ≡ None → (short ≡ false) × (rest ≡ None)
found_none true place rest none = cc
found_none false place rest none = (refl, none)

-- the last of so many isn't either
last-enough : (taker : Part) (makers : List Part) (place n : ℕ) → short_from taker makers place (suc n) ≡ None → runs_short taker (take (place + n) makers) ≡ false
last-enough taker makers place zero none =
    let here = found_none (runs_short taker (take place makers)) place (short_from taker makers (suc place) zero) none in
    let at : place + 0 ≡ place = omega arith in
    rw at here.0
last-enough taker makers place (suc n) none =
    let here = found_none (runs_short taker (take place makers)) place (short_from taker makers (suc place) (suc n)) none in
    let at : place + suc n ≡ suc place + n = omega arith in
    rw at (last-enough taker makers (suc place) n here.1)

all-enough : (taker : Part) (makers : List Part) (n : ℕ) → short_from taker makers 1 n ≡ None → runs_short taker (take n makers) ≡ false
all-enough taker makers zero none = neither_short taker [] taker.fill 0 0 0 (record { paid_in = omega arith; paid_out = refl; taken_in = refl; taken_out = refl }) (omega arith) (omega arith)
all-enough taker makers (suc n) none =
    let at : suc n ≡ 1 + n = omega arith in
    rw at (last-enough taker makers 1 n none)

-- with all makers no more goes out than came in
pub none_short : (taker : Part) (makers : List Part) → short_place taker makers ≡ None → (all_paid_out taker makers ≤ all_paid_in taker makers) × (all_taken_out taker makers ≤ all_taken_in taker makers)
none_short taker makers none =
    let enough : runs_short taker makers ≡ false = subst (λ (ms : List Part). runs_short taker ms ≡ false) (take_all (length makers) makers (omega arith)) (all-enough taker makers (length makers) none) in
    let both = neither_true (nat_lt (all_paid_in taker makers) (all_paid_out taker makers)) (nat_lt (all_taken_in taker makers) (all_taken_out taker makers)) enough in
    (ltb-false _ _ both.0, ltb-false _ _ both.1)
