-- A match of a taker with fillings of its candidates is never short, and its taker gets what its limit wants.
use Rattle.std.proofs.Common.{◌≡◌, ℕ, zero, suc, ◌+◌, ◌-◌, ◌*◌, ◌/◌, ◌<◌, ◌≤◌, Bool, true, false, cond, List, [], ◌∷◌, length, take, Option, Some, None, All, refl, sym, ap, subst, ◌∙◌, arith, inl, inr}
use Rattle.std.specs.Prelude.{⊤, ◌==◌, ◌&&◌, ◌||◌, is_some, nat_le, nat_lt, not, option_and_then, sum_by}
use Rattle.std.proofs.Math.Nat.{div-mul-le_self, div-le_of_le-mul, le_of_mul-le-mul_left, mul-le-mul_left, mul-le-mul_right}
use Rattle.std.proofs.lemmas.Bool.{and_parts, cases_Bool, le-ltb, leb-true, ltb-true}
use Rattle.std.proofs.lemmas.Bool.Decides.{nat_tests}
use Rattle.std.proofs.lemmas.List.Elements.{All-head, All-tail, All-take}
use Rattle.std.proofs.lemmas.List.Sums.{sum_by-cons, sum_by-take-le}
use Rattle.std.proofs.lemmas.Nat.{le-div}
use Rattle.std.proofs.lemmas.Option.{cond_some}
use Rattle.book_propose.specs.Candidates.{buys_exactly, crosses_by, fit_with, is_candidate, is_crossing, is_crossing_exactly, kind_with}
use Rattle.book_propose.specs.Proposals.{Filling}
use Rattle.book_shelves.specs.declared.offer.Offer.{Offer}
use Rattle.match_kinds.specs.Matching.{Flow, all_paid_in, all_paid_out, all_taken_in, all_taken_out, flow_by, flow_of, got_of}
use Rattle.match_kinds.specs.Settling.{floor_of, runs_short, short_from, short_place, too_little}
use Rattle.match_kinds.specs.declared.part.Part.{Part}
use Rattle.order_rules.specs.Crossing.{buyer_by}
use Rattle.order_rules.specs.Fits.{can_fit, fill_of, fit_of, fitted_by, if_fitted, is_fitted, spent_of}
use Rattle.order_rules.specs.Kinds.{kind_of}
use Rattle.order_rules.specs.Orders.{Terms}
use Rattle.order_rules.specs.Prices.{taking_of}
use Rattle.order_rules.specs.declared.fits.Fitted.{Fitted}
use Rattle.order_rules.specs.declared.kinds.MatchKind.{MatchKind}
use Rattle.order_rules.specs.declared.kinds.MatchKind.TheVariants.{Complementary, Mint, Merge}
use Rattle.order_rules.specs.declared.side.Side.{Side}
use Rattle.order_rules.specs.declared.side.Side.TheVariants.{Buy, Sell}

-- ---- parts and fillings

-- a part of a match is an offer with its fill
pub record IsPartOf (offer : Offer) (fill : ℕ) (part : Part) : Type 0 where
  pub account : part.account ≡ offer.account
  pub token : part.token ≡ offer.token
  pub limit : part.limit ≡ offer.limit
  pub filled : part.fill ≡ fill

-- the parts of the makers, one for each filling
abbrev pub ArePartsOf : List Filling → List Part → Type 0
ArePartsOf [] [] = ⊤
ArePartsOf (f ∷ fs) (p ∷ ps) = IsPartOf f.maker f.fitted.fill p × ArePartsOf fs ps
ArePartsOf fs ps = ⊥

-- a filling of a candidate
pub record IsFilledOf (taker : Offer) (f : Filling) : Type 0 where
  pub candidate : is_candidate taker f.maker ≡ true
  pub fits : (left : ℕ) × (fit_with taker f.maker left ≡ Some f.fitted)
  pub making : 1 ≤ f.maker.limit.making
  pub taking : 1 ≤ f.maker.limit.taking

-- ---- amounts

-- A fill f of a limit that makes m and takes b takes t. Where b * d is at most m * w, t * d is at most f * w.
taken-le : (f t m b d w : ℕ) → 1 ≤ m → t * m ≤ f * b → b * d ≤ m * w → t * d ≤ f * w
taken-le f t m b d w some taken worth =
    let filled : t * m * d ≤ f * b * d = mul-le-mul_right d taken in
    let paid : f * (b * d) ≤ f * (m * w) = mul-le-mul_left f worth in
    let whole : m * (t * d) ≤ m * (f * w) = omega (arith, filled, paid) in
    le_of_mul-le-mul_left whole some

-- Of two buyers the maker pays f of the cash for t pairs, and the taker the rest, s.
minted-more : (f s t m b ma d : ℕ) → 1 ≤ m → t ≡ f + s → t * m ≤ f * b → (ma + d) * b ≤ ma * b + m * (ma + d) → s * (ma + d) ≤ t * ma
minted-more f s t m b ma d some split taken crossed =
    let worth : b * d ≤ m * (ma + d) = omega (arith, crossed) in
    let more : t * d ≤ f * (ma + d) = taken-le f t m b d (ma + d) some taken worth in
    let whole : t * (ma + d) ≡ (f + s) * (ma + d) = ap (λ (k : ℕ). k * (ma + d)) split in
    omega (arith, more, whole)

minted-less : (f s t ma ta : ℕ) → t ≡ f + s → ta ≤ ma → s * ta ≤ t * ma
minted-less f s t ma ta split less =
    let first : s * ta ≤ s * ma = mul-le-mul_left s less in
    let whole : t * ma ≡ (f + s) * ma = ap (λ (k : ℕ). k * ma) split in
    omega (arith, first, whole)

minted : (f s t m b ma ta : ℕ) → 1 ≤ m → t ≡ f + s → t * m ≤ f * b → ta * b ≤ ma * b + m * ta → s * ta ≤ t * ma
minted f s t m b ma ta some split taken crossed =
    elim (cases_Bool (nat_le ta ma)) [
      | inl less ↦ minted-less f s t ma ta split (leb-true ta ma less)
      | inr more ↦
          let above : ta ≡ ma + (ta - ma) = grind (arith, nat_tests, more) in
          let crossed_by : (ma + (ta - ma)) * b ≤ ma * b + m * (ma + (ta - ma)) = subst (λ (x : ℕ). x * b ≤ ma * b + m * x) above crossed in
          subst (λ (x : ℕ). s * x ≤ t * ma) (sym above) (minted-more f s t m b ma (ta - ma) some split taken crossed_by)
    ]

-- Of two sellers each gives f tokens for f of cash, and the maker takes t of it.
merged-by : (f t m b ta d : ℕ) → 1 ≤ m → t * m ≤ f * b → ta * m + b * (ta + d) ≤ (ta + d) * m → f * ta + t * (ta + d) ≤ f * (ta + d)
merged-by f t m b ta d some taken crossed =
    let worth : b * (ta + d) ≤ m * d = omega (arith, crossed) in
    let less : t * (ta + d) ≤ f * d = taken-le f t m b (ta + d) d some taken worth in
    omega (arith, less)

merged : (f t m b ma ta : ℕ) → 1 ≤ m → t * m ≤ f * b → ta * m + b * ma ≤ ma * m → f * ta + t * ma ≤ f * ma
merged f t m b ma ta some taken crossed =
    let scaled : m * ta ≤ m * ma = omega (arith, crossed) in
    let below : ta ≤ ma = le_of_mul-le-mul_left scaled some in
    let above : ma ≡ ta + (ma - ta) = omega (arith, below) in
    let crossed_by : ta * m + b * (ta + (ma - ta)) ≤ (ta + (ma - ta)) * m = subst (λ (x : ℕ). ta * m + b * x ≤ x * m) above crossed in
    subst (λ (x : ℕ). f * ta + t * x ≤ f * x) (sym above) (merged-by f t m b ta (ma - ta) some taken crossed_by)

-- ---- one maker

-- What goes out of what the taker pays is what comes in of it and what is spent, and the taker gets at least its limit's
-- amount for what is spent.
record IsFlow (limit : Terms) (spent : ℕ) (flow : Flow) : Type 0 where
  pub paid : flow.paid_out ≡ flow.paid_in + spent
  pub worth : spent * limit.taking + flow.taken_out * limit.making ≤ flow.taken_in * limit.making

-- the buyer and the seller of a complementary match, either way round
bought : (s : Side) (a b : Terms) → buys_exactly (buyer_by s a b) (buyer_by s b a) ≡ true → b.taking * a.taking ≤ b.making * a.making
bought Buy a b crosses =
    let exactly : b.taking * a.taking ≤ a.making * b.making = leb-true (b.taking * a.taking) (a.making * b.making) crosses in
    omega (arith, exactly)
bought Sell a b crosses =
    let exactly : a.taking * b.taking ≤ b.making * a.making = leb-true (a.taking * b.taking) (b.making * a.making) crosses in
    omega (arith, exactly)

-- a fill takes no more than its share, and at least itself where its limit takes more than it makes
share-le : (b : Terms) (fill : ℕ) → taking_of b fill * b.making ≤ fill * b.taking
share-le b fill = div-mul-le_self (fill * b.taking) b.making

fill-le : (b : Terms) (fill : ℕ) → 1 ≤ b.making → b.making < b.taking → fill ≤ taking_of b fill
fill-le b fill some more =
    let less : b.making ≤ b.taking = omega (arith, more) in
    le-div fill (fill * b.taking) b.making some (mul-le-mul_left fill less)

abbrev flow_for : MatchKind → Terms → ℕ → Flow
flow_for kind b fill = flow_by (Some kind) fill (taking_of b fill)

flow-for : (kind : MatchKind) (a b : Terms) (fill : ℕ) → 1 ≤ b.making → can_fit kind b ≡ true → is_crossing_exactly kind a b ≡ true → IsFlow a (spent_of kind b fill) (flow_for kind b fill)
flow-for Complementary a b fill some can crosses =
    let t : ℕ = taking_of b fill in
    let enough : t * a.taking ≤ fill * a.making = taken-le fill t b.making b.taking a.taking a.making some (share-le b fill) (bought a.side a b crosses) in
    record { paid = omega arith; worth = omega (arith, enough) }
flow-for Mint a b fill some can crosses =
    let t : ℕ = taking_of b fill in
    let s : ℕ = t - fill in
    let least : fill ≤ t = fill-le b fill some (ltb-true b.making b.taking can) in
    let split : t ≡ fill + s = omega (arith, least) in
    let exactly : a.taking * b.taking ≤ a.making * b.taking + b.making * a.taking = leb-true (a.taking * b.taking) (a.making * b.taking + b.making * a.taking) crosses in
    let enough : s * a.taking ≤ t * a.making = minted fill s t b.making b.taking a.making a.taking some split (share-le b fill) exactly in
    record { paid = omega (arith, split); worth = omega (arith, enough) }
flow-for Merge a b fill some can crosses =
    let t : ℕ = taking_of b fill in
    let exactly : a.taking * b.making + b.taking * a.making ≤ a.making * b.making = leb-true (a.taking * b.making + b.taking * a.making) (a.making * b.making) crosses in
    let enough : fill * a.taking + t * a.making ≤ fill * a.making = merged fill t b.making b.taking a.making a.taking some (share-le b fill) exactly in
    record { paid = omega arith; worth = omega (arith, enough) }

-- what fits is a fill of a limit that can fit
if_some : (b : Bool) (o : Option Fitted) (f : Fitted) → cond b o None ≡ Some f → (b ≡ true) × (o ≡ Some f)
if_some true o f some = (refl, some)
if_some false o f some = cc

flow-fit : (kind : MatchKind) (a b : Terms) (left rest : ℕ) (f : Fitted) → 1 ≤ b.making → is_crossing_exactly kind a b ≡ true → fit_of kind b left rest ≡ Some f → IsFlow a f.spent (flow_for kind b f.fill)
flow-fit kind a b left rest f some crosses fits =
    let fill : ℕ = fill_of kind b left rest in
    let g : Fitted = fitted_by kind b fill in
    let can = if_some (can_fit kind b) (if_fitted g) f fits in
    let fitted = cond_some (is_fitted g) g f can.1 in
    subst (λ (x : Fitted). IsFlow a x.spent (flow_for kind b x.fill)) fitted.1 (flow-for kind a b fill some can.0 crosses)

flow-kind : (o : Option MatchKind) (a b : Terms) (left rest : ℕ) (f : Fitted) → 1 ≤ b.making → crosses_by o a b ≡ true → option_and_then (λ kind. fit_of kind b left rest) o ≡ Some f
    → IsFlow a f.spent (flow_by o f.fill (taking_of b f.fill))
flow-kind None a b left rest f some crosses fits = cc
flow-kind (Some kind) a b left rest f some crosses fits = flow-fit kind a b left rest f some (and_parts (is_crossing kind a b) (is_crossing_exactly kind a b) crosses).1 fits

-- what goes through for the part of a filling
flow-filled : (taker : Offer) (f : Filling) (fill : ℕ) (part p : Part) → IsPartOf taker fill part → IsPartOf f.maker f.fitted.fill p → IsFilledOf taker f → IsFlow taker.limit f.fitted.spent (flow_of part p)
flow-filled taker f fill part p taken made filled =
    let m : Offer = f.maker in
    let whole = and_parts (not (m.account == taker.account)) (crosses_by (kind_with taker m) taker.limit m.limit && is_some (fit_with taker m taker.rest)) filled.candidate in
    let crosses = (and_parts (crosses_by (kind_with taker m) taker.limit m.limit) (is_some (fit_with taker m taker.rest)) whole.1).0 in
    let flow : IsFlow taker.limit f.fitted.spent (flow_by (kind_with taker m) f.fitted.fill (taking_of m.limit f.fitted.fill))
    = flow-kind (kind_with taker m) taker.limit m.limit filled.fits.0 m.rest f.fitted filled.making crosses filled.fits.1 in
    let same : flow_of part p ≡ flow_by (kind_with taker m) f.fitted.fill (taking_of m.limit f.fitted.fill)
    = λ k. flow_by (kind_of (taken.limit k).side (taken.token k) (made.limit k).side (made.token k)) (made.filled k) (taking_of (made.limit k) (made.filled k)) in
    subst (IsFlow taker.limit f.fitted.spent) (sym same) flow

-- ---- all makers

abbrev spent_on : Filling → ℕ
spent_on f = f.fitted.spent

-- of some makers together the same holds
record AreFlows (taker : Offer) (fs : List Filling) (part : Part) (parts : List Part) : Type 0 where
  pub paid : all_paid_out part parts ≡ sum_by (λ m. (flow_of part m).paid_in) parts + sum_by spent_on fs
  pub worth : sum_by spent_on fs * taker.limit.taking + all_taken_out part parts * taker.limit.making ≤ all_taken_in part parts * taker.limit.making

flows : (taker : Offer) (fs : List Filling) (fill : ℕ) (part : Part) (parts : List Part) → IsPartOf taker fill part → ArePartsOf fs parts → All (IsFilledOf taker) fs → AreFlows taker fs part parts
flows taker [] fill part [] taken made filled = record { paid = refl; worth = omega arith }
flows taker [] fill part (p ∷ ps) taken made filled = absurd made
flows taker (f ∷ fs) fill part [] taken made filled = absurd made
flows taker (f ∷ fs) fill part (p ∷ ps) taken made filled =
    let one = flow-filled taker f fill part p taken made.0 (All-head (IsFilledOf taker) f fs filled) in
    let rest = flows taker fs fill part ps taken made.1 (All-tail (IsFilledOf taker) f fs filled) in
    let a : ℕ = taker.limit.taking in
    let b : ℕ = taker.limit.making in
    let spent = sum_by-cons spent_on f fs in
    let taken_out = sum_by-cons (λ (m : Part). (flow_of part m).taken_out) p ps in
    let taken_in = sum_by-cons (λ (m : Part). (flow_of part m).taken_in) p ps in
    let spent_worth : sum_by spent_on (f ∷ fs) * a ≡ (spent_on f + sum_by spent_on fs) * a = ap (λ (k : ℕ). k * a) spent in
    let out_worth : all_taken_out part (p ∷ ps) * b ≡ ((flow_of part p).taken_out + all_taken_out part ps) * b = ap (λ (k : ℕ). k * b) taken_out in
    let in_worth : all_taken_in part (p ∷ ps) * b ≡ ((flow_of part p).taken_in + all_taken_in part ps) * b = ap (λ (k : ℕ). k * b) taken_in in
    record {
      paid = omega (
        arith,
        one.paid,
        rest.paid,
        spent,
        sum_by-cons (λ (m : Part). (flow_of part m).paid_in) p ps,
        sum_by-cons (λ (m : Part). (flow_of part m).paid_out) p ps,
      );
      worth = omega (arith, one.worth, rest.worth, spent_worth, out_worth, in_worth);
    }

-- no more goes out of what the taker gets than came in
taken-within : (spent taking making out in_all : ℕ) → 1 ≤ making → spent * taking + out * making ≤ in_all * making → out ≤ in_all
taken-within spent taking making out in_all some worth =
    let less : making * out ≤ making * in_all = omega (arith, worth) in
    le_of_mul-le-mul_left less some

-- ---- never short

-- a front of the makers
parts-front : (i : ℕ) (fs : List Filling) (parts : List Part) → ArePartsOf fs parts → ArePartsOf (take i fs) (take i parts)
parts-front zero fs parts made = tt
parts-front (suc i) [] [] made = tt
parts-front (suc i) [] (p ∷ ps) made = absurd made
parts-front (suc i) (f ∷ fs) [] made = absurd made
parts-front (suc i) (f ∷ fs) (p ∷ ps) made = (made.0, parts-front i fs ps made.1)

both_false : (a b : Bool) → a ≡ false → b ≡ false → (a || b) ≡ false
both_false true b first second = cc
both_false false b first second = second

front-enough : (taker : Offer) (fs : List Filling) (part : Part) (parts : List Part) → 1 ≤ taker.limit.making → IsPartOf taker (sum_by spent_on fs) part → ArePartsOf fs parts → All (IsFilledOf taker) fs
    → (i : ℕ) → runs_short part (take i parts) ≡ false
front-enough taker fs part parts some taken made filled i =
    let ps : List Part = take i parts in
    let flow = flows taker (take i fs) (sum_by spent_on fs) part ps taken (parts-front i fs parts made) (All-take (IsFilledOf taker) i fs filled) in
    let spent : sum_by spent_on (take i fs) ≤ sum_by spent_on fs = sum_by-take-le spent_on fs i in
    let paid : all_paid_out part ps ≤ all_paid_in part ps = omega (arith, flow.paid, spent, taken.filled) in
    let got : all_taken_out part ps ≤ all_taken_in part ps = taken-within (sum_by spent_on (take i fs)) taker.limit.taking taker.limit.making (all_taken_out part ps) (all_taken_in part ps) some flow.worth in
    both_false _ _ (le-ltb (all_paid_in part ps) (all_paid_out part ps) paid) (le-ltb (all_taken_in part ps) (all_taken_out part ps) got)

none-from : (part : Part) (parts : List Part) → ((i : ℕ) → runs_short part (take i parts) ≡ false) → (n place : ℕ) → short_from part parts place n ≡ None
none-from part parts enough zero place = refl
none-from part parts enough (suc n) place = ap (λ (b : Bool). cond b (Some place) (short_from part parts (suc place) n)) (enough place) ∙ none-from part parts enough n (suc place)

pub flows-none : (taker : Offer) (fs : List Filling) (part : Part) (parts : List Part) → 1 ≤ taker.limit.making → IsPartOf taker (sum_by (λ f. f.fitted.spent) fs) part → ArePartsOf fs parts → All (IsFilledOf taker) fs
    → short_place part parts ≡ None
flows-none taker fs part parts some taken made filled = none-from part parts (front-enough taker fs part parts some taken made filled) (length parts) 1

-- ---- never too little

got-enough : (spent taking making out in_all got : ℕ) → got + out ≡ in_all → spent * taking + out * making ≤ in_all * making → spent * taking / making ≤ got
got-enough spent taking making out in_all got split worth =
    let whole : (got + out) * making ≡ in_all * making = ap (λ (k : ℕ). k * making) split in
    let enough : spent * taking ≤ making * got = omega (arith, whole, worth) in
    div-le_of_le-mul making enough

pub proceeds-none : (taker : Offer) (fs : List Filling) (part : Part) (parts : List Part) → 1 ≤ taker.limit.making → IsPartOf taker (sum_by (λ f. f.fitted.spent) fs) part → ArePartsOf fs parts → All (IsFilledOf taker) fs
    → too_little part parts ≡ None
proceeds-none taker fs part parts some taken made filled =
    let flow = flows taker fs (sum_by spent_on fs) part parts taken made filled in
    let out : ℕ = all_taken_out part parts in
    let in_all : ℕ = all_taken_in part parts in
    let within : out ≤ in_all = taken-within (sum_by spent_on fs) taker.limit.taking taker.limit.making out in_all some flow.worth in
    let split : got_of part parts + out ≡ in_all = omega (arith, within) in
    let least : taking_of taker.limit (sum_by spent_on fs) ≤ got_of part parts = got-enough (sum_by spent_on fs) taker.limit.taking taker.limit.making out in_all (got_of part parts) split flow.worth in
    let same : floor_of part ≡ taking_of taker.limit (sum_by spent_on fs) = λ k. taking_of (taken.limit k) (taken.filled k) in
    let enough : nat_lt (got_of part parts) (floor_of part) ≡ false = le-ltb (got_of part parts) (floor_of part) (subst (λ (x : ℕ). x ≤ got_of part parts) (sym same) least) in
    ap (λ (b : Bool). cond b (Some (got_of part parts, floor_of part)) None) enough
