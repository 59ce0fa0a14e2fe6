-- What is known of a maker that fits into what is left of a taker.
use Rattle.std.proofs.Common.{◌≡◌, ℕ, ◌+◌, ◌-◌, ◌*◌, ◌/◌, ◌<◌, ◌≤◌, Bool, true, false, cond, Option, Some, None, IfSome, refl, sym, ap, subst, arith}
use Rattle.std.specs.Prelude.{◌&&◌, nat_le}
use Rattle.std.proofs.Math.Nat.{div-mul-le_self, div-le_of_le-mul, mul-le-mul_right}
use Rattle.std.proofs.lemmas.Bool.{and_parts, leb-true, ltb-true}
use Rattle.std.proofs.lemmas.Option.{cond_some, option_and_then_some}
use Rattle.book_propose.specs.Candidates.{fit_with, kind_with}
use Rattle.book_shelves.specs.declared.offer.Offer.{Offer}
use Rattle.order_rules.specs.Fits.{can_fit, fill_of, fit_of, fitted_by, if_fitted, is_fitted, spent_of}
use Rattle.order_rules.specs.Orders.{Terms}
use Rattle.order_rules.specs.Prices.{taking_of}
use Rattle.order_rules.specs.declared.fits.Fitted.{Fitted}
use Rattle.order_rules.specs.declared.kinds.MatchKind.{MatchKind}
use Rattle.order_rules.specs.declared.kinds.MatchKind.TheVariants.{Complementary, Mint, Merge}

-- each is some, and none is more than there is
pub record IsFit (rest left : ℕ) (f : Fitted) : Type 0 where
  pub fill_some : 1 ≤ f.fill
  pub spent_some : 1 ≤ f.spent
  pub fill_within : f.fill ≤ rest
  pub spent_within : f.spent ≤ left

-- ---- what a fill takes

-- a fill that is bought by what is left takes at most what is left
taking-le_left : (fill left making taking : ℕ) → fill ≤ left * making / taking → fill * taking / making ≤ left
taking-le_left fill left making taking bought =
    let filled : fill * taking ≤ left * making / taking * taking = mul-le-mul_right taking bought in
    let back : left * making / taking * taking ≤ left * making = div-mul-le_self (left * making) taking in
    let whole : fill * taking ≤ making * left = omega (arith, filled, back) in
    div-le_of_le-mul making whole

-- the same of a maker of a mint, which takes so many tokens more than it pays cash
taking-le_left-fill : (fill left making more taking : ℕ) → taking ≡ making + more → fill ≤ left * making / more → fill * taking / making ≤ left + fill
taking-le_left-fill fill left making more taking split bought =
    let taken : fill * taking ≡ fill * (making + more) = ap (λ n. fill * n) split in
    let filled : fill * more ≤ left * making / more * more = mul-le-mul_right more bought in
    let back : left * making / more * more ≤ left * making = div-mul-le_self (left * making) more in
    let whole : fill * taking ≤ making * (left + fill) = omega (arith, taken, filled, back) in
    div-le_of_le-mul making whole

minted : (maker : Terms) (left rest : ℕ) → maker.making < maker.taking → spent_of Mint maker (fill_of Mint maker left rest) ≤ left
minted maker left rest more =
    let fill = fill_of Mint maker left rest in
    let taken : taking_of maker fill ≤ left + fill
    = taking-le_left-fill fill left maker.making (maker.taking - maker.making) maker.taking (omega arith) (omega arith) in
    omega arith

-- a maker that can fit spends at most what is left
spent-le_left : (kind : MatchKind) (maker : Terms) (left rest : ℕ) → can_fit kind maker ≡ true → spent_of kind maker (fill_of kind maker left rest) ≤ left
spent-le_left Complementary maker left rest fits = taking-le_left (fill_of Complementary maker left rest) left maker.making maker.taking (omega arith)
spent-le_left Mint maker left rest fits = minted maker left rest (ltb-true maker.making maker.taking fits)
spent-le_left Merge maker left rest fits = omega arith

fill-le_rest : (kind : MatchKind) (maker : Terms) (left rest : ℕ) → fill_of kind maker left rest ≤ rest
fill-le_rest Complementary maker left rest = omega arith
fill-le_rest Mint maker left rest = omega arith
fill-le_rest Merge maker left rest = omega arith

-- ---- a fit

if_some : (b : Bool) (o : Option Fitted) (f : Fitted) → cond b o None ≡ Some f → (b ≡ true) × (o ≡ Some f)
if_some true o f some = (refl, some)
if_some false o f some = cc

fit_by : (kind : MatchKind) (maker : Terms) (left rest : ℕ) (f : Fitted) → fit_of kind maker left rest ≡ Some f → IsFit rest left f
fit_by kind maker left rest f some =
    let g : Fitted = fitted_by kind maker (fill_of kind maker left rest) in
    let can = if_some (can_fit kind maker) (if_fitted g) f some in
    let fitted = cond_some (is_fitted g) g f can.1 in
    let fill = and_parts (nat_le 1 g.fill) (nat_le 1 g.taking && nat_le 1 g.spent) fitted.0 in
    let spent = and_parts (nat_le 1 g.taking) (nat_le 1 g.spent) fill.1 in
    subst (IsFit rest left) fitted.1 (record {
      fill_some = leb-true 1 g.fill fill.0;
      spent_some = leb-true 1 g.spent spent.1;
      fill_within = fill-le_rest kind maker left rest;
      spent_within = spent-le_left kind maker left rest can.0;
    })

pub fit-facts : (taker maker : Offer) (left : ℕ) (f : Fitted) → fit_with taker maker left ≡ Some f → IsFit maker.rest left f
fit-facts taker maker left f some =
    option_and_then_some (λ kind. fit_of kind maker.limit left maker.rest) (kind_with taker maker) f some (λ kind _ fits. fit_by kind maker.limit left maker.rest f fits)

-- the same of a fit, if there is one
pub IfSome-fit : (taker maker : Offer) (left most : ℕ) (o : Option Fitted) → o ≡ fit_with taker maker left → maker.rest ≤ most → IfSome o (λ f. (1 ≤ f.fill) × (f.fill ≤ most))
IfSome-fit taker maker left most None fits within = tt
IfSome-fit taker maker left most (Some f) fits within =
    let facts = fit-facts taker maker left f (sym fits) in
    (facts.fill_some, omega (arith, facts.fill_within))
