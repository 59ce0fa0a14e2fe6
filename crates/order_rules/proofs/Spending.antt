-- What a fitting maker spends is at most what was left of the taker's making.
use Rattle.std.proofs.Common.{◌≡◌, ℕ, ◌+◌, ◌-◌, ◌<◌, ◌≤◌, true, false, Some, None, IfSome, arith, refl, if◌then◌else◌}
use Rattle.std.proofs.lemmas.Bool.{ltb-true}
use Rattle.order_rules.specs.declared.fits.Fitted.{Fitted}
use Rattle.order_rules.specs.declared.kinds.MatchKind.{MatchKind}
use Rattle.order_rules.specs.declared.kinds.MatchKind.TheVariants.{Complementary, Mint, Merge}
use Rattle.order_rules.specs.Fits.{fill_of, spent_of, can_fit, fit_of, fitted_by, if_fitted, is_fitted}
use Rattle.order_rules.specs.Orders.{Terms}
use Rattle.order_rules.specs.Prices.{taking_of}
use Rattle.order_rules.proofs.Quotients.{taking-le_left, taking-le_left-fill}

-- of two buyers, what is spent and the fill are what the fill takes
minted : (maker : Terms) (left rest : ℕ) → maker.making < maker.taking → spent_of Mint maker (fill_of Mint maker left rest) ≤ left
minted maker left rest more =
    let fill = fill_of Mint maker left rest in
    let taken : taking_of maker fill ≤ left + fill
    = taking-le_left-fill fill left maker.making (maker.taking - maker.making) maker.taking (omega arith) (omega arith) in
    omega arith

-- a maker that can fit spends at most what is left
spent-le : (kind : MatchKind) (maker : Terms) (left rest : ℕ) → can_fit kind maker ≡ true → spent_of kind maker (fill_of kind maker left rest) ≤ left
spent-le Complementary maker left rest fits = taking-le_left (fill_of Complementary maker left rest) left maker.making maker.taking (omega arith)
spent-le Mint maker left rest fits = minted maker left rest (ltb-true maker.making maker.taking fits)
spent-le Merge maker left rest fits = omega arith

-- what is spent on the fit, if there is one
IfSome-if_fitted : (fitted : Fitted) (left : ℕ) → fitted.spent ≤ left → IfSome (if_fitted fitted) (λ f. f.spent ≤ left)
IfSome-if_fitted fitted left within =
    elim (is_fitted fitted) as (λ v. IfSome (if v then Some fitted else None) (λ f. f.spent ≤ left)) [ true ↦ within | false ↦ tt ]

-- the fit of a maker spends at most what is left
pub IfSome-fit_of : (kind : MatchKind) (maker : Terms) (left rest : ℕ) → IfSome (fit_of kind maker left rest) (λ f. f.spent ≤ left)
IfSome-fit_of kind maker left rest =
    let fitted = fitted_by kind maker (fill_of kind maker left rest) in
    (elim (can_fit kind maker) as (λ v. can_fit kind maker ≡ v → IfSome (if v then if_fitted fitted else None) (λ f. f.spent ≤ left)) [
      | true ↦ λ fits. IfSome-if_fitted fitted left (spent-le kind maker left rest fits)
      | false ↦ λ _. tt
    ]) refl

-- the same of a fit that is there
pub spent-le_left : (kind : MatchKind) (maker : Terms) (left rest : ℕ) (fitted : Fitted) → fit_of kind maker left rest ≡ Some fitted → fitted.spent ≤ left
spent-le_left kind maker left rest fitted some = rw some at (IfSome-fit_of kind maker left rest)
