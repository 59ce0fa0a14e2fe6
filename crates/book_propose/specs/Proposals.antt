-- The match that is proposed on a snapshot. This project's own.
use Rattle.std.specs.Prelude.{◌≡◌, ◌≢◌, ◌==◌, ℕ, ◌+◌, ◌-◌, ◌<◌, ◌≤◌, ⊤, Bool, true, if◌then◌else◌, List, [], ◌∷◌, length, map, sum, sum_by, take, slice_get, All, AllPairs, Contains, Option, Some, None, option_map}
use Rattle.std.specs.List.{list_any}
use Rattle.book_propose.specs.Candidates.{candidates, fit_with, is_candidate, ranked}
use Rattle.book_propose.specs.declared.terms.MatchTerms.{MatchTerms}
use Rattle.book_propose.specs.declared.terms.TheConstants.{MAX_MAKERS}
use Rattle.book_shelves.specs.declared.offer.Offer.{Offer}
use Rattle.condition_sets.specs.declared.amount.TheConstants.{MAX_AMOUNT}
use Rattle.order_rules.specs.declared.fits.Fitted.{Fitted}

-- ---- its taker

-- an offer has a candidate in a snapshot
abbrev pub has_candidate : List Offer → Offer → Bool
has_candidate snapshot taker = list_any (is_candidate taker) snapshot

-- the last of some offers that has one: that with the highest number
abbrev pub or_this : Option Offer → Option Offer → Option Offer
or_this None other = other
or_this (Some offer) other = Some offer

abbrev pub last_taker : List Offer → List Offer → Option Offer
last_taker snapshot [] = None
last_taker snapshot (o ∷ os) = or_this (last_taker snapshot os) (if has_candidate snapshot o then Some o else None)

-- ---- its makers

-- a maker with what of it is filled
pub record Filling : Type 0 where
  pub maker : Offer
  pub fitted : Fitted

-- One maker that fits, and more behind it where it is filled whole.
abbrev pub then_more : Offer → ℕ → Option Fitted → (ℕ → List Filling) → List Filling
then_more maker left None more = []
then_more maker left (Some f) more = record { maker = maker; fitted = f } ∷ (if f.fill == maker.rest then more (left - f.spent) else [])

-- Makers in their order, where so much is left of the taker: each fits into what those before it left, and all but the last
-- are filled whole.
abbrev pub fillings : Offer → ℕ → List Offer → List Filling
fillings taker left [] = []
fillings taker left (m ∷ ms) = then_more m left (fit_with taker m left) (λ rest. fillings taker rest ms)

abbrev pub makers_for : List Offer → Offer → List Filling
makers_for snapshot taker = fillings taker taker.rest (take MAX_MAKERS (ranked taker (candidates taker snapshot)))

-- ---- the proposal

-- the taker's fill is what is spent on its makers together
abbrev pub terms_of : Offer → List Filling → MatchTerms
terms_of taker fs = record {
  taker = taker.order;
  fill = sum_by (λ f. f.fitted.spent) fs;
  makers = map (λ f. (f.maker.order, f.fitted.fill)) fs;
  spent = map (λ f. f.fitted.spent) fs;
}

-- There is none where no offer has a candidate.
abbrev pub proposal : List Offer → Option MatchTerms
proposal snapshot = option_map (λ taker. terms_of taker (makers_for snapshot taker)) (last_taker snapshot snapshot)

-- ---- what holds of it

-- the terms are in the ranges of a match, and the taker's fill is what is spent on the makers together
pub record AreTerms (terms : MatchTerms) : Type 0 where
  pub some : 1 ≤ terms.fill
  pub within : terms.fill ≤ MAX_AMOUNT
  pub makers_some : 1 ≤ length terms.makers
  pub makers_few : length terms.makers ≤ MAX_MAKERS
  pub each : All (λ m. (1 ≤ m.1) × (m.1 ≤ MAX_AMOUNT)) terms.makers
  pub spent : All (λ amount. 1 ≤ amount) terms.spent
  pub fill : terms.fill ≡ sum terms.spent

-- each offer comes before all behind it
abbrev pub IsRanked : (Offer → Offer → Bool) → List Offer → Type 0
IsRanked before [] = ⊤
IsRanked before (o ∷ os) = All (λ p. before o p ≡ true) os × IsRanked before os

-- The fillings are a front of the makers: each fits into what those before it left, and all but the last are whole.
pub record IsFittingFront (taker : Offer) (left : ℕ) (makers : List Offer) (fs : List Filling) : Type 0 where
  pub front : map (λ f. f.maker) fs ≡ take (length fs) makers
  pub fits : (i : ℕ) (f : Filling) → slice_get fs i ≡ Some f → fit_with taker f.maker (left - sum_by (λ g. g.fitted.spent) (take i fs)) ≡ Some f.fitted
  pub whole : (i : ℕ) (f : Filling) → slice_get fs i ≡ Some f → i + 1 < length fs → f.fitted.fill ≡ f.maker.rest

-- A maker of a proposed match is an offer of the snapshot and a candidate of the taker; it fits into some of the taker's rest
-- as it is filled, and from 1 to all of its own rest is.
pub record IsFilling (snapshot : List Offer) (taker : Offer) (f : Filling) : Type 0 where
  pub among : Contains snapshot f.maker
  pub candidate : is_candidate taker f.maker ≡ true
  pub fits : (left : ℕ) × (left ≤ taker.rest) × (fit_with taker f.maker left ≡ Some f.fitted)
  pub some : 1 ≤ f.fitted.fill
  pub within : f.fitted.fill ≤ f.maker.rest

-- What is proposed on a snapshot is a match of one of its offers with from 1 to 16 others, all of different numbers, on which
-- no more is spent than is left of the taker.
pub record IsProposal (snapshot : List Offer) (terms : MatchTerms) : Type 0 where
  pub taker : Offer
  pub among : Contains snapshot taker
  pub terms_are : terms ≡ terms_of taker (makers_for snapshot taker)
  pub makers_some : 1 ≤ length (makers_for snapshot taker)
  pub makers_few : length (makers_for snapshot taker) ≤ MAX_MAKERS
  pub each : All (IsFilling snapshot taker) (makers_for snapshot taker)
  pub apart : AllPairs (λ f g. f.maker.order ≢ g.maker.order) (makers_for snapshot taker)
  pub within : sum_by (λ f. f.fitted.spent) (makers_for snapshot taker) ≤ taker.rest
