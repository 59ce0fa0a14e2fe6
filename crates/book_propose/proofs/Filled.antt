-- What makers fill, one behind another.
use Rattle.std.proofs.Common.{◌≡◌, ℕ, zero, suc, ◌+◌, ◌-◌, ◌<◌, ◌≤◌, true, false, List, [], ◌∷◌, ◌++◌, length, take, drop, get_or, Option, Some, None, refl, sym, ◌∙◌, ap, arith}
use Rattle.std.specs.Prelude.{◌==◌}
use Rattle.std.proofs.lemmas.Bool.{eq-eqb, ne_eqb}
use Rattle.std.proofs.lemmas.List.{append-nil, drop_all, drop_more, map_push, take-append-drop}
use Rattle.std.proofs.lemmas.List.Sums.{sum_by_push}
use Rattle.book_propose.specs.Candidates.{fit_with}
use Rattle.book_propose.specs.Proposals.{Filling, fillings, terms_of, then_more}
use Rattle.book_propose.specs.declared.terms.MatchTerms.{MatchTerms}
use Rattle.book_shelves.specs.declared.offer.Offer.{Offer}
use Rattle.order_rules.specs.declared.fits.Fitted.{Fitted}

-- ---- a front of them, and the rest

-- where so many are left out and one stands first of the rest
drop_first : (i : ℕ) (fs : List Filling) (f : Filling) (gs : List Filling) → drop i fs ≡ f ∷ gs → (take (suc i) fs ≡ take i fs ++ f ∷ []) × (drop (suc i) fs ≡ gs)
drop_first zero [] f gs at = cc
drop_first zero (x ∷ fs) f gs at =
    let here : x ≡ f = cc in
    let behind : fs ≡ gs = cc in
    (ap (λ (y : Filling). y ∷ []) here, behind)
drop_first (suc i) [] f gs at = cc
drop_first (suc i) (x ∷ fs) f gs at =
    let both = drop_first i fs f gs at in
    (ap (λ (ys : List Filling). x ∷ ys) both.0, both.1)

-- where nothing is left
drop_none : (i : ℕ) (fs : List Filling) → drop i fs ≡ [] → take i fs ≡ fs
drop_none i fs none = sym (append-nil (take i fs)) ∙ ap (λ (gs : List Filling). take i fs ++ gs) (sym none) ∙ take-append-drop i fs

-- the terms with one maker more
pub terms_more : (taker m : Offer) (fs : List Filling) (f : Fitted) (terms : MatchTerms) → terms ≡ terms_of taker fs
    → ◌≡◌ {A = MatchTerms} (record { taker = terms.taker; fill = terms.fill + f.spent; makers = terms.makers ++ (m.order, f.fill) ∷ []; spent = terms.spent ++ f.spent ∷ [] }) (terms_of taker (fs ++ record { maker = m; fitted = f } ∷ []))
terms_more taker m fs f terms so_far =
    let x : Filling = record { maker = m; fitted = f } in
    rw (so_far, sum_by_push (λ (g : Filling). g.fitted.spent) fs x, map_push {Y = ℕ × ℕ} (λ (g : Filling). (g.maker.order, g.fitted.fill)) fs x, map_push (λ (g : Filling). g.fitted.spent) fs x) refl

-- ---- a maker more

module _ (taker : Offer) (makers : List Offer) (i left : ℕ) (m : Offer) (inside : i < length makers) (here : m ≡ get_or makers i m) where
  abbrev all : List Filling
  all = fillings taker taker.rest makers

  abbrev behind : Option Fitted → List Filling
  behind o = then_more m left o (λ l. fillings taker l (drop (i + 1) makers))

  at : drop i all ≡ fillings taker left (drop i makers) → (o : Option Fitted) → o ≡ fit_with taker m left → drop i all ≡ behind o
  at so_far o fits = so_far ∙ ap (fillings taker left) (drop_more makers i m inside) ∙ rw (← here, ← fits) refl

  -- it doesn't fit
  pub none_more : drop i all ≡ fillings taker left (drop i makers) → None ≡ fit_with taker m left → take i all ≡ all
  none_more so_far fits = drop_none i all (at so_far None fits)

  -- it fits, and isn't filled whole
  pub last_more : (f : Fitted) → drop i all ≡ fillings taker left (drop i makers) → Some f ≡ fit_with taker m left → f.fill < m.rest
      → take i all ++ record { maker = m; fitted = f } ∷ [] ≡ all
  last_more f so_far fits part =
      let x : Filling = record { maker = m; fitted = f } in
      let other : (f.fill == m.rest) ≡ false = ne_eqb f.fill m.rest (λ same. omega (arith, part, same)) in
      let only : behind (Some f) ≡ x ∷ [] = rw other refl in
      let both = drop_first i all x [] (at so_far (Some f) fits ∙ only) in
      sym both.0 ∙ drop_none (suc i) all both.1

  -- it is filled whole
  pub whole_more : (f : Fitted) → drop i all ≡ fillings taker left (drop i makers) → Some f ≡ fit_with taker m left → f.fill ≡ m.rest
      → (take (i + 1) all ≡ take i all ++ record { maker = m; fitted = f } ∷ []) × (drop (i + 1) all ≡ fillings taker (left - f.spent) (drop (i + 1) makers))
  whole_more f so_far fits whole =
      let x : Filling = record { maker = m; fitted = f } in
      let same : (f.fill == m.rest) ≡ true = eq-eqb f.fill m.rest whole in
      let more : behind (Some f) ≡ x ∷ fillings taker (left - f.spent) (drop (i + 1) makers) = rw same refl in
      let next : i + 1 ≡ suc i = omega arith in
      let both = drop_first i all x (fillings taker (left - f.spent) (drop (i + 1) makers)) (at so_far (Some f) fits ∙ more) in
      (ap (λ (n : ℕ). take n all) next ∙ both.0, ap (λ (n : ℕ). drop n all) next ∙ both.1)

-- and where there is no maker more
pub all_taken : (taker : Offer) (makers : List Offer) (i left : ℕ) → length makers ≤ i → drop i (fillings taker taker.rest makers) ≡ fillings taker left (drop i makers)
    → take i (fillings taker taker.rest makers) ≡ fillings taker taker.rest makers
all_taken taker makers i left past so_far = drop_none i (fillings taker taker.rest makers) (so_far ∙ ap (fillings taker left) (drop_all i makers past))
