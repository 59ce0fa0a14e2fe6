-- The fillings are a front of the makers, and no longer one is.
use Rattle.std.proofs.Common.{◌≡◌, ◌≢◌, ℕ, zero, suc, ◌+◌, ◌-◌, ◌<◌, ◌≤◌, List, [], ◌∷◌, length, take, Some, None, refl, sym, ◌∙◌, ap, arith, inl, inr}
use Rattle.std.specs.Prelude.{◌==◌, slice_get, sum_by}
use Rattle.std.proofs.lemmas.Bool.{cases_lt, cond_both, eqb-false, eqb-true}
use Rattle.std.proofs.lemmas.List.Sums.{sum_by-cons}
use Rattle.book_propose.specs.Candidates.{fit_with}
use Rattle.book_propose.specs.Proposals.{Filling, IsFittingFront, fillings, then_more}
use Rattle.book_shelves.specs.declared.offer.Offer.{Offer}
use Rattle.order_rules.specs.declared.fits.Fitted.{Fitted}

abbrev spent : Filling → ℕ
spent f = f.fitted.spent

-- what holds of no filling, of one that isn't whole, and of one that is with those behind it, holds of the fillings
pub fillings_by : (P : List Filling → Type 0) (taker m : Offer) (left : ℕ) (ms : List Offer) → (fit_with taker m left ≡ None → P [])
    → ((f : Fitted) → fit_with taker m left ≡ Some f → f.fill ≢ m.rest → P (record { maker = m; fitted = f } ∷ []))
    → ((f : Fitted) → fit_with taker m left ≡ Some f → f.fill ≡ m.rest → P (record { maker = m; fitted = f } ∷ fillings taker (left - f.spent) ms))
    → P (fillings taker left (m ∷ ms))
fillings_by P taker m left ms none last whole =
    (elim (fit_with taker m left) as (λ o. fit_with taker m left ≡ o → P (then_more m left o (λ l. fillings taker l ms))) [
      | None ↦ λ fits. none fits
      | Some f ↦ λ fits.
          cond_both (f.fill == m.rest) (fillings taker (left - f.spent) ms) [] (λ (fs : List Filling). P (record { maker = m; fitted = f } ∷ fs))
          (λ same. whole f fits (eqb-true f.fill m.rest same))
          (λ other. last f fits (eqb-false f.fill m.rest other))
    ]) refl

-- ---- a front

front-nil : (taker : Offer) (left : ℕ) (makers : List Offer) → IsFittingFront taker left makers []
front-nil taker left makers = record {
  front = refl;
  fits = λ i f at. cc;
  whole = λ i f at more. cc;
}

-- what is left behind one filling and some more
left_behind : (left i : ℕ) (f : Filling) (fs : List Filling) → left - spent f - sum_by spent (take i fs) ≡ left - sum_by spent (take (suc i) (f ∷ fs))
left_behind left i f fs = omega (arith, sum_by-cons spent f (take i fs))

front-cons : (taker m : Offer) (left : ℕ) (ms : List Offer) (f : Fitted) (fs : List Filling) → fit_with taker m left ≡ Some f → (1 ≤ length fs → f.fill ≡ m.rest)
    → IsFittingFront taker (left - f.spent) ms fs → IsFittingFront taker left (m ∷ ms) (record { maker = m; fitted = f } ∷ fs)
front-cons taker m left ms f fs fits whole behind = record {
  front = ap (λ (os : List Offer). m ∷ os) behind.front;
  fits = each_fits;
  whole = each_whole;
}
  where
    x : Filling
    x = record { maker = m; fitted = f }

    each_fits : (i : ℕ) (g : Filling) → slice_get (x ∷ fs) i ≡ Some g → fit_with taker g.maker (left - sum_by spent (take i (x ∷ fs))) ≡ Some g.fitted
    each_fits zero g at =
        let is : x ≡ g = cc in
        let all : left - 0 ≡ left = omega arith in
        rw (← is, all) fits
    each_fits (suc i) g at = ap (fit_with taker g.maker) (sym (left_behind left i x fs)) ∙ behind.fits i g at

    each_whole : (i : ℕ) (g : Filling) → slice_get (x ∷ fs) i ≡ Some g → i + 1 < length (x ∷ fs) → g.fitted.fill ≡ g.maker.rest
    each_whole zero g at more =
        let is : x ≡ g = cc in
        rw (← is) (whole (omega (arith, more)))
    each_whole (suc i) g at more = behind.whole i g at (omega (arith, more))

pub fillings-front : (taker : Offer) (left : ℕ) (makers : List Offer) → IsFittingFront taker left makers (fillings taker left makers)
fillings-front taker left [] = front-nil taker left []
fillings-front taker left (m ∷ ms) = by_fit (λ l. fillings-front taker l ms)
  where
    by_fit : ((l : ℕ) → IsFittingFront taker l ms (fillings taker l ms)) → IsFittingFront taker left (m ∷ ms) (fillings taker left (m ∷ ms))
    by_fit behind =
        fillings_by (IsFittingFront taker left (m ∷ ms)) taker m left ms
        (λ _. front-nil taker left (m ∷ ms))
        (λ f fits _. front-cons taker m left ms f [] fits (λ some. absurd (omega (arith, some))) (front-nil taker (left - f.spent) ms))
        (λ f fits whole. front-cons taker m left ms f (fillings taker (left - f.spent) ms) fits (λ _. whole) (behind (left - f.spent)))

-- ---- the longest

front-first : (taker m : Offer) (left : ℕ) (ms : List Offer) (g : Filling) (gs : List Filling) → IsFittingFront taker left (m ∷ ms) (g ∷ gs) → (g.maker ≡ m) × (fit_with taker m left ≡ Some g.fitted)
front-first taker m left ms g gs front =
    let is : g.maker ≡ m = cc (front.front) in
    let all : left - 0 ≡ left = omega arith in
    let fits = rw (is, all) at (front.fits 0 g refl) in
    (is, fits)

front-behind : (taker m : Offer) (left : ℕ) (ms : List Offer) (g : Filling) (gs : List Filling) → IsFittingFront taker left (m ∷ ms) (g ∷ gs) → IsFittingFront taker (left - g.fitted.spent) ms gs
front-behind taker m left ms g gs front = record {
  front = cc (front.front);
  fits = λ i f at. ap (fit_with taker f.maker) (left_behind left i g gs) ∙ front.fits (suc i) f at;
  whole = λ i f at more. front.whole (suc i) f at (omega (arith, more));
}

none_longer : (taker : Offer) (left : ℕ) (gs : List Filling) → IsFittingFront taker left [] gs → length gs ≤ 0
none_longer taker left [] front = omega arith
none_longer taker left (g ∷ gs) front = cc (front.front)

-- where the first one fits so, there are as many fillings as behind it, and one more
longer : (taker m : Offer) (left : ℕ) (ms : List Offer) (g : Filling) (n : ℕ) → fit_with taker m left ≡ Some g.fitted → (1 ≤ n → g.fitted.fill ≡ m.rest)
    → n ≤ length (fillings taker (left - g.fitted.spent) ms) → suc n ≤ length (fillings taker left (m ∷ ms))
longer taker m left ms g n fits whole behind =
    fillings_by (λ (fs : List Filling). suc n ≤ length fs) taker m left ms
    (λ none. cc)
    (λ f fitted part.
    let same : g.fitted ≡ f = cc in
    elim (cases_lt 0 n) [
      | inl more ↦ absurd (part (ap (λ (h : Fitted). h.fill) (sym same) ∙ whole (omega (arith, more))))
      | inr none ↦ omega (arith, none)
    ])
    (λ f fitted _.
    let same : g.fitted ≡ f = cc in
    let there : n ≤ length (fillings taker (left - f.spent) ms) = rw same at behind in
    omega (arith, there))

pub longest : (taker : Offer) (left : ℕ) (makers : List Offer) (gs : List Filling) → IsFittingFront taker left makers gs → length gs ≤ length (fillings taker left makers)
longest taker left [] gs front = none_longer taker left gs front
longest taker left (m ∷ ms) [] front = omega arith
longest taker left (m ∷ ms) (g ∷ gs) front = by_fit (longest taker (left - g.fitted.spent) ms gs)
  where
    by_fit : (IsFittingFront taker (left - g.fitted.spent) ms gs → length gs ≤ length (fillings taker (left - g.fitted.spent) ms)) → suc (length gs) ≤ length (fillings taker left (m ∷ ms))
    by_fit behind =
        let first = front-first taker m left ms g gs front in
        longer taker m left ms g (length gs) first.1
        (λ some. front.whole 0 g refl (omega (arith, some)) ∙ ap (λ (o : Offer). o.rest) first.0)
        (behind (front-behind taker m left ms g gs front))
