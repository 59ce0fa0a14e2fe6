-- The first place that passes a test is the one that is found.
use Rattle.std.proofs.Common.{◌≡◌, ℕ, zero, suc, ◌<◌, Bool, true, false, Option, Some, None, ◌∙◌, ap, refl, sym, arith, inl, inr, ◌⊎◌}
use Rattle.std.proofs.lemmas.Bool.{cases_order}
use Rattle.condition_sets.specs.Places.{found_or, first_place, IsFirstPlace}

-- nothing was found up to here, nor is it found here
found_or-None : (found : Option ℕ) (passes : Bool) (here : ℕ) → found_or found passes here ≡ None → (found ≡ None) × (passes ≡ false)
found_or-None None false here none = (refl, refl)
found_or-None None true here none = cc
found_or-None (Some place) passes here none = cc

-- a place was found earlier, or it is this one
found_or-Some : (found : Option ℕ) (passes : Bool) (here place : ℕ) → found_or found passes here ≡ Some place
    → (found ≡ Some place) ⊎ ((found ≡ None) × (passes ≡ true) × (here ≡ place))
found_or-Some None false here place some = cc
found_or-Some None true here place some = inr (refl, refl, cc)
found_or-Some (Some earlier) passes here place some = inl some

-- where none is found, none passes
pub first_place-None : (test : ℕ → Bool) (end : ℕ) → first_place test end ≡ None → (place : ℕ) → place < end → test place ≡ false
first_place-None test zero none place below = absurd (omega arith)
first_place-None test (suc end) none place below =
    let step = found_or-None (first_place test end) (test end) end none in
    elim (cases_order place end) [
      | inl same ↦ ap test same ∙ step.1
      | inr other ↦ elim other [ inl lower ↦ first_place-None test end step.0 place lower | inr higher ↦ absurd (omega arith) ]
    ]

-- where none passes, none is found
pub first_place_is_None : (test : ℕ → Bool) (end : ℕ) → ((place : ℕ) → place < end → test place ≡ false) → first_place test end ≡ None
first_place_is_None test zero none = refl
first_place_is_None test (suc end) none =
    rw (first_place_is_None test end (λ place below. none place (omega arith)), none end (omega arith))

-- the place that is found is the first that passes
pub first_place-Some : (test : ℕ → Bool) (end place : ℕ) → first_place test end ≡ Some place → IsFirstPlace test end place
first_place-Some test zero place some = cc
first_place-Some test (suc end) place some =
    elim (found_or-Some (first_place test end) (test end) end place some) [
      | inl earlier ↦
          let found = first_place-Some test end place earlier in
          record { below = omega (arith, found.below); passes = found.passes; first = found.first }
      | inr here ↦ record {
        below = omega (arith, here.2);
        passes = ap test (sym here.2) ∙ here.1;
        first = λ before lower. first_place-None test end here.0 before (omega (arith, here.2));
      }
    ]

-- the first place that passes is found, however far the search goes on past it
pub first_place_is_Some : (test : ℕ → Bool) (end place : ℕ) → IsFirstPlace test end place → first_place test end ≡ Some place
first_place_is_Some test zero place is = absurd (omega (arith, is.below))
first_place_is_Some test (suc end) place is =
    elim (cases_order place end) [
      | inl same ↦ rw (← same) (rw (first_place_is_None test place is.first, is.passes))
      | inr other ↦ elim other [
        | inl lower ↦ rw (first_place_is_Some test end place (record { below = lower; passes = is.passes; first = is.first }))
        | inr higher ↦ absurd (omega (arith, is.below))
      ]
    ]
