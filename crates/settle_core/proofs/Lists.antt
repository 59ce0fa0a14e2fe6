-- Lists with more behind them, with one element set, and what is told by them.
use Rattle.std.proofs.Common.{◌≡◌, ◌≢◌, ℕ, zero, suc, ◌+◌, Bool, true, false, cond, List, [], ◌∷◌, ◌++◌, length, Option, Some, None, All, refl, sym, ap, subst, ◌∙◌, arith, inl, inr}
use Rattle.std.specs.Prelude.{◌==◌, ◌⊎◌, map, slice_get, slice_set, MatchOption}
use Rattle.std.proofs.lemmas.List.Elements.{All-cons, All-head, All-nil, All-tail}
use Rattle.settle_core.specs.Book.{Payouts, numerators_on}

-- what is there stays when more comes behind
pub get-before : {X : Type 0} (xs ys : List X) (i : ℕ) (x : X) → slice_get xs i ≡ Some x → slice_get (xs ++ ys) i ≡ Some x
get-before [] ys i x at = cc
get-before (z ∷ zs) ys zero x at = at
get-before (z ∷ zs) ys (suc i) x at = get-before zs ys i x at

-- what is there with more behind was there, or is of what came behind
pub get-after : {X : Type 0} (xs ys : List X) (i : ℕ) (x : X) → slice_get (xs ++ ys) i ≡ Some x → (slice_get xs i ≡ Some x) ⊎ ((j : ℕ) × (i ≡ length xs + j) × (slice_get ys j ≡ Some x))
get-after [] ys i x at = inr (i, omega arith, at)
get-after (z ∷ zs) ys zero x at = inl at
get-after (z ∷ zs) ys (suc i) x at =
    elim (get-after zs ys i x at) [
      | inl there ↦ inl there
      | inr behind ↦ inr (behind.0, omega (arith, behind.1), behind.2)
    ]

-- and what came behind is there
pub get-behind : {X : Type 0} (xs ys : List X) (j : ℕ) → slice_get (xs ++ ys) (length xs + j) ≡ slice_get ys j
get-behind [] ys j = ap (slice_get ys) (omega arith)
get-behind (z ∷ zs) ys j =
    let next : length (z ∷ zs) + j ≡ suc (length zs + j) = omega arith in
    ap (slice_get (z ∷ (zs ++ ys))) next ∙ get-behind zs ys j

-- what holds of it goes on
pub holds-before : {X : Type 0} (P : X → Type 0) (xs ys : List X) (i : ℕ) → MatchOption (slice_get xs i) ⊥ P → MatchOption (slice_get (xs ++ ys) i) ⊥ P
holds-before P xs ys i is = by (slice_get xs i) refl is
  where
    by : (o : Option _) → slice_get xs i ≡ o → MatchOption o ⊥ P → MatchOption (slice_get (xs ++ ys) i) ⊥ P
    by None at none = absurd none
    by (Some x) at is = subst (λ (o : Option _). MatchOption o ⊥ P) (sym (get-before xs ys i x at)) is

-- what holds of all holds of those before, and of those behind
pub front-holds : {X : Type 0} (P : X → Type 0) (xs ys : List X) → All P (xs ++ ys) → All P xs
front-holds P [] ys all = All-nil P
front-holds P (x ∷ xs) ys all = All-cons P x xs (All-head P x (xs ++ ys) all) (front-holds P xs ys (All-tail P x (xs ++ ys) all))

pub behind-holds : {X : Type 0} (P : X → Type 0) (xs ys : List X) → All P (xs ++ ys) → All P ys
behind-holds P [] ys all = all
behind-holds P (x ∷ xs) ys all = behind-holds P xs ys (All-tail P x (xs ++ ys) all)

-- ---- one element set

pub set-here : {X : Type 0} (xs : List X) (i : ℕ) (x y : X) → slice_get xs i ≡ Some x → slice_get (slice_set xs i y) i ≡ Some y
set-here [] i x y at = cc
set-here (z ∷ zs) zero x y at = refl
set-here (z ∷ zs) (suc i) x y at = set-here zs i x y at

pub set-elsewhere : {X : Type 0} (xs : List X) (i j : ℕ) (y : X) → j ≢ i → slice_get (slice_set xs i y) j ≡ slice_get xs j
set-elsewhere [] i j y apart = refl
set-elsewhere (z ∷ zs) zero zero y apart = absurd (apart refl)
set-elsewhere (z ∷ zs) zero (suc j) y apart = refl
set-elsewhere (z ∷ zs) (suc i) zero y apart = refl
set-elsewhere (z ∷ zs) (suc i) (suc j) y apart = set-elsewhere zs i j y (λ same. apart (omega arith))

-- what can't be told from what was there leaves the rest too
pub set-same : {X Y : Type 0} (f : X → Y) (xs : List X) (i : ℕ) (x y : X) → slice_get xs i ≡ Some x → f y ≡ f x → map f (slice_set xs i y) ≡ map f xs
set-same f [] i x y at same = cc
set-same f (z ∷ zs) zero x y at same =
    let here : z ≡ x = cc in
    ap (λ v. v ∷ map f zs) (same ∙ ap f (sym here))
set-same f (z ∷ zs) (suc i) x y at same = ap (λ vs. f z ∷ vs) (set-same f zs i x y at same)

-- ---- what is told

-- what is told stays when more is told behind
pub told-before : (xs ys : List Payouts) (c : ℕ) (ns : List ℕ) → numerators_on xs c ≡ Some ns → numerators_on (xs ++ ys) c ≡ Some ns
told-before [] ys c ns is = cc
told-before (r ∷ rs) ys c ns is = by (r.condition == c) (numerators_on rs c) (numerators_on (rs ++ ys) c) (told-before rs ys c ns) is
  where
    by : (b : Bool) (before after : Option (List ℕ)) → (before ≡ Some ns → after ≡ Some ns) → cond b (Some r.numerators) before ≡ Some ns → cond b (Some r.numerators) after ≡ Some ns
    by true before after rest e = e
    by false before after rest e = rest e

-- and what isn't told before is what is told behind
pub told-behind : (xs ys : List Payouts) (c : ℕ) → numerators_on xs c ≡ None → numerators_on (xs ++ ys) c ≡ numerators_on ys c
told-behind [] ys c none = refl
told-behind (r ∷ rs) ys c none = by (r.condition == c) (numerators_on rs c) (numerators_on (rs ++ ys) c) (told-behind rs ys c) none
  where
    by : (b : Bool) (before after : Option (List ℕ)) → (before ≡ None → after ≡ numerators_on ys c) → cond b (Some r.numerators) before ≡ None → cond b (Some r.numerators) after ≡ numerators_on ys c
    by true before after rest e = cc
    by false before after rest e = rest e

-- where nothing is told of a condition by two lists, neither tells of it
pub none-told-before : (xs ys : List Payouts) (c : ℕ) → numerators_on (xs ++ ys) c ≡ None → numerators_on xs c ≡ None
none-told-before xs ys c none = by (numerators_on xs c) refl
  where
    by : (o : Option (List ℕ)) → numerators_on xs c ≡ o → o ≡ None
    by None is = refl
    by (Some ns) is = absurd (clash ns (sym none ∙ told-before xs ys c ns is))
      where
        clash : (ns : List ℕ) → ◌≡◌ {A = Option (List ℕ)} None (Some ns) → ⊥
        clash ns e = cc

pub none-told-behind : (xs ys : List Payouts) (c : ℕ) → numerators_on (xs ++ ys) c ≡ None → numerators_on ys c ≡ None
none-told-behind xs ys c none = sym (told-behind xs ys c (none-told-before xs ys c none)) ∙ none
