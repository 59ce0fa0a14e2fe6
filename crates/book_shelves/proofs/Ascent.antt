-- Ascending numbers: a higher one behind them, some of them alone, and one that is looked for and taken out.
use Rattle.std.proofs.Common.{◌≡◌, ◌≢◌, ℕ, zero, suc, ◌<◌, ◌≤◌, Bool, true, false, cond, List, [], ◌∷◌, ◌++◌, length, refl, sym, ◌∙◌, ap, subst, arith, inl, inr, get_or, nat_cmp, eq-eqb, Ok, Err}
use Rattle.std.specs.Prelude.{All, Contains, filter}
use Rattle.std.specs.List.{AllPairs, remove}
use Rattle.std.specs.List.Sorted.{IsBinarySearchResult}
use Rattle.std.proofs.lemmas.Bool.{ne_eqb}
use Rattle.std.proofs.lemmas.List.{get_or_default, map-append}
use Rattle.std.proofs.lemmas.List.Elements.{All-filter, All-get_or, All-head, All-map, All-nil, All-push, All-tail}
use Rattle.std.proofs.lemmas.List.Kept.{AllPairs-cons}
use Rattle.std.proofs.lemmas.List.Sorted.{searched}
use Rattle.std.proofs.lemmas.Bool.{cases_order}
use Rattle.book_shelves.specs.Shelves.{IsAscending, IsSnapshot, numbers_of, without}
use Rattle.book_shelves.specs.declared.offer.Offer.{Offer}

-- a number above all others stands behind them
pub IsAscending-push : (numbers : List ℕ) (o : ℕ) → IsAscending numbers → All (λ n. n < o) numbers → IsAscending (numbers ++ o ∷ [])
IsAscending-push [] o ascends above = (All-nil (λ m. o < m), tt)
IsAscending-push (n ∷ behind) o ascends above = (
  All-push (λ m. n < m) behind o ascends.0 (All-head (λ m. m < o) n behind above),
  IsAscending-push behind o ascends.1 (All-tail (λ m. m < o) n behind above),
)

-- some of them, in their order
pub IsAscending-filter : (p : ℕ → Bool) (numbers : List ℕ) → IsAscending numbers → IsAscending (filter p numbers)
IsAscending-filter p [] ascends = tt
IsAscending-filter p (n ∷ behind) ascends = kept (p n) (IsAscending-filter p behind ascends.1)
  where
    kept : (b : Bool) → IsAscending (filter p behind) → IsAscending (cond b (n ∷ filter p behind) (filter p behind))
    kept true rest = (All-filter p (λ m. n < m) behind ascends.0, rest)
    kept false rest = rest

-- each is below all later ones
AllPairs-from_ascending : (numbers : List ℕ) → IsAscending numbers → AllPairs (λ n m. n < m) numbers
AllPairs-from_ascending [] ascends = λ i j d before within. absurd (omega (arith, within))
AllPairs-from_ascending (n ∷ behind) ascends = AllPairs-cons (λ x y. x < y) n behind ascends.0 (AllPairs-from_ascending behind ascends.1)

-- none of them falls
never_falls : (numbers : List ℕ) → IsAscending numbers → (i j : ℕ) → i ≤ j → j < length numbers → get_or numbers i 0 ≤ get_or numbers j 0
never_falls numbers ascends i j before within =
    elim (cases_order i j) [
      | inl same ↦ rw same (omega arith)
      | inr apart ↦
          elim apart [
            | inl below ↦ omega (arith, AllPairs-from_ascending numbers ascends i j 0 below within)
            | inr above ↦ absurd (omega (arith, before, above))
          ]
    ]

-- ---- a number that is taken out

-- nothing goes where all are above it
without-above : (o : ℕ) (numbers : List ℕ) → All (λ n. o < n) numbers → without o numbers ≡ numbers
without-above o [] above = refl
without-above o (n ∷ behind) above =
    let apart : n ≢ o = λ same. omega (arith, same, All-head (λ m. o < m) n behind above) in
    rw (ne_eqb n o apart, without-above o behind (All-tail (λ m. o < m) n behind above)) refl

-- the number at a place goes alone
remove-without : (o : ℕ) (numbers : List ℕ) (i : ℕ) → IsAscending numbers → i < length numbers → get_or numbers i 0 ≡ o → remove numbers i ≡ without o numbers
remove-without o [] i ascends within here = absurd (omega (arith, within))
remove-without o (n ∷ behind) zero ascends within here =
    let above : All (λ m. o < m) behind = subst (λ (k : ℕ). All (λ m. k < m) behind) here ascends.0 in
    rw (eq-eqb n o here) (sym (without-above o behind above))
remove-without o (n ∷ behind) (suc i) ascends within here =
    let inside : i < length behind = omega (arith, within) in
    let below = All-get_or (λ m. n < m) behind i 0 inside ascends.0 in
    let apart : n ≢ o = λ same. omega (arith, same, here, below) in
    rw (ne_eqb n o apart) (ap (λ (rest : List ℕ). n ∷ rest) (remove-without o behind i ascends.1 inside here))

-- what a search finds
pub found : (numbers : List ℕ) (o i : ℕ) → IsAscending numbers → IsBinarySearchResult (λ n. nat_cmp n o) numbers (Ok i) → remove numbers i ≡ without o numbers
found numbers o i ascends search_says =
    let at = searched numbers o (Ok i) search_says (never_falls numbers ascends) in
    remove-without o numbers i ascends at.0 at.1

-- a search misses no number
pub missed : (numbers : List ℕ) (o i : ℕ) → IsAscending numbers → IsBinarySearchResult (λ n. nat_cmp n o) numbers (Err i) → Contains numbers o → ⊥
missed numbers o i ascends search_says there =
    let at = searched numbers o (Err i) search_says (never_falls numbers ascends) in
    let is : get_or numbers there.0 0 ≡ o = get_or_default numbers there.0 0 o there.1 ∙ there.2 in
    elim (cases_order there.0 i) [
      | inl same ↦ let above = at.2 there.0 (omega (arith, same)) there.1 in omega (arith, is, above)
      | inr apart ↦
          elim apart [
            | inl before ↦ let below = at.1 there.0 before in omega (arith, is, below)
            | inr behind ↦ let above = at.2 there.0 (omega (arith, behind)) there.1 in omega (arith, is, above)
          ]
    ]

-- nothing goes where it isn't there
pub without-absent : (o : ℕ) (numbers : List ℕ) → (Contains numbers o → ⊥) → without o numbers ≡ numbers
without-absent o [] absent = refl
without-absent o (n ∷ behind) absent =
    let apart : n ≢ o = λ same. absent (zero, omega arith, same) in
    rw (ne_eqb n o apart, without-absent o behind (λ there. absent (suc there.0, omega (arith, there.1), there.2))) refl

-- ---- snapshots

pub IsSnapshot-push : (offers : List Offer) (offer : Offer) → IsSnapshot offers → All (λ before. before.order < offer.order) offers → offer.rest ≤ offer.limit.making → IsSnapshot (offers ++ offer ∷ [])
IsSnapshot-push offers offer so_far above within = record {
  ascends = subst IsAscending (sym (map-append (λ (o : Offer). o.order) offers (offer ∷ []))) (IsAscending-push (numbers_of offers) offer.order so_far.ascends (All-map (λ n. n < offer.order) (λ (o : Offer). o.order) offers above));
  within = All-push (λ (o : Offer). o.rest ≤ o.limit.making) offers offer so_far.within within;
}
