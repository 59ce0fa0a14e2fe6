-- The candidates of a taker stand in their order, each once.
use Rattle.std.proofs.Common.{◌≡◌, ◌≢◌, ℕ, zero, suc, ◌<◌, Bool, true, false, cond, not, List, [], ◌∷◌, take, get_or, refl, sym, arith}
use Rattle.std.specs.Prelude.{◌==◌, ◌↔◌, All, Contains, filter, fold}
use Rattle.std.proofs.lemmas.Bool.{eqb-false, ne_eqb, not-true}
use Rattle.std.proofs.lemmas.Bool.Decides.{nat_tests}
use Rattle.std.proofs.lemmas.List.Elements.{All-cons, All-contains, All-contains_itself, All-filter, All-head, All-nil, All-tail, All-take, All-weaker, Contains-append_right, filter_passes}
use Rattle.book_propose.specs.Candidates.{candidates, comes_first, effective, insert, is_before, is_candidate, ranked}
use Rattle.book_propose.specs.Proposals.{IsRanked}
use Rattle.book_propose.proofs.Insertion.{All-insert, All-ranked}
use Rattle.book_shelves.specs.Shelves.{IsAscending, IsSnapshot, numbers_of}
use Rattle.book_shelves.specs.declared.offer.Offer.{Offer}
use Rattle.order_rules.specs.declared.side.Side.{Side}
use Rattle.order_rules.specs.declared.side.Side.TheVariants.{Buy, Sell}

-- ---- by price and number

first-trans : (side : Side) (p n q m r k : ℕ) → comes_first side p n q m ≡ true → comes_first side q m r k ≡ true → comes_first side p n r k ≡ true
first-trans Buy p n q m r k one two = grind (arith, nat_tests)
first-trans Sell p n q m r k one two = grind (arith, nat_tests)

first-total : (side : Side) (p n q m : ℕ) → n ≢ m → comes_first side p n q m ≡ false → comes_first side q m p n ≡ true
first-total Buy p n q m apart other = grind (arith, nat_tests)
first-total Sell p n q m apart other = grind (arith, nat_tests)

-- ---- offers of different numbers

abbrev pub is_apart : Offer → Offer → Bool
is_apart a b = not (a.order == b.order)

apart_ne : (a b : Offer) → is_apart a b ≡ true → a.order ≢ b.order
apart_ne a b apart = eqb-false a.order b.order (not-true (a.order == b.order) apart)

ne_apart : (a b : Offer) → a.order ≢ b.order → is_apart a b ≡ true
ne_apart a b ne = let other : (a.order == b.order) ≡ false = ne_eqb a.order b.order ne in rw other refl

apart-sym : (a b : Offer) → is_apart a b ≡ true → is_apart b a ≡ true
apart-sym a b apart = ne_apart b a (λ same. apart_ne a b apart (sym same))

apart_behind : (o : Offer) (os : List Offer) → All (λ m. o.order < m) (numbers_of os) → All (λ p. is_apart o p ≡ true) os
apart_behind o [] above = All-nil (λ p. is_apart o p ≡ true)
apart_behind o (p ∷ ps) above =
    let higher : o.order < p.order = All-head (λ m. o.order < m) p.order (numbers_of ps) above in
    All-cons (λ q. is_apart o q ≡ true) p ps (ne_apart o p (λ same. omega (arith, same, higher))) (apart_behind o ps (All-tail (λ m. o.order < m) p.order (numbers_of ps) above))

-- as those of a snapshot are
apart_from_ascending : (os : List Offer) → IsAscending (numbers_of os) → IsRanked is_apart os
apart_from_ascending [] ascends = tt
apart_from_ascending (o ∷ os) ascends = (apart_behind o os ascends.0, apart_from_ascending os ascends.1)

-- ---- any such order

IsRanked-filter : (before : Offer → Offer → Bool) (p : Offer → Bool) (os : List Offer) → IsRanked before os → IsRanked before (filter p os)
IsRanked-filter before p [] in_order = tt
IsRanked-filter before p (o ∷ os) in_order = kept (p o) (IsRanked-filter before p os in_order.1)
  where
    kept : (b : Bool) → IsRanked before (filter p os) → IsRanked before (cond b (o ∷ filter p os) (filter p os))
    kept true behind = (All-filter p (λ q. before o q ≡ true) os in_order.0, behind)
    kept false behind = behind

IsRanked-take : (before : Offer → Offer → Bool) (n : ℕ) (os : List Offer) → IsRanked before os → IsRanked before (take n os)
IsRanked-take before zero os in_order = tt
IsRanked-take before (suc n) [] in_order = tt
IsRanked-take before (suc n) (o ∷ os) in_order = (All-take (λ q. before o q ≡ true) n os in_order.0, IsRanked-take before n os in_order.1)

-- where putting in one of a new number keeps it, putting in all of new numbers does
IsRanked-inserted : (before : Offer → Offer → Bool) (taker : Offer)
    → ((o : Offer) (os : List Offer) → All (λ p. is_apart o p ≡ true) os → IsRanked before os → IsRanked before (insert taker o os))
    → (so_far xs : List Offer) → IsRanked before so_far → All (λ x. All (λ p. is_apart x p ≡ true) so_far) xs → IsRanked is_apart xs
    → IsRanked before (fold (λ (ys : List Offer) (o : Offer). insert taker o ys) so_far xs)
IsRanked-inserted before taker keeps so_far [] in_order news apart = in_order
IsRanked-inserted before taker keeps so_far (x ∷ xs) in_order news apart =
    let new : All (λ p. is_apart x p ≡ true) so_far = All-head (λ y. All (λ p. is_apart y p ≡ true) so_far) x xs news in
    let others = All-tail (λ y. All (λ p. is_apart y p ≡ true) so_far) x xs news in
    IsRanked-inserted before taker keeps (insert taker x so_far) xs (keeps x so_far new in_order)
    (λ k y inside. All-insert (λ p. is_apart (get_or xs k y) p ≡ true) taker x so_far (apart-sym x (get_or xs k y) (apart.0 k y inside)) (others k y inside))
    apart.1

-- ---- the order of a taker

module _ (taker : Offer) where
  before-insert : (o : Offer) (os : List Offer) → All (λ p. is_apart o p ≡ true) os → IsRanked (is_before taker) os → IsRanked (is_before taker) (insert taker o os)
  before-insert o [] apart in_order = (All-nil (λ p. is_before taker o p ≡ true), tt)
  before-insert o (x ∷ xs) apart in_order = by_place (is_before taker o x) refl (before-insert o xs (All-tail (λ p. is_apart o p ≡ true) x xs apart) in_order.1)
    where
      by_place : (b : Bool) → is_before taker o x ≡ b → IsRanked (is_before taker) (insert taker o xs) → IsRanked (is_before taker) (cond b (o ∷ x ∷ xs) (x ∷ insert taker o xs))
      by_place true first behind = (
        All-cons (λ p. is_before taker o p ≡ true) x xs first
            (All-weaker (λ p. is_before taker x p ≡ true) (λ p. is_before taker o p ≡ true) (λ p later. first-trans taker.limit.side (effective taker o) o.order (effective taker x) x.order (effective taker p) p.order first later) xs in_order.0),
        in_order,
      )
      by_place false other behind =
          let ne : o.order ≢ x.order = apart_ne o x (All-head (λ p. is_apart o p ≡ true) x xs apart) in
          (All-insert (λ p. is_before taker x p ≡ true) taker o xs (first-total taker.limit.side (effective taker o) o.order (effective taker x) x.order ne other) in_order.0, behind)

  apart-insert : (o : Offer) (os : List Offer) → All (λ p. is_apart o p ≡ true) os → IsRanked is_apart os → IsRanked is_apart (insert taker o os)
  apart-insert o [] apart in_order = (All-nil (λ p. is_apart o p ≡ true), tt)
  apart-insert o (x ∷ xs) apart in_order = by_place (is_before taker o x) (apart-insert o xs (All-tail (λ p. is_apart o p ≡ true) x xs apart) in_order.1)
    where
      by_place : (b : Bool) → IsRanked is_apart (insert taker o xs) → IsRanked is_apart (cond b (o ∷ x ∷ xs) (x ∷ insert taker o xs))
      by_place true behind = (apart, in_order)
      by_place false behind = (All-insert (λ p. is_apart x p ≡ true) taker o xs (apart-sym o x (All-head (λ p. is_apart o p ≡ true) x xs apart)) in_order.0, behind)

  module _ (offers : List Offer) (snapshot : IsSnapshot offers) where
    apart : IsRanked is_apart (candidates taker offers)
    apart = IsRanked-filter is_apart (is_candidate taker) offers (apart_from_ascending offers snapshot.ascends)

    none_before : All (λ x. All (λ p. is_apart x p ≡ true) []) (candidates taker offers)
    none_before k x inside = All-nil (λ p. is_apart (get_or (candidates taker offers) k x) p ≡ true)

    pub in_order : IsRanked (is_before taker) (ranked taker (candidates taker offers))
    in_order = IsRanked-inserted (is_before taker) taker before-insert [] (candidates taker offers) tt none_before apart

    pub ranked-apart : (n : ℕ) → IsRanked is_apart (take n (ranked taker (candidates taker offers)))
    ranked-apart n = IsRanked-take is_apart n (ranked taker (candidates taker offers)) (IsRanked-inserted is_apart taker apart-insert [] (candidates taker offers) tt none_before apart)

-- ---- all of them

All-from_insert : (P : Offer → Type 0) (taker o : Offer) (xs : List Offer) → All P (insert taker o xs) → P o × All P xs
All-from_insert P taker o [] each = (All-head P o [] each, All-nil P)
All-from_insert P taker o (x ∷ xs) each = by_place (is_before taker o x) each (All-from_insert P taker o xs)
  where
    by_place : (b : Bool) → All P (cond b (o ∷ x ∷ xs) (x ∷ insert taker o xs)) → (All P (insert taker o xs) → P o × All P xs) → P o × All P (x ∷ xs)
    by_place true all behind = (All-head P o (x ∷ xs) all, All-tail P o (x ∷ xs) all)
    by_place false all behind =
        let both = behind (All-tail P x (insert taker o xs) all) in
        (both.0, All-cons P x xs (All-head P x (insert taker o xs) all) both.1)

all_inserted : (taker : Offer) (so_far xs : List Offer) → let final = fold (λ (ys : List Offer) (o : Offer). insert taker o ys) so_far xs in All (Contains final) so_far × All (Contains final) xs
all_inserted taker so_far [] = (All-contains_itself so_far, All-nil (Contains so_far))
all_inserted taker so_far (x ∷ xs) =
    let final : List Offer = fold (λ (ys : List Offer) (o : Offer). insert taker o ys) (insert taker x so_far) xs in
    let both = all_inserted taker (insert taker x so_far) xs in
    let here = All-from_insert (Contains final) taker x so_far both.0 in
    (here.1, All-cons (Contains final) x xs here.0 both.1)

kept_by : (p : Offer → Bool) (os : List Offer) → All (λ o. p o ≡ true → Contains (filter p os) o) os
kept_by p [] = All-nil (λ o. p o ≡ true → Contains [] o)
kept_by p (x ∷ xs) = kept (p x) refl (kept_by p xs)
  where
    kept : (b : Bool) → p x ≡ b → All (λ o. p o ≡ true → Contains (filter p xs) o) xs → All (λ o. p o ≡ true → Contains (cond b (x ∷ filter p xs) (filter p xs)) o) (x ∷ xs)
    kept true passes behind =
        All-cons (λ o. p o ≡ true → Contains (x ∷ filter p xs) o) x xs (λ _. All-head (Contains (x ∷ filter p xs)) x (filter p xs) (All-contains_itself (x ∷ filter p xs)))
        (λ k o inside candidate. Contains-append_right (x ∷ []) (filter p xs) (get_or xs k o) (behind k o inside candidate))
    kept false fails behind = All-cons (λ o. p o ≡ true → Contains (filter p xs) o) x xs (λ passes. cc) behind

both-filter : (p : Offer → Bool) (os : List Offer) → All (λ o. Contains os o × (p o ≡ true)) (filter p os)
both-filter p os k o inside = (All-filter p (Contains os) os (All-contains_itself os) k o inside, filter_passes p os k o inside)

pub candidates-are : (taker : Offer) (offers : List Offer) → All (λ o. Contains offers o × (is_candidate taker o ≡ true)) (ranked taker (candidates taker offers))
candidates-are taker offers = All-ranked (λ o. Contains offers o × (is_candidate taker o ≡ true)) taker (candidates taker offers) (both-filter (is_candidate taker) offers)

pub members : (taker : Offer) (offers : List Offer) (o : Offer) → Contains (ranked taker (candidates taker offers)) o ↔ (Contains offers o × (is_candidate taker o ≡ true))
members taker offers o = (
  λ there. All-contains (λ p. Contains offers p × (is_candidate taker p ≡ true)) (ranked taker (candidates taker offers)) o (candidates-are taker offers) there,
  λ both. All-contains (Contains (ranked taker (candidates taker offers))) (candidates taker offers) o (all_inserted taker [] (candidates taker offers)).1
      (All-contains (λ p. is_candidate taker p ≡ true → Contains (candidates taker offers) p) offers o (kept_by (is_candidate taker) offers) both.0 both.1),
)
