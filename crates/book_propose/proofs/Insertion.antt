-- Offers that are put in their places one after another: the first of them alone, their prices beside them, and what holds of
-- each.
use Rattle.std.proofs.Common.{◌≡◌, ℕ, zero, suc, ◌+◌, ◌<◌, ◌≤◌, Bool, true, false, cond, not, List, [], ◌∷◌, ◌++◌, length, take, drop, get_or, refl, sym, ◌∙◌, ap, arith}
use Rattle.std.specs.Prelude.{All, map, fold}
use Rattle.std.specs.List.{insert as insert_at, position_or_len}
use Rattle.std.proofs.lemmas.List.{append-nil, take_all, take_at, take-take, take-map}
use Rattle.std.proofs.lemmas.List.Elements.{All-cons, All-head, All-nil, All-tail, filter_more}
use Rattle.std.proofs.lemmas.List.Sums.{fold_push, prefix_len-le-length}
use Rattle.book_propose.specs.Candidates.{candidates, effective, insert, is_before, is_candidate, ranked}
use Rattle.book_propose.specs.Pricing.{comes_before, priced}
use Rattle.book_propose.specs.declared.priced.Priced.{Priced}
use Rattle.book_shelves.specs.declared.offer.Offer.{Offer}
use Rattle.order_rules.specs.declared.side.Side.{Side}

-- ---- the first so many

take-cons : (n : ℕ) (x : Offer) (xs : List Offer) → take n (x ∷ take n xs) ≡ take n (x ∷ xs)
take-cons zero x xs = refl
take-cons (suc n) x xs = ap (λ (ys : List Offer). x ∷ ys) (take-take n (suc n) xs (omega arith))

-- the first so many that one is put among give the first so many of all
pub take-insert : (taker o : Offer) (n : ℕ) (xs : List Offer) → take n (insert taker o (take n xs)) ≡ take n (insert taker o xs)
take-insert taker o zero xs = refl
take-insert taker o (suc n) [] = refl
take-insert taker o (suc n) (x ∷ xs) = by_place (is_before taker o x) (take-insert taker o n xs)
  where
    by_place : (b : Bool) → take n (insert taker o (take n xs)) ≡ take n (insert taker o xs)
        → take (suc n) (cond b (o ∷ x ∷ take n xs) (x ∷ insert taker o (take n xs))) ≡ take (suc n) (cond b (o ∷ x ∷ xs) (x ∷ insert taker o xs))
    by_place true behind = ap (λ (ys : List Offer). o ∷ ys) (take-cons n x xs)
    by_place false behind = ap (λ (ys : List Offer). x ∷ ys) behind

-- ---- with their prices

-- an offer is put before the first that it comes before
pub map-insert : (taker o : Offer) (xs : List Offer)
    → map (priced taker) (insert taker o xs) ≡ insert_at (map (priced taker) xs) (position_or_len (comes_before taker.limit.side (priced taker o)) (map (priced taker) xs)) (priced taker o)
map-insert taker o [] = refl
map-insert taker o (x ∷ xs) = by_place (is_before taker o x) (map-insert taker o xs)
  where
    ps : List Priced
    ps = map (priced taker) xs

    place : ℕ
    place = position_or_len (comes_before taker.limit.side (priced taker o)) ps

    by_place : (b : Bool) → map (priced taker) (insert taker o xs) ≡ insert_at ps place (priced taker o)
        → map (priced taker) (cond b (o ∷ x ∷ xs) (x ∷ insert taker o xs)) ≡ insert_at (priced taker x ∷ ps) (cond (not b) (1 + place) 0) (priced taker o)
    by_place true behind = refl
    by_place false behind =
        let next : 1 + place ≡ suc place = omega arith in
        rw next (ap (λ (qs : List Priced). priced taker x ∷ qs) behind)

-- one that is put behind so many isn't among the first so many
take-insert_at : (n i : ℕ) (p : Priced) (ps : List Priced) → length ps ≤ n → n ≤ i → i ≤ length ps → take n (insert_at ps i p) ≡ ps
take-insert_at n i p ps few behind inside =
    let all : take i ps ≡ ps = take_all i ps (omega arith) in
    rw all (take_at ps (p ∷ drop i ps) n (omega arith))

-- the best so many, with one offer more that has its place among them
module _ (taker o : Offer) (kept : List Offer) (n place price : ℕ) (side : Side) (best : List Priced) (best_is : best ≡ map (priced taker) kept)
    (side_is : side ≡ taker.limit.side) (price_is : price ≡ effective taker o) (place_is : place ≡ position_or_len (comes_before side (record { offer = o; price = price })) best) where
  put : insert_at best place (record { offer = o; price = price }) ≡ map (priced taker) (insert taker o kept)
  put = rw (place_is, side_is, price_is, best_is) (sym (map-insert taker o kept))

  -- where it stands among the first so many
  pub kept-inside : take n (insert_at best place (record { offer = o; price = price })) ≡ map (priced taker) (take n (insert taker o kept))
  kept-inside = ap (take n) put ∙ take-map (priced taker) n (insert taker o kept)

  -- and where it stands behind them
  pub kept-outside : length best ≤ n → n ≤ place → best ≡ map (priced taker) (take n (insert taker o kept))
  kept-outside few behind =
      let inside : place ≤ length best = omega (arith, place_is, prefix_len-le-length (λ q. not (comes_before side (record { offer = o; price = price }) q)) best) in
      sym (take-insert_at n place (record { offer = o; price = price }) best few behind inside) ∙ kept-inside

-- ---- over a snapshot

-- the best so many with one candidate more
pub ranked_more : (taker o : Offer) (n i : ℕ) (offers : List Offer) → i < length offers → get_or offers i o ≡ o → is_candidate taker o ≡ true
    → take n (ranked taker (candidates taker (take (i + 1) offers))) ≡ take n (insert taker o (take n (ranked taker (candidates taker (take i offers)))))
ranked_more taker o n i offers inside here candidate =
    let cs : List Offer = candidates taker (take i offers) in
    let more : candidates taker (take (i + 1) offers) ≡ cs ++ o ∷ [] = rw (filter_more (is_candidate taker) offers i o inside, here, candidate) refl in
    ap (λ (xs : List Offer). take n (ranked taker xs)) more
    ∙ ap (take n) (fold_push (λ (so_far : List Offer) (offer : Offer). insert taker offer so_far) [] cs o)
    ∙ sym (take-insert taker o n (ranked taker cs))

-- and with one more that is none
pub ranked_same : (taker o : Offer) (i : ℕ) (offers : List Offer) → i < length offers → get_or offers i o ≡ o → is_candidate taker o ≡ false
    → candidates taker (take (i + 1) offers) ≡ candidates taker (take i offers)
ranked_same taker o i offers inside here other = rw (filter_more (is_candidate taker) offers i o inside, here, other) (append-nil (candidates taker (take i offers)))

-- ---- what holds of each

pub All-insert : (P : Offer → Type 0) (taker o : Offer) (xs : List Offer) → P o → All P xs → All P (insert taker o xs)
All-insert P taker o [] here each = All-cons P o [] here (All-nil P)
All-insert P taker o (x ∷ xs) here each = by_place (is_before taker o x) (All-insert P taker o xs here (All-tail P x xs each))
  where
    by_place : (b : Bool) → All P (insert taker o xs) → All P (cond b (o ∷ x ∷ xs) (x ∷ insert taker o xs))
    by_place true behind = All-cons P o (x ∷ xs) here each
    by_place false behind = All-cons P x (insert taker o xs) (All-head P x xs each) behind

inserted : (P : Offer → Type 0) (taker : Offer) (so_far xs : List Offer) → All P so_far → All P xs → All P (fold (λ (ys : List Offer) (o : Offer). insert taker o ys) so_far xs)
inserted P taker so_far [] before each = before
inserted P taker so_far (x ∷ xs) before each =
    inserted P taker (insert taker x so_far) xs (All-insert P taker x so_far (All-head P x xs each) before) (All-tail P x xs each)

pub All-ranked : (P : Offer → Type 0) (taker : Offer) (xs : List Offer) → All P xs → All P (ranked taker xs)
All-ranked P taker xs each = inserted P taker [] xs (All-nil P) each

-- ---- how many

pub length-insert : (taker o : Offer) (xs : List Offer) → length (insert taker o xs) ≡ suc (length xs)
length-insert taker o [] = refl
length-insert taker o (x ∷ xs) = by_place (is_before taker o x) (length-insert taker o xs)
  where
    by_place : (b : Bool) → length (insert taker o xs) ≡ suc (length xs) → length (cond b (o ∷ x ∷ xs) (x ∷ insert taker o xs)) ≡ suc (suc (length xs))
    by_place true behind = refl
    by_place false behind = ap suc behind

length-inserted : (taker : Offer) (so_far xs : List Offer) → length (fold (λ (ys : List Offer) (o : Offer). insert taker o ys) so_far xs) ≡ length so_far + length xs
length-inserted taker so_far [] = omega arith
length-inserted taker so_far (x ∷ xs) = omega (arith, length-inserted taker (insert taker x so_far) xs, length-insert taker x so_far)

pub length-ranked : (taker : Offer) (xs : List Offer) → length (ranked taker xs) ≡ length xs
length-ranked taker xs = omega (arith, length-inserted taker [] xs)

-- ---- and back

-- the offers of those with prices
pub offers-priced : (taker : Offer) (os : List Offer) → map (λ (p : Priced). p.offer) (map (priced taker) os) ≡ os
offers-priced taker [] = refl
offers-priced taker (o ∷ os) = ap (λ (ps : List Offer). o ∷ ps) (offers-priced taker os)
