-- The last offer that has a candidate, looked for from the end.
use Rattle.std.proofs.Common.{◌≡◌, ℕ, ◌+◌, ◌-◌, ◌<◌, ◌≤◌, Bool, true, false, cond, List, [], ◌∷◌, ◌++◌, length, take, drop, get_or, Option, Some, None, refl, sym, ◌∙◌, ap, arith}
use Rattle.std.proofs.lemmas.List.{drop_more, take-append-drop}
use Rattle.book_propose.specs.Proposals.{has_candidate, last_taker, or_this}
use Rattle.book_shelves.specs.declared.offer.Offer.{Offer}

or_this-none : (a : Option Offer) → or_this a None ≡ a
or_this-none None = refl
or_this-none (Some o) = refl

or_this-assoc : (a b c : Option Offer) → or_this (or_this a b) c ≡ or_this a (or_this b c)
or_this-assoc None b c = refl
or_this-assoc (Some o) b c = refl

-- of two lists one behind the other it is in the second, where there is one
last_taker-append : (snapshot xs ys : List Offer) → last_taker snapshot (xs ++ ys) ≡ or_this (last_taker snapshot ys) (last_taker snapshot xs)
last_taker-append snapshot [] ys = sym (or_this-none (last_taker snapshot ys))
last_taker-append snapshot (x ∷ xs) ys =
    let here : Option Offer = cond (has_candidate snapshot x) (Some x) None in
    ap (λ (o : Option Offer). or_this o here) (last_taker-append snapshot xs ys) ∙ or_this-assoc (last_taker snapshot ys) (last_taker snapshot xs) here

-- one offer more, going down, where none behind it has a candidate
module _ (snapshot : List Offer) (n : ℕ) (o : Offer) (some : 0 < n) (inside : n ≤ length snapshot) (here : get_or snapshot (n - 1) o ≡ o) (none : last_taker snapshot (drop n snapshot) ≡ None) where
  stepped : last_taker snapshot (drop (n - 1) snapshot) ≡ cond (has_candidate snapshot o) (Some o) None
  stepped =
      let at : n - 1 + 1 ≡ n = omega arith in
      let within : n - 1 < length snapshot = omega arith in
      rw (drop_more snapshot (n - 1) o within, at, here, none) refl

  pub taker_there : has_candidate snapshot o ≡ true → last_taker snapshot snapshot ≡ Some o
  taker_there has =
      let found : last_taker snapshot (drop (n - 1) snapshot) ≡ Some o = stepped ∙ ap (λ (b : Bool). cond b (Some o) None) has in
      ap (last_taker snapshot) (sym (take-append-drop (n - 1) snapshot))
      ∙ last_taker-append snapshot (take (n - 1) snapshot) (drop (n - 1) snapshot)
      ∙ ap (λ (a : Option Offer). or_this a (last_taker snapshot (take (n - 1) snapshot))) found

  pub taker_before : has_candidate snapshot o ≡ false → last_taker snapshot (drop (n - 1) snapshot) ≡ None
  taker_before has = stepped ∙ ap (λ (b : Bool). cond b (Some o) None) has
