-- Lists with one pair moved to a place, or from it.
use Rattle.std.proofs.Common.{◌≡◌, ℕ, suc, ◌+◌, ◌-◌, ◌<◌, [], ◌∷◌, ◌++◌, length, take, drop, get_or, insert, ap, sym, ◌∙◌, arith, length-drop}
use Rattle.std.proofs.Math.ListN.{set}
use Rattle.std.proofs.Math.Seq.{take-append-add}
use Rattle.std.proofs.lemmas.List.{set_at, length_push, length-take-le, drop_more, drop_all}
use Rattle.collection_keys.specs.Collections.{Pairs}

-- the last pair of a list is replaced
pub set_last : (front : Pairs) (p q : ℕ × ℕ) → set (front ++ p ∷ []) (length (front ++ p ∷ []) - 1) q ≡ front ++ q ∷ []
set_last front p q = set_at front p [] q (length (front ++ p ∷ []) - 1) (omega (arith, length_push front p))

-- the last pair of a list that isn't empty, by itself
drop-last : (xs : Pairs) → 0 < length xs → drop (length xs - 1) xs ≡ get_or xs (length xs - 1) (0, 0) ∷ []
drop-last xs some =
    let below : length xs - 1 < length xs = omega arith in
    drop_more xs (length xs - 1) (0, 0) below
    ∙ ap (λ rest. get_or xs (length xs - 1) (0, 0) ∷ rest) (drop_all (length xs - 1 + 1) xs (omega arith))

-- the last pair of a list is moved to a place and replaced there
pub set-moved : (xs : Pairs) (place : ℕ) (p : ℕ × ℕ) → place < length xs
    → set (take place xs ++ (drop (length (drop place xs) - 1) (drop place xs) ++ take (length (drop place xs) - 1) (drop place xs))) place p
    ≡ take (length xs) (insert xs place p)
set-moved xs place p within =
    let front : Pairs = take place xs in
    let rest : Pairs = drop place xs in
    let many = length rest - 1 in
    let front_long : length front ≡ place = length-take-le place xs (omega arith) in
    let some : 0 < length rest = omega (arith, length-drop place xs) in
    let long : length front + suc many ≡ length xs = omega (arith, front_long, length-drop place xs) in
    let last = get_or rest many (0, 0) in
    let put : set (front ++ ((last ∷ []) ++ take many rest)) place p ≡ front ++ p ∷ take many rest
    = set_at front last (take many rest) p place front_long in
    let cut : take (length xs) (front ++ p ∷ rest) ≡ front ++ p ∷ take many rest
    = rw (← long) (take-append-add front (p ∷ rest) (suc many)) in
    rw (drop-last rest some) put ∙ sym cut
