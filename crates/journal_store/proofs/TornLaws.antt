-- What a write leaves of the bytes before a place and behind its range.
use Rattle.std.proofs.Common.{◌≡◌, ℕ, ◌+◌, ◌<◌, ◌≤◌, List, sym, ◌∙◌, arith, length, take, drop, length-take, length-drop}
use Rattle.std.proofs.lemmas.List.{ext_get_or, get_or-take, get_or-drop}
use Rattle.journal_disk.specs.Images.{IsTorn}

-- the bytes before the range stay
pub torn-front : (place count : ℕ) (before after : List ℕ) → place ≤ length before → IsTorn place count before after → take place after ≡ take place before
torn-front place count before after inside torn =
    ext_get_or 0 (take place after) (take place before)
    (omega (arith, length-take place after, length-take place before, torn.at_least, inside))
    (λ i short.
    let early : i < place = omega (arith, short, length-take place after) in
    get_or-take place after i 0 early ∙ (torn.below i early (omega (arith, early, inside)) ∙ sym (get_or-take place before i 0 early)))

-- a write inside leaves the bytes behind its range, and the length
pub torn-behind : (place count : ℕ) (before after : List ℕ) → place + count ≤ length before → IsTorn place count before after → drop (place + count) after ≡ drop (place + count) before
torn-behind place count before after inside torn =
    let long : length after ≡ length before = omega (arith, torn.at_least, torn.at_most, inside) in
    ext_get_or 0 (drop (place + count) after) (drop (place + count) before)
    (omega (arith, length-drop (place + count) after, length-drop (place + count) before, long))
    (λ i short.
    let within : place + count + i < length before = omega (arith, short, length-drop (place + count) after, long) in
    get_or-drop (place + count) after i 0 ∙ (torn.above (place + count + i) (omega arith) within ∙ sym (get_or-drop (place + count) before i 0)))
