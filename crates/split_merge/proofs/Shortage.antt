-- The first place that is short, found from the left.
use Rattle.std.proofs.Common.{◌≡◌, ℕ, ◌+◌, ◌<◌, Bool, true, false, List, [], ◌∷◌, ◌++◌, Option, None, Some, suc, length, take, drop, get_or, refl, sym, ◌∙◌, ap, arith}
use Rattle.std.specs.Prelude.{map, cond, nat_lt, option_map, Err}
use Rattle.std.proofs.lemmas.List.{map_more, drop_more, map-append, take-append-drop, length-map, length-take-le}
use Rattle.collection_keys.specs.Collections.{Pairs}
use Rattle.ledger_book.specs.Planning.{first_short, PlannedBy}
use Rattle.ledger_book.specs.declared.plan_fault.PlanFault.{PlanFault}
use Rattle.ledger_book.specs.declared.plan_fault.PlanFault.TheVariants.{Short, Memory}

-- where a list has no short place, the first isn't and the rest has none
parts_of_none : (short : Bool) (first : ℕ × ℕ) (g : ℕ × ℕ → ℕ × ℕ) (rest : Option (ℕ × ℕ)) → cond short (Some first) (option_map g rest) ≡ None → (short ≡ false) × (rest ≡ None)
parts_of_none true first g rest none = cc
parts_of_none false first g None none = (refl, refl)
parts_of_none false first g (Some x) none = cc

-- one place more that isn't short
none_short-push : (held : Pairs → ℕ) (amount : ℕ) (ks : List Pairs) (k : Pairs) → first_short held amount ks ≡ None
    → nat_lt (held k) amount ≡ false → first_short held amount (ks ++ k ∷ []) ≡ None
none_short-push held amount [] k none enough = rw enough
none_short-push held amount (j ∷ ks) k none enough =
    let parts = parts_of_none (nat_lt (held j) amount) (0, held j) (λ short. (suc short.0, short.1)) (first_short held amount ks) none in
    let rest = none_short-push held amount ks k parts.1 enough in
    rw (parts.0, rest)

-- a short place behind some that aren't
short_behind : (held : Pairs → ℕ) (amount : ℕ) (ks ls : List Pairs) (k : Pairs) → first_short held amount ks ≡ None
    → nat_lt (held k) amount ≡ true → first_short held amount (ks ++ k ∷ ls) ≡ Some (length ks, held k)
short_behind held amount [] ls k none short = rw short
short_behind held amount (j ∷ ks) ls k none short =
    let parts = parts_of_none (nat_lt (held j) amount) (0, held j) (λ short. (suc short.0, short.1)) (first_short held amount ks) none in
    let rest = short_behind held amount ks ls k parts.1 short in
    rw (parts.0, rest)

-- what is found at one place
abbrev pub found_at : (Pairs → ℕ) → ℕ → ℕ → Pairs → Option (ℕ × ℕ)
found_at held amount place k = cond (nat_lt (held k) amount) (Some (place, held k)) None

found_none : (short : Bool) (first : ℕ × ℕ) → cond short (Some first) None ≡ None → short ≡ false
found_none true first none = cc
found_none false first none = refl

found_some : (short : Bool) (first found : ℕ × ℕ) → cond short (Some first) None ≡ Some found → (short ≡ true) × (first ≡ found)
found_some true first found some = (refl, cc)
found_some false first found some = cc

-- the next set's part isn't short
pub none_short_more : (held : Pairs → ℕ) (amount : ℕ) (f : ℕ → Pairs) (sets : List ℕ) (i set : ℕ) (k : Pairs) → i < length sets → set ≡ get_or sets i set → k ≡ f set
    → first_short held amount (map f (take i sets)) ≡ None → found_at held amount i k ≡ None → first_short held amount (map f (take (i + 1) sets)) ≡ None
none_short_more held amount f sets i set k inside item is none enough =
    let here : k ≡ f (get_or sets i set) = is ∙ ap f item in
    let at_k : first_short held amount (map f (take i sets) ++ k ∷ []) ≡ None = none_short-push held amount (map f (take i sets)) k none (found_none _ _ enough) in
    ap (first_short held amount) (map_more f sets i set inside ∙ ap (λ (j : Pairs). map f (take i sets) ++ j ∷ []) (sym here)) ∙ at_k

split_at : (f : ℕ → Pairs) (sets : List ℕ) (i set : ℕ) → i < length sets → map f sets ≡ map f (take i sets) ++ f (get_or sets i set) ∷ map f (drop (i + 1) sets)
split_at f sets i set inside =
    ap (map f) (sym (take-append-drop i sets) ∙ ap (λ (rest : List ℕ). take i sets ++ rest) (drop_more sets i set inside))
    ∙ map-append f (take i sets) (get_or sets i set ∷ drop (i + 1) sets)

-- the next set's part is short, or memory was wanting
pub short_there : (held : Pairs → ℕ) (amount : ℕ) (f : ℕ → Pairs) (sets : List ℕ) (i set : ℕ) (k : Pairs) (fault : PlanFault) → i < length sets → set ≡ get_or sets i set → k ≡ f set
    → first_short held amount (map f (take i sets)) ≡ None → PlannedBy (found_at held amount i k) (Err fault) → PlannedBy (first_short held amount (map f sets)) (Err fault)
short_there held amount f sets i set k Memory inside item is none found = tt
short_there held amount f sets i set k (Short have place) inside item is none found =
    let here : k ≡ f (get_or sets i set) = is ∙ ap f item in
    let parts = found_some (nat_lt (held k) amount) (i, held k) (place, have) found in
    let length_is : length (map f (take i sets)) ≡ i = length-map (take i sets) f ∙ length-take-le i sets (omega (arith, inside)) in
    ap (first_short held amount) (split_at f sets i set inside ∙ ap (λ (j : Pairs). map f (take i sets) ++ j ∷ map f (drop (i + 1) sets)) (sym here))
    ∙ (short_behind held amount (map f (take i sets)) (map f (drop (i + 1) sets)) k none parts.0
    ∙ (ap (λ (n : ℕ). Some (n, held k)) length_is ∙ ap (λ (x : ℕ × ℕ). Some x) parts.1))
