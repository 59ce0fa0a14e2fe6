-- The question whose turn it is was found short.
use Rattle.std.proofs.Common.{◌≡◌, ℕ, ◌+◌, Bool, true, false, List, Option, None, Some, drop, refl, sym, ◌∙◌, ap}
use Rattle.std.specs.Prelude.{cond, ◌==◌, nat_lt, slice_get, Err}
use Rattle.std.specs.Int.{bit_at}
use Rattle.collection_keys.specs.Collections.{Pairs}
use Rattle.convert_positions.proofs.Places.{short-here, short-later}
use Rattle.convert_positions.specs.Converting.{no_of, short_from}
use Rattle.ledger_book.specs.Planning.{PlannedBy}
use Rattle.ledger_book.specs.declared.plan_fault.PlanFault.{PlanFault}
use Rattle.ledger_book.specs.declared.plan_fault.PlanFault.TheVariants.{Short, Memory}

-- what is found at one place
abbrev pub found_at : (Pairs → ℕ) → ℕ → ℕ → Pairs → Option (ℕ × ℕ)
found_at held amount place k = cond (nat_lt (held k) amount) (Some (place, held k)) None

found_none : (short : Bool) (first : ℕ × ℕ) → cond short (Some first) None ≡ None → short ≡ false
found_none true first none = cc
found_none false first none = refl

found_some : (short : Bool) (first found : ℕ × ℕ) → cond short (Some first) None ≡ Some found → (short ≡ true) × (first ≡ found)
found_some true first found some = (refl, cc)
found_some false first found some = cc

-- it is the first short one, or memory was wanting
pub short_there : (held : Pairs → ℕ) (amount set place c : ℕ) (cs : List ℕ) (k : Pairs) (fault : PlanFault) → slice_get cs place ≡ Some c → (bit_at set place == 1) ≡ true → k ≡ no_of c
    → PlannedBy (found_at held amount place k) (Err fault) → PlannedBy (short_from held amount set place (drop place cs)) (Err fault)
short_there held amount set place c cs k Memory is there same found = tt
short_there held amount set place c cs k (Short have at) is there same found =
    let parts = found_some (nat_lt (held k) amount) (place, held k) (at, have) found in
    let short : nat_lt (held (no_of c)) amount ≡ true = ap (λ (j : Pairs). nat_lt (held j) amount) (sym same) ∙ parts.0 in
    short-here held amount set place c cs is there short ∙ (ap (λ (j : Pairs). Some (place, held j)) (sym same) ∙ ap (λ (x : ℕ × ℕ). Some x) parts.1)

-- it isn't short
pub none_there : (held : Pairs → ℕ) (amount set place c : ℕ) (cs : List ℕ) (k : Pairs) → slice_get cs place ≡ Some c → (bit_at set place == 1) ≡ true → k ≡ no_of c
    → found_at held amount place k ≡ None → short_from held amount set place (drop place cs) ≡ short_from held amount set (place + 1) (drop (place + 1) cs)
none_there held amount set place c cs k is there same found =
    let enough : nat_lt (held (no_of c)) amount ≡ false = ap (λ (j : Pairs). nat_lt (held j) amount) (sym same) ∙ found_none (nat_lt (held k) amount) (place, held k) found in
    short-later held amount set place c cs is there enough
