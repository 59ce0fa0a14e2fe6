-- What the calls that plan a command answer, where the command takes an amount of some collections, place by place.
use Rattle.std.specs.Prelude.{◌≡◌, ℕ, suc, nat_lt, if◌then◌else◌, ⊤, List, [], ◌∷◌, Option, Some, None, option_map, Result, Ok, Err}
use Rattle.collection_keys.specs.Collections.{Pairs}
use Rattle.ledger_book.specs.declared.plan_fault.PlanFault.{PlanFault}
use Rattle.ledger_book.specs.declared.plan_fault.PlanFault.TheVariants.{Short, Memory}

-- the first place of whose collection less is held than the amount, and what is held of it
abbrev pub first_short : (Pairs → ℕ) → ℕ → List Pairs → Option (ℕ × ℕ)
first_short held amount [] = None
first_short held amount (k ∷ ks) = if nat_lt (held k) amount then Some (0, held k) else option_map (λ short. (suc short.0, short.1)) (first_short held amount ks)

-- a command is planned where nothing is short, and is short only at the first place that is, want of memory aside
abbrev pub PlannedBy : Option (ℕ × ℕ) → Result Unit PlanFault → Type 0
PlannedBy short (Ok u) = short ≡ None
PlannedBy short (Err (Short have place)) = short ≡ Some (place, have)
PlannedBy short (Err Memory) = ⊤
