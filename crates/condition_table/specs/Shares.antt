-- What a report gives to the sets of a condition's slots.
-- Source: Gnosis Conditional Tokens, developer documentation: reporting and redeeming.
use Rattle.std.specs.Prelude.{ℕ, suc, ◌+◌, ◌*◌, List, [], ◌∷◌}
use Rattle.std.specs.Int.{bit_at}

-- the sum of what slots have, each as often as its numerator says
abbrev pub weighted : List ℕ → (ℕ → ℕ) → ℕ
weighted [] f = 0
weighted (n ∷ ns) f = n * f 0 + weighted ns (λ slot. f (suc slot))

-- the sum of the numerators of the slots that are in a set
abbrev pub numerators_in : List ℕ → ℕ → ℕ
numerators_in numerators set = weighted numerators (bit_at set)
