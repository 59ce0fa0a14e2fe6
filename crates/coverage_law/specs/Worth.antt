-- What collections are worth at an outcome, in whole numbers: parts of the common denominator of all reports.
use Rattle.std.specs.Prelude.{◌==◌, ℕ, zero, suc, ◌*◌, List, Option, Some, None, sum, if◌then◌else◌}
use Rattle.std.specs.Int.{bit_at}
use Rattle.collection_keys.specs.Collections.{Pairs, part}
use Rattle.condition_table.specs.Shares.{numerators_in}
use Rattle.coverage_law.specs.Outcomes.{Outcome}

-- What is known of the conditions: how many there are, and the numerators of each that was reported.
pub record Results : Type 0 where
  pub conditions : ℕ
  pub numerators : ℕ → Option (List ℕ)

-- the denominator of a condition: the sum of its numerators where it was reported, and else 1
abbrev pub denominator_of : Option (List ℕ) → ℕ
denominator_of None = 1
denominator_of (Some numerators) = sum numerators

-- what a set of a condition's slots gets of the denominator: its numerators where the condition was reported; else all or
-- nothing, as the slot that wins is in the set or not
abbrev pub share_of : Option (List ℕ) → ℕ → ℕ → ℕ
share_of None slot set = bit_at set slot
share_of (Some numerators) slot set = numerators_in numerators set

-- what one condition does to the worth of a collection: its set's share where the collection has the condition, and else
-- the whole denominator
abbrev pub factor_of : Option (List ℕ) → ℕ → Option ℕ → ℕ
factor_of numerators slot None = denominator_of numerators
factor_of numerators slot (Some set) = share_of numerators slot set

-- the product over the numbers below one
abbrev pub product_below : ℕ → (ℕ → ℕ) → ℕ
product_below zero f = 1
product_below (suc n) f = product_below n f * f n

-- what one unit of a collection is worth at an outcome: the product over all conditions
unfoldable pub worth : Results → Outcome → Pairs → ℕ
worth results outcome k = product_below results.conditions (λ c. factor_of (results.numerators c) (outcome c) (part k c))

-- the common denominator: what one unit of cash is worth
unfoldable pub denominator : Results → ℕ
denominator results = product_below results.conditions (λ c. denominator_of (results.numerators c))

-- a condition more is prepared, on which nothing is reported
abbrev pub prepared : Results → Results
prepared results = record { conditions = suc results.conditions; numerators = λ c. if c == results.conditions then None else results.numerators c }

-- numerators are reported on a condition
abbrev pub reported : Results → ℕ → List ℕ → Results
reported results condition numerators = record { conditions = results.conditions; numerators = λ c. if c == condition then Some numerators else results.numerators c }
