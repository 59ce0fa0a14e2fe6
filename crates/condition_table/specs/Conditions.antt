-- The conditions of a history, as a list of their facts and a list of what was reported on them.
-- Source: Gnosis Conditional Tokens, developer documentation.
use Rattle.std.specs.Prelude.{◌≡◌, ◌==◌, ℕ, ◌<◌, ◌&&◌, Bool, List, length, slice_get, Option, Some, option_and_then, position, sum}
use Rattle.condition_table.specs.declared.facts.Facts.{Facts}

-- what contracts see of a table: the facts of the conditions by their numbers, the numerators that were reported on each
-- or none, how many conditions there may be, and the room for more
pub record ConditionsView : Type 0 where
  pub facts : List Facts
  pub numerators : List (Option (List ℕ))
  pub limit : ℕ
  pub room : ℕ

-- whether two conditions are the same one
abbrev pub same_facts : Facts → Facts → Bool
same_facts a b = (b.oracle == a.oracle) && ((b.question == a.question) && (b.slots == a.slots))

-- the number of the condition of these facts, where it is prepared
abbrev pub place_of : Facts → List Facts → Option ℕ
place_of facts table = position (same_facts facts) table

-- the numerators of a condition, where it is prepared and reported
abbrev pub numerators_at : List (Option (List ℕ)) → ℕ → Option (List ℕ)
numerators_at numerators condition = option_and_then (λ reported. reported) (slice_get numerators condition)

-- numerators that may be reported on a condition of so many slots: one for each slot, and not all of them 0
pub record IsReport (slots : ℕ) (numerators : List ℕ) : Type 0 where
  pub each : length numerators ≡ slots
  pub some : 0 < sum numerators

-- what was reported on each condition may be
abbrev pub AreReports : List Facts → List (Option (List ℕ)) → Type 0
AreReports facts numerators =
    (condition : ℕ) (f : Facts) (ns : List ℕ) → slice_get facts condition ≡ Some f → numerators_at numerators condition ≡ Some ns → IsReport f.slots ns
