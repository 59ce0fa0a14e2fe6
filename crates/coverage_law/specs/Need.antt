-- What all holdings are worth together, and when a vault covers it.
use Rattle.std.specs.Prelude.{◌≡◌, ℕ, ◌-◌, ◌*◌, ◌≤◌, List, sum_by}
use Rattle.collection_keys.specs.Collections.{Pairs}
use Rattle.ledger_book.specs.declared.posting.Posting.{Posting}
use Rattle.coverage_law.specs.Outcomes.{Outcome}
use Rattle.coverage_law.specs.Worth.{Results, worth, denominator}

-- what postings pay, in what it is worth; and what they take
unfoldable pub paid_worth : (Pairs → ℕ) → List Posting → ℕ
paid_worth value ps = sum_by (λ p. p.paid * value p.collection) ps

unfoldable pub taken_worth : (Pairs → ℕ) → List Posting → ℕ
taken_worth value ps = sum_by (λ p. p.taken * value p.collection) ps

-- what all that accounts hold is worth: all that was paid to them, less all that was taken
abbrev pub need : (Pairs → ℕ) → List Posting → ℕ
need value ps = paid_worth value ps - taken_worth value ps

-- what holdings of some positions are worth, position by position
abbrev pub held_worth : (Pairs → ℕ) → (ℕ → Pairs → ℕ) → List (ℕ × Pairs) → ℕ
held_worth value held positions = sum_by (λ p. held p.0 p.1 * value p.1) positions

-- at an outcome a vault covers what all that accounts hold is worth, of which each unit that it has is worth the denominator
abbrev pub IsCovered : Results → Outcome → List Posting → ℕ → Type 0
IsCovered results outcome ps vault = need (worth results outcome) ps ≤ vault * denominator results

-- it has exactly that
abbrev pub IsExact : Results → Outcome → List Posting → ℕ → Type 0
IsExact results outcome ps vault = need (worth results outcome) ps ≡ vault * denominator results
