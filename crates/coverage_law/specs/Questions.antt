-- The questions of an event, at an outcome.
-- Source: Polymarket, NegRiskAdapter: at most one question of an event comes out YES.
use Rattle.std.specs.Prelude.{◌≡◌, ℕ, ◌<◌, List, All, None}
use Rattle.coverage_law.specs.Outcomes.{Outcome}
use Rattle.coverage_law.specs.Worth.{Results}

-- a prepared condition of two slots on which no numerators count: an answer to it restricts the outcomes in their stead
pub record IsQuestion (results : Results) (outcome : Outcome) (condition : ℕ) : Type 0 where
  pub prepared : condition < results.conditions
  pub unreported : results.numerators condition ≡ None
  pub two_slots : outcome condition < 2

abbrev pub AreQuestions : Results → Outcome → List ℕ → Type 0
AreQuestions results outcome questions = All (IsQuestion results outcome) questions
