-- What may come out of the conditions of a history.
use Rattle.std.specs.Prelude.{◌≡◌, ◌==◌, ℕ, ◌+◌, ◌<◌, ◌≤◌, List, [], ◌∷◌, All, slice_get, Option, Some, if◌then◌else◌}
use Rattle.condition_table.specs.declared.facts.Facts.{Facts}

-- an outcome gives one slot for each condition, by its number: the slot that wins
abbrev pub Outcome : Type 0
Outcome = ℕ → ℕ

-- the same outcome but for one condition, of which a slot wins
abbrev pub with_slot : Outcome → ℕ → ℕ → Outcome
with_slot outcome condition slot other = if other == condition then slot else outcome other

-- how many of some questions come out YES, which is their first slot
abbrev pub winners : Outcome → List ℕ → ℕ
winners outcome [] = 0
winners outcome (question ∷ questions) = (if outcome question == 0 then 1 else 0) + winners outcome questions

-- what decides on the outcomes that may still come: the conditions, the answers to those that are questions, as numerators,
-- and the questions of each event
pub record Outlook : Type 0 where
  pub conditions : List Facts
  pub answers : ℕ → Option (List ℕ)
  pub events : List (List ℕ)

-- An outcome is lawful where each slot is one of its condition, the slot of an answered question is the one that its answer
-- gives 1, and at most one question of each event comes out YES.
-- Source: Polymarket, NegRiskAdapter: at most one question of an event comes out YES.
pub record IsLawful (outlook : Outlook) (outcome : Outcome) : Type 0 where
  pub slots : (condition : ℕ) (facts : Facts) → slice_get outlook.conditions condition ≡ Some facts → outcome condition < facts.slots
  pub answers : (condition : ℕ) (numerators : List ℕ) → outlook.answers condition ≡ Some numerators → slice_get numerators (outcome condition) ≡ Some 1
  pub one_winner : All (λ questions. winners outcome questions ≤ 1) outlook.events

-- one question of each event comes out YES
abbrev pub HaveWinners : Outcome → List (List ℕ) → Type 0
HaveWinners outcome events = All (λ questions. winners outcome questions ≡ 1) events
