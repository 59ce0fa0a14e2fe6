-- The events of a history: lists of questions, each a condition of two slots, of which at most one comes out YES.
-- Source: Polymarket, NegRiskAdapter.
use Rattle.std.specs.Prelude.{◌≡◌, ◌==◌, ◌⊎◌, ℕ, zero, suc, ◌+◌, ◌*◌, ◌<◌, Bool, false, List, [], ◌∷◌, length, slice_get, Option, Some, None, option_and_then, if◌then◌else◌, MatchOption}
use Rattle.condition_sets.specs.declared.names.TheConstants.{EXCHANGE}
use Rattle.condition_table.specs.Conditions.{ConditionsView, numerators_at, place_of}
use Rattle.condition_table.specs.declared.facts.Facts.{Facts}
use Rattle.event_table.specs.declared.events.EventFacts.{EventFacts}

-- what contracts see of an event: who answers its questions, what a conversion of its shares costs in basis points, the
-- conditions of its questions by their places, and the place that was answered YES, where one was
pub record EventView : Type 0 where
  pub oracle : ℕ
  pub bips : ℕ
  pub conditions : List ℕ
  pub winner : Option ℕ

-- and of all of them: the events by their numbers, how many there may be, and how many questions the next may have
-- without taking memory
pub record EventsView : Type 0 where
  pub events : List EventView
  pub limit : ℕ
  pub room : ℕ

-- no condition is there twice
abbrev pub AreDistinct : List ℕ → Type 0
AreDistinct conditions = (i j c : ℕ) → slice_get conditions i ≡ Some c → slice_get conditions j ≡ Some c → i ≡ j

-- ---- what is read

abbrev pub facts_of : EventView → EventFacts
facts_of event = record { oracle = event.oracle; bips = event.bips; questions = length event.conditions }

-- the condition of a question, by its event and its place
abbrev pub question_in : List EventView → ℕ → ℕ → Option ℕ
question_in events e place = option_and_then (λ event. slice_get event.conditions place) (slice_get events e)

-- the place that was answered YES
abbrev pub winner_in : List EventView → ℕ → Option ℕ
winner_in events e = option_and_then (λ event. event.winner) (slice_get events e)

-- ---- an event more

-- what names the condition of a question: nobody but the exchange reports on it
abbrev pub question_facts : ℕ → ℕ → Facts
question_facts e place = record { oracle = EXCHANGE; question = 32 * e + place; slots = 2 }

-- the questions of an event from a place on, so many of them
abbrev pub questions_from : ℕ → ℕ → ℕ → List Facts
questions_from e place zero = []
questions_from e place (suc n) = question_facts e place ∷ questions_from e (suc place) n

-- so many numbers from one on
abbrev pub numbers_from : ℕ → ℕ → List ℕ
numbers_from first zero = []
numbers_from first (suc n) = first ∷ numbers_from (suc first) n

-- no question of an event is prepared
abbrev pub AreNew : ℕ → ℕ → List Facts → Type 0
AreNew e questions facts = (place : ℕ) → place < questions → place_of (question_facts e place) facts ≡ None

-- ---- answers

-- what YES and NO report: the slot of YES is the first
abbrev pub yes : List ℕ
yes = 1 ∷ 0 ∷ []

abbrev pub no : List ℕ
no = 0 ∷ 1 ∷ []

-- an answer to a question is YES or NO, once, and YES where no other question of its event was answered so
pub record MayAnswer (event : EventView) (table : ConditionsView) (condition : ℕ) (numerators : List ℕ) : Type 0 where
  pub form : (numerators ≡ yes) ⊎ (numerators ≡ no)
  pub first : numerators_at table.numerators condition ≡ None
  pub two_slots : MatchOption (slice_get table.facts condition) ⊥ (λ f. f.slots ≡ 2)
  pub one_winner : numerators ≡ yes → event.winner ≡ None

-- the first numerator of YES is 1
abbrev pub is_yes : List ℕ → Bool
is_yes [] = false
is_yes (n ∷ ns) = n == 1

-- an event after an answer to the question at a place
abbrev pub answered : EventView → ℕ → List ℕ → EventView
answered event place numerators = if is_yes numerators then record event { winner = Some place } else event
