-- What the holdings of a history are worth, and whether its vault can pay them.
use Rattle.std.specs.Prelude.{◌≡◌, ℕ, List, [], length, map}
use Rattle.command_words.specs.declared.act.Act.{Act}
use Rattle.coverage_law.specs.Need.{IsCovered, IsExact}
use Rattle.coverage_law.specs.Outcomes.{Outcome, Outlook, IsLawful, HaveWinners}
use Rattle.coverage_law.specs.Worth.{Results}
use Rattle.event_table.specs.Events.{EventView}
use Rattle.settle_core.specs.Book.{Book, book, conversions, reports, postings, numerators_on}
use Rattle.settle_core.specs.Postings.{vault}

-- what is known of the conditions: their number, and what was reported
abbrev pub results_of : Book → Results
results_of b = record { conditions = length b.conditions; numerators = numerators_on b.reports }

-- the questions of each event
abbrev pub questions_of : List EventView → List (List ℕ)
questions_of events = map (λ event. event.conditions) events

-- what may still come out: each condition's slots, but for what was answered, and one YES at the most in each event
abbrev pub outlook_of : Book → Outlook
outlook_of b = record { conditions = b.conditions; answers = numerators_on b.answers; events = questions_of b.events }

-- the same of a history
abbrev pub results : List Act → Results
results history = results_of (book history)

abbrev pub outlook : List Act → Outlook
outlook history = outlook_of (book history)

-- The vault can pay: for every lawful outcome it covers what all holdings are worth. Where nothing was reported it is exactly
-- that where one question of each event comes out YES; and for that it is enough that one does of the questions of the event
-- of each conversion.
pub record CanPay (history : List Act) : Type 0 where
  pub covered : (outcome : Outcome) → IsLawful (outlook history) outcome → IsCovered (results history) outcome (postings history) (vault history)
  pub exact : reports history ≡ [] → (outcome : Outcome) → IsLawful (outlook history) outcome → HaveWinners outcome (outlook history).events → IsExact (results history) outcome (postings history) (vault history)
  pub exact_where_converted : reports history ≡ [] → (outcome : Outcome) → IsLawful (outlook history) outcome → HaveWinners outcome (conversions history) → IsExact (results history) outcome (postings history) (vault history)
