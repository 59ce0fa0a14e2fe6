-- What is read off a history, in one go over its acts: the conditions, what was reported on them, the events of questions
-- with what was answered to these, the orders as they were placed, and what was posted.
-- Source: Gnosis Conditional Tokens, developer documentation; Polymarket, NegRiskAdapter, of events.
use Rattle.std.specs.Prelude.{◌==◌, ℕ, ◌-◌, Bool, true, false, List, [], ◌∷◌, ◌++◌, length, fold, slice_get, slice_set, Option, Some, None, if◌then◌else◌}
use Rattle.collection_keys.specs.Collections.{Pairs, root}
use Rattle.command_words.specs.declared.command.Command.{Command}
use Rattle.command_words.specs.declared.command.Command.TheVariants.{Deposit, Withdraw, Move, Prepare, Event, Split, Merge, Report, Answer, Redeem, Convert, Match}
use Rattle.command_words.specs.declared.act.Act.{Act}
use Rattle.condition_table.specs.declared.facts.Facts.{Facts}
use Rattle.convert_positions.specs.Converting.{convert_postings}
use Rattle.convert_positions.specs.Questions.{conditions_in}
use Rattle.event_table.specs.Events.{EventView, answered, no, numbers_from, question_in, questions_from, yes}
use Rattle.ledger_book.specs.Postings.{credit, debit, credits, debits}
use Rattle.ledger_book.specs.declared.posting.Posting.{Posting}
use Rattle.report_redeem.specs.Redeeming.{redeem_postings, redeem_sums}
use Rattle.split_merge.specs.Splitting.{parts_of, split_postings, merge_postings}
use Rattle.order_table.specs.declared.order.Placed.{Placed}
use Rattle.settle_core.specs.Keys.{whole_in}
use Rattle.settle_core.specs.Matches.{matched_in, parts_in}
use Rattle.settle_core.specs.Placing.{placed_by}

-- what was reported on a condition, or answered where it is a question's: a numerator for each of its slots
pub record Payouts : Type 0 where
  pub condition : ℕ
  pub numerators : List ℕ

-- the numerators of a condition, where some are told
abbrev pub numerators_on : List Payouts → ℕ → Option (List ℕ)
numerators_on [] condition = None
numerators_on (r ∷ rs) condition = if r.condition == condition then Some r.numerators else numerators_on rs condition

-- the conditions by their numbers, what was reported, what was answered, the events by their numbers, the questions of the
-- event of each conversion, the orders by their numbers, and what was posted, the oldest first
pub record Book : Type 0 where
  pub conditions : List Facts
  pub reports : List Payouts
  pub answers : List Payouts
  pub events : List EventView
  pub conversions : List (List ℕ)
  pub placed : List Placed
  pub postings : List Posting

abbrev pub blank : Book
blank = record { conditions = []; reports = []; answers = []; events = []; conversions = []; placed = []; postings = [] }

-- ---- what is posted

-- what an account holds of a collection: all that was paid to it, less all that was taken
abbrev pub held_in : Book → ℕ → Pairs → ℕ
held_in b a k = credits b.postings a k - debits b.postings a k

-- the numerators of a condition, reported or answered
abbrev pub told_on : Book → ℕ → Option (List ℕ)
told_on b condition = numerators_on (b.reports ++ b.answers) condition

-- what a redemption of a condition with these numerators posts over a book; where there are none it isn't accepted
abbrev pub redeemed_in : Book → ℕ → Pairs → ℕ → List ℕ → Option (List ℕ) → List Posting
redeemed_in b a parent condition sets None = []
redeemed_in b a parent condition sets (Some numerators) = redeem_postings (held_in b) a parent condition numerators sets

-- what it pays, set by set
abbrev pub sums_in : Book → ℕ → Pairs → ℕ → List ℕ → Option (List ℕ) → List ℕ
sums_in b a parent condition sets None = []
sums_in b a parent condition sets (Some numerators) = redeem_sums (held_in b) a parent condition numerators sets

-- what a conversion in an event posts; where there is none it isn't accepted
abbrev pub converted_in : Option EventView → ℕ → ℕ → ℕ → List Posting
converted_in None a set amount = []
converted_in (Some event) a set amount = convert_postings a amount event.bips set event.conditions

-- what a command of an account posts where it is accepted over a book; the others post nothing
abbrev pub postings_of : Book → ℕ → Command → List Posting
postings_of b a (Deposit to amount) = credit to root amount ∷ []
postings_of b a (Withdraw amount) = debit a root amount ∷ []
postings_of b a (Move to key amount) = debit a key amount ∷ credit to key amount ∷ []
postings_of b a (Split parent condition sets amount) = split_postings a (whole_in b.conditions parent condition sets) (parts_of parent condition sets) amount
postings_of b a (Merge parent condition sets amount) = merge_postings a (whole_in b.conditions parent condition sets) (parts_of parent condition sets) amount
postings_of b a (Redeem parent condition sets) = redeemed_in b a parent condition sets (told_on b condition)
postings_of b a (Convert event set amount) = converted_in (slice_get b.events event) a set amount
postings_of b a (Match taker fill makers) = matched_in (slice_get b.placed taker) fill (parts_in b.placed makers)
postings_of b a command = []

-- whether a command may post something
abbrev pub posts : Command → Bool
posts (Deposit to amount) = true
posts (Withdraw amount) = true
posts (Move to key amount) = true
posts (Split parent condition sets amount) = true
posts (Merge parent condition sets amount) = true
posts (Redeem parent condition sets) = true
posts (Convert event set amount) = true
posts (Match taker fill makers) = true
posts command = false

-- ---- what is prepared, reported, answered and converted, where a command is accepted

-- the conditions that a command prepares, where these events were made before
abbrev pub prepared_by : List EventView → Command → List Facts
prepared_by events (Prepare oracle question slots) = record { oracle = oracle; question = question; slots = slots } ∷ []
prepared_by events (Event oracle questions fee) = questions_from (length events) 0 questions
prepared_by events command = []

abbrev pub reported_by : Command → List Payouts
reported_by (Report condition payouts) = record { condition = condition; numerators = payouts } ∷ []
reported_by command = []

-- what an answer reports on the condition of its question
abbrev pub answer_of : Bool → List ℕ
answer_of true = yes
answer_of false = no

abbrev pub answer_on : Option ℕ → Bool → List Payouts
answer_on None won = []
answer_on (Some condition) won = record { condition = condition; numerators = answer_of won } ∷ []

abbrev pub answered_by : List EventView → Command → List Payouts
answered_by events (Answer event question won) = answer_on (question_in events event question) won
answered_by events command = []

-- the events after a command, where so many conditions were prepared before: one more, or one with an answer
abbrev pub answered_in : List EventView → ℕ → ℕ → Bool → Option EventView → List EventView
answered_in events e question won None = events
answered_in events e question won (Some event) = slice_set events e (answered event question (answer_of won))

abbrev pub events_after : ℕ → List EventView → Command → List EventView
events_after prepared events (Event oracle questions fee) = events ++ record { oracle = oracle; bips = fee; conditions = numbers_from prepared questions; winner = None } ∷ []
events_after prepared events (Answer event question won) = answered_in events event question won (slice_get events event)
events_after prepared events command = events

-- the questions of the event of a conversion
abbrev pub converted_by : List EventView → Command → List (List ℕ)
converted_by events (Convert event set amount) = conditions_in events event ∷ []
converted_by events command = []

abbrev pub entered : Book → Act → Book
entered book act = record {
  conditions = book.conditions ++ prepared_by book.events act.command;
  reports = book.reports ++ reported_by act.command;
  answers = book.answers ++ answered_by book.events act.command;
  events = events_after (length book.conditions) book.events act.command;
  conversions = book.conversions ++ converted_by book.events act.command;
  placed = book.placed ++ placed_by act.account act.command;
  postings = book.postings ++ postings_of book act.account act.command;
}

-- the book of a history, act by act
abbrev pub book : List Act → Book
book history = fold entered blank history

-- the conditions that the history prepared, numbered from 0
abbrev pub conditions : List Act → List Facts
conditions history = (book history).conditions

-- what the history reported, and what it answered
abbrev pub reports : List Act → List Payouts
reports history = (book history).reports

abbrev pub answers : List Act → List Payouts
answers history = (book history).answers

-- the numerators of a condition, reported or answered
abbrev pub told : List Act → ℕ → Option (List ℕ)
told history condition = told_on (book history) condition

-- the events that the history made, numbered from 0, and the questions of the event of each conversion
abbrev pub events : List Act → List EventView
events history = (book history).events

abbrev pub conversions : List Act → List (List ℕ)
conversions history = (book history).conversions

-- what the history posted
abbrev pub postings : List Act → List Posting
postings history = (book history).postings
