-- The verdict on a command: the refusal with the lowest number whose condition holds, or none.
use Rattle.std.specs.Prelude.{List, [], ◌∷◌, Option, Some, None, Contains, Result, Ok, Err, ◌≡◌, ⊤}
use Rattle.command_words.specs.declared.act.Act.{Act}
use Rattle.command_words.specs.declared.refusal.Refusal.{Refusal}
use Rattle.command_words.specs.declared.refusal.Refusal.TheVariants.{Memory}
use Rattle.settle_core.specs.Bounds.{Bounds}
use Rattle.settle_core.specs.Refusals.{Question, not_allowed, no_condition, already_prepared, table_full, bad_set, bad_partition, already_held, too_deep, already_reported, bad_payouts, not_reported, no_event, determined, no_market, no_order, not_open, order_expired, nonce_old, self_match, repeated_order, wrong_pair, not_crossing, overfill, unfunded, exchange_short, too_little, still_funded, vault_limit, supply_limit, entries_limit, history_full}

-- an act as the question that it answered
abbrev pub question_of : Bounds → List Act → Act → Question
question_of limits history act =
    record { limits = limits; history = history; account = act.account; command = act.command; moment = act.moment }

-- every refusal whose condition holds, in the order of their numbers, which are 5 to 35
abbrev pub refusals : Question → List (Option Refusal)
refusals q =
    not_allowed q ∷ no_condition q ∷ already_prepared q ∷ table_full q
    ∷ bad_set q ∷ bad_partition q ∷ already_held q ∷ too_deep q
    ∷ already_reported q ∷ bad_payouts q ∷ not_reported q ∷ no_event q ∷ determined q
    ∷ no_market q ∷ no_order q ∷ not_open q ∷ order_expired q ∷ nonce_old q
    ∷ self_match q ∷ repeated_order q ∷ wrong_pair q ∷ not_crossing q ∷ overfill q
    ∷ unfunded q ∷ exchange_short q ∷ too_little q ∷ still_funded q
    ∷ vault_limit q ∷ supply_limit q ∷ entries_limit q ∷ history_full q ∷ []

-- the condition of the refusal holds
abbrev pub Applies : Question → Refusal → Type 0
Applies q refusal = Contains (refusals q) (Some refusal)

-- the first that is there
abbrev pub first_some : {X : Type 0} → List (Option X) → Option X
first_some [] = None
first_some (None ∷ rest) = first_some rest
first_some (Some x ∷ rest) = Some x

-- the refusal with the lowest number whose condition holds; none where the command is accepted
unfoldable pub verdict : Question → Option Refusal
verdict q = first_some (refusals q)

-- A call answers by the verdict: it succeeds only where that is none, and refuses by it alone, want of memory aside.
abbrev pub AnsweredBy : {X : Type 0} → Option Refusal → Result X Refusal → Type 0
AnsweredBy given (Ok x) = given ≡ None
AnsweredBy given (Err Memory) = ⊤
AnsweredBy given (Err refusal) = given ≡ Some refusal
