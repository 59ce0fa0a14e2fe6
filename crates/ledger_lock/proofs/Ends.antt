-- What stops a turn, and what a crossing tells of its end.
use Rattle.std.proofs.Common.{◌≡◌, ℕ, List, [], ◌∷◌, Option, Some, refl, ap, ◌∙◌, arith}
use Rattle.std.specs.Prelude.{Contains, Result, Err, option_map}
use Rattle.book_propose.specs.Proposals.{proposal}
use Rattle.book_propose.specs.declared.terms.MatchTerms.{MatchTerms}
use Rattle.command_words.specs.Refusal.{code_of}
use Rattle.command_words.specs.declared.act.Act.{Act}
use Rattle.command_words.specs.declared.command.Command.{Command}
use Rattle.command_words.specs.declared.refusal.Refusal.{Refusal}
use Rattle.command_words.specs.declared.refusal.Refusal.TheVariants.{EntriesLimit, HistoryFull, Memory, SupplyLimit}
use Rattle.settle_core.specs.Bounds.{Bounds}
use Rattle.settle_core.specs.Crossings.{chosen, IsForRoom, match_of, says_of, turn}
use Rattle.settle_core.specs.Snapshots.{snapshot}
use Rattle.ledger_lock.specs.Turns.{StopsForRoom, TurnedBy}
use Rattle.ledger_lock.specs.declared.turned.Turned.{Turned}
use Rattle.ledger_lock.specs.declared.turned.Turned.TheVariants.{Acted, Over, Stopped}

-- a turn that the rules stop for room alone
pub stops : (given : Option (Result Command Refusal)) (now : ℕ) (before after : List Act) (turned : Turned) → TurnedBy given now before turned after
    → ((refusal : Refusal) → given ≡ Some (Err refusal) → IsForRoom refusal) → StopsForRoom turned
stops given now before after Acted by rooms = tt
stops given now before after Over by rooms = tt
stops given now before after (Stopped Memory) by rooms = tt
stops given now before after (Stopped refusal) by rooms = rooms refusal by.0

-- the numbers of what stops one
abbrev Ends : ℕ → Type 0
Ends stop = Contains (0 ∷ 33 ∷ 34 ∷ 35 ∷ 37 ∷ []) stop

pub by-nothing : Ends 0
by-nothing = (0, omega arith, refl)

for-room : (refusal : Refusal) → IsForRoom refusal → Ends (code_of refusal)
for-room (SupplyLimit supply) room = (1, omega arith, refl)
for-room EntriesLimit room = (2, omega arith, refl)
for-room HistoryFull room = (3, omega arith, refl)
for-room refusal room = absurd room

pub by-code : (refusal : Refusal) → StopsForRoom (Stopped refusal) → Ends (code_of refusal)
by-code Memory room = (4, omega arith, refl)
by-code refusal room = for-room refusal room

-- what is chosen of a proposal stops a turn for room alone, where the turn is stopped so
pub chosen-room : (limits : Bounds) (history : List Act) (market now : ℕ) (terms : MatchTerms) → proposal (snapshot history market now) ≡ Some terms
    → ((refusal : Refusal) → turn limits history market now ≡ Some (Err refusal) → IsForRoom refusal)
    → (refusal : Refusal) → Some (chosen (says_of limits history now) terms (says_of limits history now (match_of terms))) ≡ Some (Err refusal) → IsForRoom refusal
chosen-room limits history market now terms proposed rooms refusal is =
    rooms refusal (ap (option_map (λ (t : MatchTerms). chosen (says_of limits history now) t (says_of limits history now (match_of t)))) proposed ∙ is)
