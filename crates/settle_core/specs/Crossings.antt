-- A crossing of a market: the operator's matches and lapses at one moment, turn by turn. This project's own.
use Rattle.std.specs.Prelude.{◌==◌, ◌-◌, ℕ, ⊤, zero, suc, if◌then◌else◌, Bool, true, false, List, [], ◌∷◌, ◌++◌, take, sum, slice_index_or, Option, Some, None, option_map, Result, Ok, Err}
use Rattle.book_propose.specs.Proposals.{proposal}
use Rattle.book_propose.specs.declared.terms.MatchTerms.{MatchTerms}
use Rattle.command_words.specs.Refusal.{code_of}
use Rattle.command_words.specs.declared.act.Act.{Act}
use Rattle.command_words.specs.declared.command.Command.{Command}
use Rattle.command_words.specs.declared.command.Command.TheVariants.{Match, Lapse}
use Rattle.command_words.specs.declared.refusal.Refusal.{Refusal}
use Rattle.command_words.specs.declared.refusal.Refusal.TheVariants.{EntriesLimit, HistoryFull, SupplyLimit, Unfunded}
use Rattle.condition_sets.specs.declared.names.TheConstants.{OPERATOR}
use Rattle.settle_core.specs.Bounds.{Bounds}
use Rattle.settle_core.specs.Snapshots.{snapshot}
use Rattle.settle_core.specs.Verdict.{verdict}

-- the match that is proposed, and the same with its first makers alone
abbrev pub match_of : MatchTerms → Command
match_of terms = Match terms.taker terms.fill terms.makers

abbrev pub shortened : ℕ → MatchTerms → Command
shortened makers terms = Match terms.taker (sum (take makers terms.spent)) (take makers terms.makers)

abbrev pub first_maker : MatchTerms → ℕ
first_maker terms = (slice_index_or terms.makers 0 (0, 0)).0

-- What is done in place of a match of which the order at a place isn't paid for: the taker or the first maker lapses, or the
-- match is with the makers before that place.
abbrev pub in_its_place : ℕ → MatchTerms → Command
in_its_place place terms = if place == 0 then Lapse terms.taker else (if place == 1 then Lapse (first_maker terms) else shortened (place - 1) terms)

abbrev pub or_refused : Option Refusal → Command → Result Command Refusal
or_refused None command = Ok command
or_refused (Some refusal) command = Err refusal

-- the command of a turn, by the verdicts on commands, or the refusal that ends the crossing
abbrev pub chosen : (Command → Option Refusal) → MatchTerms → Option Refusal → Result Command Refusal
chosen says terms None = Ok (match_of terms)
chosen says terms (Some (Unfunded have place)) = or_refused (says (in_its_place place terms)) (in_its_place place terms)
chosen says terms (Some refusal) = Err refusal

-- what is said of a command of the operator
abbrev pub says_of : Bounds → List Act → ℕ → Command → Option Refusal
says_of limits history now command = verdict (record { limits = limits; history = history; account = OPERATOR; command = command; moment = now })

-- a refusal is for want of room: of a supply, of balances or of acts
abbrev pub IsForRoom : Refusal → Type 0
IsForRoom (SupplyLimit supply) = ⊤
IsForRoom EntriesLimit = ⊤
IsForRoom HistoryFull = ⊤
IsForRoom refusal = ⊥

-- a turn over a history: none where nothing is proposed
abbrev pub turn : Bounds → List Act → ℕ → ℕ → Option (Result Command Refusal)
turn limits history market now = option_map (λ terms. chosen (says_of limits history now) terms (says_of limits history now (match_of terms))) (proposal (snapshot history market now))

-- what a crossing does: its acts, whether it might go on, and the number of the refusal that ended it, or 0
pub record Crossing : Type 0 where
  pub acts : List Act
  pub more : Bool
  pub stop : ℕ

abbrev pub with_act : Act → Crossing → Crossing
with_act act rest = record { acts = act ∷ rest.acts; more = rest.more; stop = rest.stop }

abbrev pub after_turn : ℕ → Option (Result Command Refusal) → (Act → Crossing) → Crossing
after_turn now None rest = record { acts = []; more = false; stop = 0 }
after_turn now (Some (Err refusal)) rest = record { acts = []; more = false; stop = code_of refusal }
after_turn now (Some (Ok command)) rest = let act : Act = record { moment = now; account = OPERATOR; command = command } in with_act act (rest act)

-- so many turns at the most, each over the history with the acts of those before it
unfoldable pub crossing : Bounds → ℕ → ℕ → ℕ → List Act → Crossing
crossing limits market now zero history = record { acts = []; more = true; stop = 0 }
crossing limits market now (suc turns) history = after_turn now (turn limits history market now) (λ act. crossing limits market now turns (history ++ act ∷ []))
