-- What each rule of the code says of an order, and what a match is refused by that can't be planned.
use Rattle.std.specs.Prelude.{ℕ, List, [], ◌∷◌, slice_get, Option, option_map}
use Rattle.collection_keys.specs.Collections.{Pairs}
use Rattle.command_words.specs.declared.refusal.Refusal.{Refusal}
use Rattle.command_words.specs.declared.refusal.Refusal.TheVariants.{ExchangeShort, Memory as NoMemory, TooLittle, Unfunded}
use Rattle.match_kinds.specs.declared.settle.MatchFault.{MatchFault}
use Rattle.match_kinds.specs.declared.settle.MatchFault.TheVariants.{Memory, Short, TooLittle as LessThanFloor, Unfunded as ShortPart}
use Rattle.order_table.specs.declared.order.OrderState.{OrderState}
use Rattle.order_table.specs.declared.order.Placed.{Placed}
use Rattle.settle_core.specs.Matches.{little_in, parts_in, short_in}
use Rattle.settle_core.specs.OrderRules.{expired, outdated, overfilled, own, shut, uncrossed, unpaired}
use Rattle.settle_core.specs.Refusals.{unfunded_in}
use Rattle.settle_core.specs.declared.rules.Round.{Round}
use Rattle.settle_core.specs.declared.rules.Rule.{Rule}
use Rattle.settle_core.specs.declared.rules.Rule.TheVariants.{Open, Unexpired, Present, OfOther, Paired, Crossing, Left}

abbrev pub rule_of : (ℕ → ℕ) → Round → Rule → ℕ → ℕ → OrderState → Option Refusal
rule_of nonces round Open = shut
rule_of nonces round Unexpired = expired round.moment
rule_of nonces round Present = outdated nonces
rule_of nonces round OfOther = own round.taker
rule_of nonces round Paired = unpaired round.taker
rule_of nonces round Crossing = uncrossed round.taker
rule_of nonces round Left = overfilled

abbrev pub fault_refusal : MatchFault → Refusal
fault_refusal (ShortPart have place) = Unfunded have place
fault_refusal (Short place) = ExchangeShort place
fault_refusal (LessThanFloor floor got) = TooLittle floor got
fault_refusal Memory = NoMemory

-- the refusals of a match for what its parts pay and get, among the orders that were placed, and where so much is held
abbrev pub funding_refusals : List Placed → (ℕ → Pairs → ℕ) → ℕ → ℕ → List (ℕ × ℕ) → List (Option Refusal)
funding_refusals orders held taker fill makers =
    option_map (λ short. Unfunded short.1 short.0) (unfunded_in held (slice_get orders taker) fill (parts_in orders makers))
    ∷ option_map ExchangeShort (short_in (slice_get orders taker) fill (parts_in orders makers))
    ∷ option_map (λ little. TooLittle little.1 little.0) (little_in (slice_get orders taker) fill (parts_in orders makers)) ∷ []
