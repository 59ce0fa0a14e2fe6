-- An event that there is.
use Rattle.std.proofs.Common.{◌≡◌, Option, Some, None, refl}
use Rattle.std.specs.Prelude.{MatchOption}
use Rattle.event_table.specs.Events.{EventView}

-- what follows for the event follows where there is one
pub at_event : (event : Option EventView) (P Q : EventView → Type 0) → MatchOption event ⊥ P → ((view : EventView) → event ≡ Some view → P view → Q view) → MatchOption event ⊥ Q
at_event None P Q made follows = absurd made
at_event (Some view) P Q made follows = follows view refl made
