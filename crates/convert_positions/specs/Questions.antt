-- What is read of an event that there is.
use Rattle.std.specs.Prelude.{ℕ, List, [], Option, Some, None, slice_get}
use Rattle.event_table.specs.Events.{EventView}

-- the conditions of an event's questions, and none where there is no event
abbrev pub conditions_of : Option EventView → List ℕ
conditions_of None = []
conditions_of (Some event) = event.conditions

abbrev pub conditions_in : List EventView → ℕ → List ℕ
conditions_in events e = conditions_of (slice_get events e)
