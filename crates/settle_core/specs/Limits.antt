-- What contracts see of limits.
use Rattle.settle_core.specs.Bounds.{Bounds}
use Rattle.settle_core.specs.declared.limits.Limits.TheInside.{Inside}

abbrev pub bounds_of : Inside → Bounds
bounds_of l = record { conditions = l.conditions; events = l.events; orders = l.orders; entries = l.entries; history = l.history }
