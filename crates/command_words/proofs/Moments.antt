-- A clock that counts, and one moment more.
use Rattle.std.proofs.Common.{ℕ, List, [], ◌∷◌, ◌++◌, ap}
use Rattle.outside_faults.specs.Faults.{raised}
use Rattle.command_words.specs.Clock.{Counts}

-- one moment more
pub Counts-more : (first : ℕ) (moments : List ℕ) (next : ℕ) → Counts first moments next → Counts first (moments ++ next ∷ []) (raised next)
Counts-more first [] next now = (now, ap raised now)
Counts-more first (moment ∷ moments) next counted = (counted.0, Counts-more (raised first) moments next counted.1)
