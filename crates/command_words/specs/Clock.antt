-- What a clock may have told.
use Rattle.std.specs.Prelude.{◌≡◌, ℕ, List, [], ◌∷◌}
use Rattle.outside_faults.specs.Faults.{raised}

-- a clock that counts: the first moment that it told or will tell, and the next
pub record ListClockView : Type 0 where
  pub first : ℕ
  pub next : ℕ

-- these moments count up by one from the first, and the next one follows
abbrev pub Counts : ℕ → List ℕ → ℕ → Type 0
Counts first [] next = next ≡ first
Counts first (moment ∷ moments) next = (moment ≡ first) × Counts (raised first) moments next
