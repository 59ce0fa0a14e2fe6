-- The first place at which something holds: the word for every refusal that names a place.
use Rattle.std.specs.Prelude.{◌≡◌, ℕ, zero, suc, ◌<◌, Bool, true, false, Option, Some, None, if◌then◌else◌}

-- the place that was found already, else this one where it passes
abbrev pub found_or : Option ℕ → Bool → ℕ → Option ℕ
found_or (Some place) passes here = Some place
found_or None passes here = if passes then Some here else None

-- the first place below n that passes the test
abbrev pub first_place : (ℕ → Bool) → ℕ → Option ℕ
first_place test zero = None
first_place test (suc n) = found_or (first_place test n) (test n) n

-- a place that passes the test below an end, and before which none passes
pub record IsFirstPlace (test : ℕ → Bool) (end place : ℕ) : Type 0 where
  pub below : place < end
  pub passes : test place ≡ true
  pub first : (earlier : ℕ) → earlier < place → test earlier ≡ false
