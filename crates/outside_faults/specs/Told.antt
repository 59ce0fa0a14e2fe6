-- Content that an object of the outside tells, or doesn't.
use Rattle.std.specs.Prelude.{ℕ, List, Option, Some, None, ⊤}

-- What an object told before a call and tells after it stands in this relation, where it told anything before.
abbrev pub IfTold : {X : Type 0} → Option X → Option X → (X → X → Type 0) → Type 0
IfTold None new P = ⊤
IfTold (Some x) None P = ⊥
IfTold (Some x) (Some y) P = P x y

-- one side of a link: its bytes, where it tells them, and its count of faults
pub record Side : Type 0 where
  pub bytes : Option (List ℕ)
  pub faults : ℕ

abbrev pub side : Option (List ℕ) → ℕ → Side
side bytes faults = record { bytes = bytes; faults = faults }

-- the other side of an object that has only one: it tells nothing and never fails
abbrev pub no_side : Side
no_side = side None 0
