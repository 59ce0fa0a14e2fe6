-- What was told goes on from call to call.
use Rattle.std.proofs.Common.{Option, Some, None}
use Rattle.outside_faults.specs.Told.{IfTold}

-- two relations one after the other
pub IfTold-trans : {X : Type 0} (a b c : Option X) (P Q R : X → X → Type 0) → ((x y z : X) → P x y → Q y z → R x z) → IfTold a b P → IfTold b c Q → IfTold a c R
IfTold-trans None b c P Q R join first second = tt
IfTold-trans (Some x) None c P Q R join first second = absurd first
IfTold-trans (Some x) (Some y) None P Q R join first second = absurd second
IfTold-trans (Some x) (Some y) (Some z) P Q R join first second = join x y z first second

-- a weaker relation
pub IfTold-weaker : {X : Type 0} (a b : Option X) (P Q : X → X → Type 0) → ((x y : X) → P x y → Q x y) → IfTold a b P → IfTold a b Q
IfTold-weaker None b P Q weaker told = tt
IfTold-weaker (Some x) None P Q weaker told = absurd told
IfTold-weaker (Some x) (Some y) P Q weaker told = weaker x y told

-- a relation that holds of each value and itself
pub IfTold-same : {X : Type 0} (a : Option X) (P : X → X → Type 0) → ((x : X) → P x x) → IfTold a a P
IfTold-same None P same = tt
IfTold-same (Some x) P same = same x
