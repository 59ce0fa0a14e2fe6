-- Lists of items read, and lists of numbers tested, one after the other, as loops do; items and members by their number.
use Rattle.std.proofs.Common.{◌≡◌, ℕ, suc, ◌≤◌, ◌<◌, List, [], ◌∷◌, ◌++◌, length, drop, Option, Some, None, Bool, refl, ap, arith}
use Rattle.std.specs.Prelude.{String}
use Rattle.std.specs.declared.alloc.Global.{Global}
use Rattle.std.specs.List.{list_all}
use Rattle.serde_json.specs.View.{items_view, members_view}
use Rattle.serde_json.specs.declared.value.Value.{Value}
use Rattle.wire_json.specs.Kinds.{◌>>=◌, two_in, count_of}

-- what was read before, and what is still read
abbrev pub with_front : {X : Type 0} → List X → Option (List X) → Option (List X)
with_front front read = read >>= λ others. Some (front ++ others)

-- the first i items passed the test and were kept, and all pass it where the others do
pub record Passed {X : Type 0} (test : X → Bool) (kept : List X) (i : ℕ) (items : List X) : Type 0 where
  pub same : kept ++ drop i items ≡ items
  pub others : list_all test (drop i items) ≡ list_all test items

pub two_in-few : (vs : List Value) → length vs < 2 → two_in (items_view vs) ≡ None
two_in-few [] few = refl
two_in-few (a ∷ []) few = refl
two_in-few (a ∷ (b ∷ vs)) few = grind arith

pub two_in-many : (vs : List Value) → 3 ≤ length vs → two_in (items_view vs) ≡ None
two_in-many [] many = grind arith
two_in-many (a ∷ []) many = grind arith
two_in-many (a ∷ (b ∷ [])) many = grind arith
two_in-many (a ∷ (b ∷ (e ∷ vs))) many = refl

pub count_of-members_view : (ms : List (String Global × Value)) → count_of (members_view ms) ≡ length ms
count_of-members_view [] = refl
count_of-members_view (m ∷ ms) = ap suc (count_of-members_view ms)
