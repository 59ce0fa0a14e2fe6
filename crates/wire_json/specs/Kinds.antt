-- The kinds of members that requests are made of: what a JSON value is read as, whatever the size of its numbers.
-- Source: RFC 8259, as serde_json reads it.
use Rattle.std.specs.Prelude.{ℕ, suc, ◌==◌, if◌then◌else◌, Bool, List, [], ◌∷◌, codes, Option, Some, None, option_and_then}
use Rattle.std.specs.Str.{bytes_eq}
use Rattle.serde_json.specs.Data.{Data, Items, no_items, item, Members, no_members, member}
use Rattle.serde_json.specs.Find.{get, as_number, as_u64, as_bool, as_str, as_array, as_object}
use Rattle.order_rules.specs.declared.side.Side.{Side}
use Rattle.order_rules.specs.declared.side.Side.TheVariants.{Buy, Sell}

infixl 10 ◌>>=◌
abbrev pub ◌>>=◌ : {A B : Type 0} → Option A → (A → Option B) → Option B
read >>= f = option_and_then f read

-- a whole number below 2^64
abbrev pub whole_in : Data → Option ℕ
whole_in d = option_and_then as_u64 (as_number d)

abbrev pub side_of : List ℕ → Option Side
side_of text = if bytes_eq text (codes "buy") then Some Buy else (if bytes_eq text (codes "sell") then Some Sell else None)

-- one of the two texts buy and sell
abbrev pub side_in : Data → Option Side
side_in d = option_and_then side_of (as_str d)

-- each of the items by its kind
abbrev pub each : {X : Type 0} → (Data → Option X) → Items → Option (List X)
each kind no_items = Some []
each kind (item d ds) = do
  first ← kind d
  others ← each kind ds
  Some (first ∷ others)

-- a list whose items are all of a kind
abbrev pub list_in : {X : Type 0} → (Data → Option X) → Data → Option (List X)
list_in kind d = option_and_then (each kind) (as_array d)

abbrev pub two_in : Items → Option (ℕ × ℕ)
two_in no_items = None
two_in (item a no_items) = None
two_in (item a (item b no_items)) = do
  first ← whole_in a
  second ← whole_in b
  Some (first, second)
two_in (item a (item b (item c ds))) = None

-- a list of just two whole numbers
abbrev pub pair_in : Data → Option (ℕ × ℕ)
pair_in d = option_and_then two_in (as_array d)

-- ---- members of an object, by their names

abbrev pub number_at : List ℕ → Data → Option ℕ
number_at name d = option_and_then whole_in (get name d)

abbrev pub text_at : List ℕ → Data → Option (List ℕ)
text_at name d = option_and_then as_str (get name d)

abbrev pub truth_at : List ℕ → Data → Option Bool
truth_at name d = option_and_then as_bool (get name d)

abbrev pub side_at : List ℕ → Data → Option Side
side_at name d = option_and_then side_in (get name d)

abbrev pub numbers_at : List ℕ → Data → Option (List ℕ)
numbers_at name d = option_and_then (list_in whole_in) (get name d)

abbrev pub pairs_at : List ℕ → Data → Option (List (ℕ × ℕ))
pairs_at name d = option_and_then (list_in pair_in) (get name d)

abbrev pub count_of : Members → ℕ
count_of no_members = 0
count_of (member name d ms) = suc (count_of ms)

abbrev pub count_in : Option Members → ℕ
count_in None = 0
count_in (Some ms) = count_of ms

-- how many members an object has; what is no object has none
abbrev pub member_count : Data → ℕ
member_count d = count_in (as_object d)

-- the object has just so many members
abbrev pub exactly : ℕ → Data → Option Unit
exactly n d = if member_count d == n then Some tt else None
