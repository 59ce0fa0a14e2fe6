-- What holds of the numbers that a table keeps: of each condition, none where it is no market, and else how many of its
-- orders are open; and of each account its nonce.
use Rattle.std.specs.Prelude.{◌≡◌, ℕ, ◌≤◌, List, slice_index_or, Option, None, unwrap_or}
use Rattle.order_table.specs.Orders.{OrderView, open_in}
use Rattle.order_table.specs.declared.orders.TheConstants.{MAX_NONCE}

-- the number that is kept, and 0 where none is
abbrev pub count_at : List (Option ℕ) → ℕ → ℕ
count_at counts condition = unwrap_or (slice_index_or counts condition None) 0

-- it is right, and within the limit
pub record IsCounted (orders : List OrderView) (counts : List (Option ℕ)) (limit : ℕ) (condition : ℕ) : Type 0 where
  pub count : open_in orders condition ≡ count_at counts condition
  pub within : open_in orders condition ≤ limit

abbrev pub AreCounted : List OrderView → List (Option ℕ) → ℕ → Type 0
AreCounted orders counts limit = (condition : ℕ) → IsCounted orders counts limit condition

-- no nonce is above the highest
abbrev pub AreWithin : List ℕ → Type 0
AreWithin nonces = (account : ℕ) → slice_index_or nonces account 0 ≤ MAX_NONCE
