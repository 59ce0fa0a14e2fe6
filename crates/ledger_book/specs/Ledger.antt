-- What contracts see of a ledger. The words of it are all that a caller knows: none above this crate unfolds them.
use Rattle.std.specs.Prelude.{◌≡◌, ◌==◌, ℕ, ◌+◌, ◌≤◌, ◌&&◌, ◌||◌, ◌++◌, Bool, true, not, List, [], ◌∷◌, length, map, take, zero, suc, Option, slice_get, if◌then◌else◌}
use Rattle.std.specs.BTreeMap.{BTreeMap, is_at}
use Rattle.std.specs.List.{list_all}
use Rattle.std.specs.Map.{lookup, keys_of}
use Rattle.std.specs.Option.{option_and_then, is_some, unwrap_or}
use Rattle.std.specs.Ordering.{nat_cmp}
use Rattle.collection_keys.specs.Collections.{Pairs}
use Rattle.collection_keys.specs.Comparing.{same_collection}
use Rattle.condition_sets.specs.declared.amount.TheConstants.{MAX_AMOUNT}
use Rattle.ledger_book.specs.Naming.{new_names, has}
use Rattle.ledger_book.specs.declared.posting.Posting.{Posting}

-- an account's position: the account and the collection
abbrev pub Position : Type 0
Position = ℕ × Pairs

abbrev pub same_position : Position → Position → Bool
same_position p q = (p.0 == q.0) && same_collection p.1 q.1

-- the amounts that are kept: for each account a row of amounts by their numbers
abbrev pub Rows : Type 0
Rows = List (List (ℕ × ℕ))

abbrev pub rows : List (BTreeMap ℕ ℕ) → Rows
rows accounts = map (λ amounts. amounts.entries) accounts

-- the amounts that are kept, the supplies of the named collections in the order of their names, the collections that have
-- a number, which are the named ones and behind them those that will be named next, what the vault holds, and how many
-- amounts may be other than 0
pub record LedgerView : Type 0 where
  pub rows : Rows
  pub supplies : List (Pairs × ℕ)
  pub numbered : List Pairs
  pub vault : ℕ
  pub limit : ℕ

-- a collection's number is how many stand before it; one that isn't among them has the next number
abbrev pub number_in : List Pairs → Pairs → ℕ
number_in [] k = 0
number_in (j ∷ js) k = if same_collection k j then 0 else suc (number_in js k)

-- the amount that is kept for an account under a number, where there is one
abbrev pub kept : Rows → ℕ → ℕ → Option ℕ
kept rs a n = option_and_then (lookup (is_at (nat_cmp n))) (slice_get rs a)

-- the same as an amount, which is 0 where none is kept
abbrev pub kept_or_none : Rows → ℕ → ℕ → ℕ
kept_or_none rs a n = unwrap_or (kept rs a n) 0

-- the amount that is kept for a position, where these collections have the numbers
abbrev pub amount_in : Rows → List Pairs → ℕ → Pairs → ℕ
amount_in rs ks a k = kept_or_none rs a (number_in ks k)

-- the supply that is kept for a collection, and 0 where it has no name
abbrev pub supply_in : List (Pairs × ℕ) → Pairs → ℕ
supply_in es k = unwrap_or (lookup (same_collection k) es) 0

-- what an account holds of a collection; where it has no name, what is kept behind all names, which is 0
unfoldable pub amount_at : LedgerView → ℕ → Pairs → ℕ
amount_at l a k = amount_in l.rows (keys_of l.supplies) a k

-- what all accounts hold of it
unfoldable pub supply_at : LedgerView → Pairs → ℕ
supply_at l k = supply_in l.supplies k

-- the named collections, in the order in which they were named
unfoldable pub names : LedgerView → List Pairs
names l = keys_of l.supplies

-- the sum of what the accounts below a number have
abbrev pub sum_below : ℕ → (ℕ → ℕ) → ℕ
sum_below zero f = 0
sum_below (suc n) f = sum_below n f + f n

-- only so many accounts hold anything, and each supply is the sum over them and within the limit
pub record IsBalanced (accounts : ℕ) (held : ℕ → Pairs → ℕ) (supplied : Pairs → ℕ) : Type 0 where
  pub past : (a : ℕ) (k : Pairs) → accounts ≤ a → held a k ≡ 0
  pub sums : (k : Pairs) → supplied k ≡ sum_below accounts (λ a. held a k)
  pub within : (k : Pairs) → supplied k ≤ MAX_AMOUNT

-- what a ledger keeps: the named collections are balanced, and behind them all is 0
pub record IsSound (rs : Rows) (supplies : List (Pairs × ℕ)) (named : ℕ) : Type 0 where
  pub balanced : IsBalanced (length rs) (amount_in rs (keys_of (take named supplies))) (supply_in (take named supplies))
  pub behind : (a n : ℕ) → named ≤ n → kept_or_none rs a n ≡ 0
  pub idle : (k : Pairs) → supply_in supplies k ≡ supply_in (take named supplies) k
  pub fits : named ≤ length supplies

-- nobody holds anything, nothing is named, and the vault is empty
pub record IsEmpty (l : LedgerView) : Type 0 where
  pub amounts : (a : ℕ) (k : Pairs) → amount_at l a k ≡ 0
  pub supplies : (k : Pairs) → supply_at l k ≡ 0
  pub names : names l ≡ []
  pub vault : l.vault ≡ 0

-- two ledgers hold the same, whatever their room
pub record HoldSame (old new : LedgerView) : Type 0 where
  pub amounts : (a : ℕ) (k : Pairs) → amount_at new a k ≡ amount_at old a k
  pub supplies : (k : Pairs) → supply_at new k ≡ supply_at old k
  pub names : names new ≡ names old
  pub vault : new.vault ≡ old.vault
  pub limit : new.limit ≡ old.limit

-- a posting's position has a place: an amount is kept for it, unless its collection has no number
abbrev pub is_placed : Rows → List Pairs → Posting → Bool
is_placed rs ks p = not (has ks p.collection) || is_some (kept rs p.account (number_in ks p.collection))

abbrev pub are_placed : Rows → List Pairs → List Posting → Bool
are_placed rs ks ps = list_all (is_placed rs ks) ps

-- the collections that these postings name have their numbers, and each posting has its place, so that they can be
-- committed
pub record IsReady (l : LedgerView) (ps : List Posting) : Type 0 where
  pub numbered : l.numbered ≡ names l ++ new_names (names l) ps
  pub placed : are_placed l.rows l.numbered ps ≡ true
