-- Changes that are planned before they are carried out.
use Rattle.std.specs.Prelude.{◌&&◌, Bool, true, nat_lt, if◌then◌else◌, [], ◌∷◌, Option, Some, None, option_map, ◌≡◌, ℕ, ◌+◌, ◌<◌, ◌≤◌, suc, ⊤, ℤ, pos, negsuc, ◌+ℤ◌, ◌-ℤ◌, ◌≤ℤ◌, ◌<ℤ◌, List, Result, Ok, Err}
use Rattle.std.specs.Ordering.{is_lt}
use Rattle.condition_sets.specs.declared.amount.TheConstants.{MAX_AMOUNT}
use Rattle.collection_keys.specs.Collections.{Pairs}
use Rattle.collection_keys.specs.Comparing.{collection_cmp}
use Rattle.ledger_book.specs.Postings.{credit, debit, credits, debits, minted, burnt}
use Rattle.ledger_book.specs.declared.posting.Posting.{Posting}
use Rattle.ledger_book.specs.declared.staged.DebitFault.{DebitFault}
use Rattle.ledger_book.specs.declared.staged.DebitFault.TheVariants.{Short, Memory}
use Rattle.ledger_book.specs.declared.staged.PostFault.{PostFault}
use Rattle.ledger_book.specs.declared.staged.PostFault.TheVariants.{Short as ShortBy, Memory as OutOfMemory}

-- what contracts see of staged changes: the postings in their order, and the change of the vault
pub record StagedView : Type 0 where
  pub postings : List Posting
  pub vault : ℤ

-- the posting of a signed change of an account's position
abbrev pub signed_posting : ℕ → Pairs → ℤ → Posting
signed_posting a k (pos amount) = credit a k amount
signed_posting a k (negsuc below) = debit a k (suc below)

-- what is left of a position with what is staged so far, which may be below 0
abbrev pub left_at : (ℕ → Pairs → ℕ) → List Posting → ℕ → Pairs → ℤ
left_at held ps a k = pos (held a k + credits ps a k) -ℤ pos (debits ps a k)

-- a signed change is staged where the position doesn't fall below 0, and is short only where it would, of what is left
abbrev pub PostedBy : ℤ → ℤ → Result Unit PostFault → Type 0
PostedBy have amount (Ok u) = pos 0 ≤ℤ (have +ℤ amount)
PostedBy have amount (Err (ShortBy found)) = (found ≡ have) × ((have +ℤ amount) <ℤ pos 0)
PostedBy have amount (Err OutOfMemory) = ⊤

-- a debit of a position that is not below 0 is carried out where there is enough, and is short only where there isn't
abbrev pub DebitedBy : ℕ → ℕ → Result Unit DebitFault → Type 0
DebitedBy have amount (Ok u) = amount ≤ have
DebitedBy have amount (Err (Short found)) = (found ≡ have) × (have < amount)
DebitedBy have amount (Err Memory) = ⊤

-- whether a collection comes before the one that was found, and before none
abbrev pub comes_before : Pairs → Option Pairs → Bool
comes_before k None = true
comes_before k (Some j) = is_lt (collection_cmp k j)

-- the least collection posted to for which the test holds, or the one that was found before where that is less
abbrev pub least_from : (Pairs → Bool) → Option Pairs → List Posting → Option Pairs
least_from test found [] = found
least_from test found (p ∷ ps) = least_from test (if test p.collection && comes_before p.collection found then Some p.collection else found) ps

-- whether the supply of a collection would be above the limit, where `supplied` tells the present ones
abbrev pub is_above_supply : (Pairs → ℕ) → List Posting → Pairs → Bool
is_above_supply supplied ps k = nat_lt (MAX_AMOUNT + burnt ps k) (supplied k + minted ps k)

-- the present supply of the least collection whose supply would be above the limit
abbrev pub oversupplied : (Pairs → ℕ) → List Posting → Option ℕ
oversupplied supplied ps = option_map supplied (least_from (is_above_supply supplied ps) None ps)
