-- What postings pay and take, position by position and over all accounts.
-- Source: Gnosis Conditional Tokens, developer documentation.
use Rattle.std.specs.Prelude.{◌==◌, ℕ, ◌+◌, ◌≤◌, List, sum_by, if◌then◌else◌}
use Rattle.collection_keys.specs.Collections.{Pairs}
use Rattle.collection_keys.specs.Comparing.{same_collection}
use Rattle.ledger_book.specs.declared.posting.Posting.{Posting}

-- an amount that is paid to an account's position, and one that is taken from it
abbrev pub credit : ℕ → Pairs → ℕ → Posting
credit a k amount = record { account = a; collection = k; paid = amount; taken = 0 }

abbrev pub debit : ℕ → Pairs → ℕ → Posting
debit a k amount = record { account = a; collection = k; paid = 0; taken = amount }

-- what a posting pays to a collection and takes from it, whoever holds it
abbrev pub paid_to : Pairs → Posting → ℕ
paid_to k p = if same_collection p.collection k then p.paid else 0

abbrev pub taken_from : Pairs → Posting → ℕ
taken_from k p = if same_collection p.collection k then p.taken else 0

-- what postings pay to a collection over all accounts, and what they take from it
abbrev pub minted : List Posting → Pairs → ℕ
minted ps k = sum_by (paid_to k) ps

abbrev pub burnt : List Posting → Pairs → ℕ
burnt ps k = sum_by (taken_from k) ps

-- what a posting pays to one account's position, and takes from it
abbrev pub paid_to_account : ℕ → Pairs → Posting → ℕ
paid_to_account a k p = if p.account == a then paid_to k p else 0

abbrev pub taken_from_account : ℕ → Pairs → Posting → ℕ
taken_from_account a k p = if p.account == a then taken_from k p else 0

-- what postings pay to one account's position, and what they take from it
abbrev pub credits : List Posting → ℕ → Pairs → ℕ
credits ps a k = sum_by (paid_to_account a k) ps

abbrev pub debits : List Posting → ℕ → Pairs → ℕ
debits ps a k = sum_by (taken_from_account a k) ps

-- the net amount of one position is no further from 0 than this, either way
pub record IsNetWithin (most : ℕ) (ps : List Posting) (a : ℕ) (k : Pairs) : Type 0 where
  pub paid : credits ps a k ≤ debits ps a k + most
  pub taken : debits ps a k ≤ credits ps a k + most

-- the same of every position
abbrev pub AreWithin : ℕ → List Posting → Type 0
AreWithin most ps = (a : ℕ) (k : Pairs) → IsNetWithin most ps a k

-- with what was there before, no position falls below 0
abbrev pub IsFunded : (ℕ → Pairs → ℕ) → List Posting → Type 0
IsFunded held ps = (a : ℕ) (k : Pairs) → debits ps a k ≤ held a k + credits ps a k
