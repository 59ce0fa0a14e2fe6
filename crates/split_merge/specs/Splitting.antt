-- What splits and merges post.
-- Source: Gnosis Conditional Tokens, developer documentation.
use Rattle.std.specs.Prelude.{ℕ, List, [], ◌∷◌, ◌++◌, map}
use Rattle.collection_keys.specs.Collections.{Pairs, joined}
use Rattle.condition_sets.specs.declared.partition.Union.{Union}
use Rattle.condition_sets.specs.declared.partition.Union.TheVariants.{Full, Part}
use Rattle.ledger_book.specs.Postings.{credit, debit}
use Rattle.ledger_book.specs.declared.posting.Posting.{Posting}

-- the collection that a split takes from and that a merge pays to: the parent where the sets have every slot of the
-- condition together, and else the parent joined with their union
abbrev pub whole_of : Union → Pairs → ℕ → Pairs
whole_of Full parent condition = parent
whole_of (Part set) parent condition = joined parent condition set

-- the parent joined with each of the sets
abbrev pub parts_of : Pairs → ℕ → List ℕ → List Pairs
parts_of parent condition sets = map (λ set. joined parent condition set) sets

-- a split takes an amount of the whole from an account, and pays as much of each part
abbrev pub split_postings : ℕ → Pairs → List Pairs → ℕ → List Posting
split_postings a whole parts amount = debit a whole amount ∷ map (λ k. credit a k amount) parts

-- a merge takes an amount of each part, and pays as much of the whole
abbrev pub merge_postings : ℕ → Pairs → List Pairs → ℕ → List Posting
merge_postings a whole parts amount = map (λ k. debit a k amount) parts ++ credit a whole amount ∷ []

-- a posting with its sign turned
abbrev pub turned : Posting → Posting
turned p = record { account = p.account; collection = p.collection; paid = p.taken; taken = p.paid }
