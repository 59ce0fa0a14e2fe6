-- What a redemption posts and pays.
-- Source: Gnosis Conditional Tokens, developer documentation: redeeming positions.
use Rattle.std.specs.Prelude.{ℕ, ◌*◌, ◌/◌, List, [], ◌∷◌, ◌++◌, map, sum}
use Rattle.std.specs.List.{flat_map}
use Rattle.collection_keys.specs.Collections.{Pairs, joined}
use Rattle.condition_table.specs.Shares.{numerators_in}
use Rattle.ledger_book.specs.Entries.{held_after}
use Rattle.ledger_book.specs.Postings.{credit, debit}
use Rattle.ledger_book.specs.declared.posting.Posting.{Posting}

-- one set whose turn came: how much of it was burnt, and what was paid of the parent
pub record Redeemed : Type 0 where
  pub set : ℕ
  pub burnt : ℕ
  pub paid : ℕ

-- for an amount of a set its share is paid: the part of the amount that the set's numerators are of all, rounded down
abbrev pub redeemed_of : List ℕ → ℕ → ℕ → Redeemed
redeemed_of numerators set amount = record { set = set; burnt = amount; paid = (amount * numerators_in numerators set) / sum numerators }

-- the burnt amount is taken of the parent joined with the set, and the paid one is paid of the parent
abbrev pub postings_for : ℕ → Pairs → ℕ → Redeemed → List Posting
postings_for a parent condition r = debit a (joined parent condition r.set) r.burnt ∷ credit a parent r.paid ∷ []

-- the sets one after another, behind some postings: of each all is burnt that the account has by then
abbrev pub redeemed_behind : (ℕ → Pairs → ℕ) → ℕ → Pairs → ℕ → List ℕ → List Posting → List ℕ → List Redeemed
redeemed_behind held a parent condition numerators earlier [] = []
redeemed_behind held a parent condition numerators earlier (set ∷ sets) =
    let r = redeemed_of numerators set (held_after held earlier a (joined parent condition set)) in
    r ∷ redeemed_behind held a parent condition numerators (earlier ++ postings_for a parent condition r) sets

-- the sets of a redemption, in their order
abbrev pub redeemed : (ℕ → Pairs → ℕ) → ℕ → Pairs → ℕ → List ℕ → List ℕ → List Redeemed
redeemed held a parent condition numerators sets = redeemed_behind held a parent condition numerators [] sets

-- what it posts, set by set
abbrev pub redeem_postings : (ℕ → Pairs → ℕ) → ℕ → Pairs → ℕ → List ℕ → List ℕ → List Posting
redeem_postings held a parent condition numerators sets = flat_map (postings_for a parent condition) (redeemed held a parent condition numerators sets)

-- what it pays, one sum for each named set
abbrev pub redeem_sums : (ℕ → Pairs → ℕ) → ℕ → Pairs → ℕ → List ℕ → List ℕ → List ℕ
redeem_sums held a parent condition numerators sets = map (λ r. r.paid) (redeemed held a parent condition numerators sets)
