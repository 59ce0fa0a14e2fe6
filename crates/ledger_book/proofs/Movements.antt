-- What is carried out of postings, at positions and at collections.
use Rattle.std.proofs.Common.{◌≡◌, ℕ, ◌+◌, ◌<◌, List, true, false, length, take, get_or, ◌∙◌}
use Rattle.std.proofs.lemmas.Bool.{cond-false}
use Rattle.collection_keys.specs.Collections.{Pairs}
use Rattle.collection_keys.specs.Comparing.{same_collection}
use Rattle.ledger_book.specs.Ledger.{same_position, supply_in}
use Rattle.ledger_book.specs.Postings.{paid_to, taken_from, paid_to_account, taken_from_account, minted, burnt, credits, debits}
use Rattle.ledger_book.specs.declared.posting.Posting.{Posting}
use Rattle.ledger_book.proofs.Positions.{collection_Decides, position_Decides, at, paid_here, taken_here}
use Rattle.ledger_book.proofs.Carried.{seen, IsCarried, other_way, carried_not_yet, carried_first, carried_again, carried_whole, unseen_none}

abbrev pub collection_of : Posting → Pairs
collection_of p = p.collection

-- what the accounts hold, when the front of the postings is carried out
abbrev pub AreAmountsCarried : (ℕ → Pairs → ℕ) → (ℕ → Pairs → ℕ) → List Posting → List Posting → Type 0
AreAmountsCarried old now ps front = IsCarried same_position position_Decides at (λ q. old q.0 q.1) (λ q. now q.0 q.1) (λ q. credits ps q.0 q.1) (λ q. debits ps q.0 q.1) front

-- and what all of them hold together
abbrev pub AreSuppliesCarried : List (Pairs × ℕ) → List (Pairs × ℕ) → List Posting → List Posting → Type 0
AreSuppliesCarried old now ps front = IsCarried same_collection collection_Decides collection_of (supply_in old) (supply_in now) (minted ps) (burnt ps) front

-- where no posting is, none pays or takes
pub nothing_at : (ps : List Posting) (a : ℕ) (k : Pairs) → seen same_position position_Decides at ps (a, k) ≡ false → (debits ps a k ≡ 0) × (credits ps a k ≡ 0)
nothing_at ps a k unseen = (
  unseen_none same_position position_Decides at (taken_from_account a k) (a, k) (λ p apart. taken_here p a k ∙ cond-false _ p.taken 0 (other_way same_position position_Decides at (a, k) (at p) apart)) ps unseen,
  unseen_none same_position position_Decides at (paid_to_account a k) (a, k) (λ p apart. paid_here p a k ∙ cond-false _ p.paid 0 (other_way same_position position_Decides at (a, k) (at p) apart)) ps unseen,
)

pub amounts_whole : (old now : ℕ → Pairs → ℕ) (ps : List Posting) → AreAmountsCarried old now ps ps
    → (a : ℕ) (k : Pairs) → now a k + debits ps a k ≡ old a k + credits ps a k
amounts_whole old now ps carried a k =
    carried_whole same_position position_Decides at (λ q. old q.0 q.1) (λ q. now q.0 q.1) (λ q. credits ps q.0 q.1) (λ q. debits ps q.0 q.1) ps (a, k) (nothing_at ps a k) carried

pub supplies_whole : (old now : List (Pairs × ℕ)) (ps : List Posting) → AreSuppliesCarried old now ps ps
    → (k : Pairs) → supply_in now k + burnt ps k ≡ supply_in old k + minted ps k
supplies_whole old now ps carried k =
    carried_whole same_collection collection_Decides collection_of (supply_in old) (supply_in now) (minted ps) (burnt ps) ps k
    (λ unseen. (
      unseen_none same_collection collection_Decides collection_of (taken_from k) k (λ p apart. cond-false _ p.taken 0 (other_way same_collection collection_Decides collection_of k p.collection apart)) ps unseen,
      unseen_none same_collection collection_Decides collection_of (paid_to k) k (λ p apart. cond-false _ p.paid 0 (other_way same_collection collection_Decides collection_of k p.collection apart)) ps unseen,
    )) carried

-- one posting more, at the positions
pub amounts_not_yet : (old now : ℕ → Pairs → ℕ) (ps : List Posting) (i : ℕ) (p : Posting) → seen same_position position_Decides at (take i ps) (at p) ≡ false
    → AreAmountsCarried old now ps (take i ps) → now p.account p.collection ≡ old p.account p.collection
amounts_not_yet old now ps i p before carried =
    carried_not_yet same_position position_Decides at (λ q. old q.0 q.1) (λ q. now q.0 q.1) (λ q. credits ps q.0 q.1) (λ q. debits ps q.0 q.1) (take i ps) (at p) before carried

pub amounts_first : (old now new : ℕ → Pairs → ℕ) (ps : List Posting) (i : ℕ) (p : Posting) → i < length ps → p ≡ get_or ps i p
    → seen same_position position_Decides at (take i ps) (at p) ≡ false
    → new p.account p.collection + debits ps p.account p.collection ≡ now p.account p.collection + credits ps p.account p.collection
    → ((a : ℕ) (k : Pairs) → same_position (at p) (a, k) ≡ false → new a k ≡ now a k)
    → AreAmountsCarried old now ps (take i ps) → AreAmountsCarried old new ps (take (i + 1) ps)
amounts_first old now new ps i p below is before step others carried =
    carried_first same_position position_Decides at (λ q. old q.0 q.1) (λ q. now q.0 q.1) (λ q. new q.0 q.1) (λ q. credits ps q.0 q.1) (λ q. debits ps q.0 q.1)
    ps i p below is before step (λ q apart. others q.0 q.1 apart) carried

pub amounts_again : (old now : ℕ → Pairs → ℕ) (ps : List Posting) (i : ℕ) (p : Posting) → i < length ps → p ≡ get_or ps i p
    → seen same_position position_Decides at (take i ps) (at p) ≡ true
    → AreAmountsCarried old now ps (take i ps) → AreAmountsCarried old now ps (take (i + 1) ps)
amounts_again old now ps i p below is before carried =
    carried_again same_position position_Decides at (λ q. old q.0 q.1) (λ q. now q.0 q.1) (λ q. credits ps q.0 q.1) (λ q. debits ps q.0 q.1) ps i p below is before carried

-- and at the collections
pub supplies_not_yet : (old now : List (Pairs × ℕ)) (ps : List Posting) (i : ℕ) (p : Posting) → seen same_collection collection_Decides collection_of (take i ps) p.collection ≡ false
    → AreSuppliesCarried old now ps (take i ps) → supply_in now p.collection ≡ supply_in old p.collection
supplies_not_yet old now ps i p before carried =
    carried_not_yet same_collection collection_Decides collection_of (supply_in old) (supply_in now) (minted ps) (burnt ps) (take i ps) p.collection before carried

pub supplies_first : (old now new : List (Pairs × ℕ)) (ps : List Posting) (i : ℕ) (p : Posting) → i < length ps → p ≡ get_or ps i p
    → seen same_collection collection_Decides collection_of (take i ps) p.collection ≡ false
    → supply_in new p.collection + burnt ps p.collection ≡ supply_in now p.collection + minted ps p.collection
    → ((k : Pairs) → same_collection p.collection k ≡ false → supply_in new k ≡ supply_in now k)
    → AreSuppliesCarried old now ps (take i ps) → AreSuppliesCarried old new ps (take (i + 1) ps)
supplies_first old now new ps i p below is before step others carried =
    carried_first same_collection collection_Decides collection_of (supply_in old) (supply_in now) (supply_in new) (minted ps) (burnt ps) ps i p below is before step others carried

pub supplies_again : (old now : List (Pairs × ℕ)) (ps : List Posting) (i : ℕ) (p : Posting) → i < length ps → p ≡ get_or ps i p
    → seen same_collection collection_Decides collection_of (take i ps) p.collection ≡ true
    → AreSuppliesCarried old now ps (take i ps) → AreSuppliesCarried old now ps (take (i + 1) ps)
supplies_again old now ps i p below is before carried =
    carried_again same_collection collection_Decides collection_of (supply_in old) (supply_in now) (minted ps) (burnt ps) ps i p below is before carried
