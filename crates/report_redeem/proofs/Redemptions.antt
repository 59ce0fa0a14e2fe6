-- What redemptions post.
use Rattle.std.proofs.Common.{◌≡◌, ℕ, ◌+◌, ◌*◌, Bool, true, false, cond, List, [], ◌∷◌, ◌++◌, length, refl, sym, ap, subst, ◌∙◌, ◌<◌, arith, inl, inr, append-nil, append_assoc, take, get_or, None}
use Rattle.std.specs.Prelude.{◌==◌, map}
use Rattle.std.specs.List.{flat_map}
use Rattle.std.proofs.lemmas.Bool.{cases_Bool, eqb-true, false_from_ne_true}
use Rattle.std.proofs.lemmas.List.{flat_map_more, length-map, map_push, take_more}
use Rattle.std.proofs.lemmas.List.Sums.{sum_by-append, sum_by-cons}
use Rattle.collection_keys.proofs.Joining.{part-joined_same}
use Rattle.collection_keys.proofs.Sameness.{same_collection_Decides}
use Rattle.collection_keys.specs.Collections.{Pairs, joined, part}
use Rattle.collection_keys.specs.Comparing.{same_collection}
use Rattle.ledger_book.specs.Entries.{held_after}
use Rattle.ledger_book.specs.Postings.{IsFunded, credit, credits, debit, debits, paid_to_account, taken_from_account}
use Rattle.ledger_book.specs.declared.posting.Posting.{Posting}
use Rattle.report_redeem.specs.Redeeming.{Redeemed, postings_for, redeem_postings, redeem_sums, redeemed, redeemed_behind, redeemed_of}

-- what is redeemed of a set behind some postings
abbrev pub one_behind : (ℕ → Pairs → ℕ) → ℕ → Pairs → ℕ → List ℕ → List Posting → ℕ → Redeemed
one_behind held a parent c ns earlier set = redeemed_of ns set (held_after held earlier a (joined parent c set))

-- two postings a set
pub many-for : (a : ℕ) (parent : Pairs) (c : ℕ) (rs : List Redeemed) → length (flat_map (postings_for a parent c) rs) ≡ 2 * length rs
many-for a parent c [] = refl
many-for a parent c (r ∷ rs) = omega (arith, many-for a parent c rs)

many-behind : (held : ℕ → Pairs → ℕ) (a : ℕ) (parent : Pairs) (c : ℕ) (ns : List ℕ) (earlier : List Posting) (sets : List ℕ) → length (redeemed_behind held a parent c ns earlier sets) ≡ length sets
many-behind held a parent c ns earlier [] = refl
many-behind held a parent c ns earlier (set ∷ sets) =
    omega (arith, many-behind held a parent c ns (earlier ++ postings_for a parent c (one_behind held a parent c ns earlier set)) sets)

pub redeemed-many : (held : ℕ → Pairs → ℕ) (a : ℕ) (parent : Pairs) (c : ℕ) (ns sets : List ℕ) → length (redeem_postings held a parent c ns sets) ≡ 2 * length sets
redeemed-many held a parent c ns sets = omega (arith, many-for a parent c (redeemed_behind held a parent c ns [] sets), many-behind held a parent c ns [] sets)

pub sums-many : (held : ℕ → Pairs → ℕ) (a : ℕ) (parent : Pairs) (c : ℕ) (ns sets : List ℕ) → length (redeem_sums held a parent c ns sets) ≡ length sets
sums-many held a parent c ns sets = length-map (redeemed_behind held a parent c ns [] sets) (λ r. r.paid) ∙ many-behind held a parent c ns [] sets

-- of another position a debit takes nothing
not_here : (b c : Bool) (amount : ℕ) → (b ≡ true → c ≡ true → ⊥) → cond b (cond c amount 0) 0 ≡ 0
not_here true true amount other = absurd (other refl refl)
not_here true false amount other = refl
not_here false c amount other = refl

-- a credit takes nothing, and a debit pays nothing
moves_nothing : (x y : Bool) → ◌≡◌ {A = ℕ} (cond x (cond y 0 0) 0) 0
moves_nothing true true = refl
moves_nothing true false = refl
moves_nothing false y = refl

pub untaken : (a : ℕ) (k : Pairs) (amount b : ℕ) (m : Pairs) → taken_from_account b m (credit a k amount) ≡ 0
untaken a k amount b m = moves_nothing (a == b) (same_collection k m)

-- what is there by now may be taken of a position
one-funded : (held : ℕ → Pairs → ℕ) (earlier : List Posting) (a : ℕ) (k j : Pairs) (amount : ℕ) → IsFunded held earlier
    → IsFunded held (earlier ++ debit a k (held_after held earlier a k) ∷ credit a j amount ∷ [])
one-funded held earlier a k j amount funded b m =
    let there = held_after held earlier a k in
    let more : List Posting = debit a k there ∷ credit a j amount ∷ [] in
    let taken : debits more b m ≡ taken_from_account b m (debit a k there)
    = omega (arith, sum_by-cons (taken_from_account b m) (debit a k there) (credit a j amount ∷ []), untaken a j amount b m) in
    elim (cases_Bool (a == b)) [
      | inl own ↦ elim (cases_Bool (same_collection k m)) [
        | inl same ↦
            let account : a ≡ b = eqb-true a b own in
            let collection : k ≡ m = (same_collection_Decides k m).0 same in
            let is : there ≡ held_after held earlier b m = λ i. held_after held earlier (account i) (collection i) in
            let all : taken_from_account b m (debit a k there) ≡ there = rw (own, same) refl in
            omega (arith, funded b m, taken, is, all, sum_by-append (taken_from_account b m) earlier more, sum_by-append (paid_to_account b m) earlier more)
        | inr other ↦
            let none : taken_from_account b m (debit a k there) ≡ 0 = not_here (a == b) (same_collection k m) there (λ yes same. cc) in
            omega (arith, funded b m, taken, none, sum_by-append (taken_from_account b m) earlier more, sum_by-append (paid_to_account b m) earlier more)
      ]
      | inr other ↦
          let none : taken_from_account b m (debit a k there) ≡ 0 = not_here (a == b) (same_collection k m) there (λ yes same. cc) in
          omega (arith, funded b m, taken, none, sum_by-append (taken_from_account b m) earlier more, sum_by-append (paid_to_account b m) earlier more)
    ]

funded-behind : (held : ℕ → Pairs → ℕ) (a : ℕ) (parent : Pairs) (c : ℕ) (ns : List ℕ) (earlier : List Posting) (sets : List ℕ) → IsFunded held earlier
    → IsFunded held (earlier ++ flat_map (postings_for a parent c) (redeemed_behind held a parent c ns earlier sets))
funded-behind held a parent c ns earlier [] funded = subst (λ (ps : List Posting). IsFunded held ps) (sym (append-nil earlier)) funded
funded-behind held a parent c ns earlier (set ∷ sets) funded =
    let r : Redeemed = one_behind held a parent c ns earlier set in
    let rest : List Posting = flat_map (postings_for a parent c) (redeemed_behind held a parent c ns (earlier ++ postings_for a parent c r) sets) in
    subst (λ (ps : List Posting). IsFunded held ps) (append_assoc earlier (postings_for a parent c r) rest)
    (funded-behind held a parent c ns (earlier ++ postings_for a parent c r) sets (one-funded held earlier a (joined parent c set) parent r.paid funded))

-- a redemption takes what is there
pub redeemed-funded : (held : ℕ → Pairs → ℕ) (a : ℕ) (parent : Pairs) (c : ℕ) (ns sets : List ℕ) → IsFunded held (redeem_postings held a parent c ns sets)
redeemed-funded held a parent c ns sets = funded-behind held a parent c ns [] sets (λ b m. omega arith)

redeemed_push : (held : ℕ → Pairs → ℕ) (a : ℕ) (parent : Pairs) (c : ℕ) (ns : List ℕ) (earlier : List Posting) (sets : List ℕ) (set : ℕ)
    → redeemed_behind held a parent c ns earlier (sets ++ set ∷ [])
    ≡ redeemed_behind held a parent c ns earlier sets ++ one_behind held a parent c ns (earlier ++ flat_map (postings_for a parent c) (redeemed_behind held a parent c ns earlier sets)) set ∷ []
redeemed_push held a parent c ns earlier [] set = ap (λ (ps : List Posting). one_behind held a parent c ns ps set ∷ []) (sym (append-nil earlier))
redeemed_push held a parent c ns earlier (x ∷ xs) set =
    let r : Redeemed = one_behind held a parent c ns earlier x in
    let behind : List Posting = earlier ++ postings_for a parent c r in
    let rest : List Redeemed = redeemed_behind held a parent c ns behind xs in
    ap (λ (rs : List Redeemed). r ∷ rs) (redeemed_push held a parent c ns behind xs set)
    ∙ ap (λ (ps : List Posting). r ∷ rest ++ one_behind held a parent c ns ps set ∷ []) (append_assoc earlier (postings_for a parent c r) (flat_map (postings_for a parent c) rest))

module _ (held : ℕ → Pairs → ℕ) (a : ℕ) (parent : Pairs) (c : ℕ) (ns sets : List ℕ) (i set : ℕ) (ps : List Posting)
    (inside : i < length sets) (item : set ≡ get_or sets i set) (so_far : ps ≡ redeem_postings held a parent c ns (take i sets)) where
  -- the next set is redeemed behind what was posted so far
  redeemed_more : redeemed held a parent c ns (take (i + 1) sets) ≡ redeemed held a parent c ns (take i sets) ++ one_behind held a parent c ns ps set ∷ []
  redeemed_more =
      ap (redeemed held a parent c ns) (take_more sets i set inside ∙ ap (λ (n : ℕ). take i sets ++ n ∷ []) (sym item))
      ∙ redeemed_push held a parent c ns [] (take i sets) set
      ∙ ap (λ (qs : List Posting). redeemed held a parent c ns (take i sets) ++ one_behind held a parent c ns qs set ∷ []) (sym so_far)

  -- what it posts
  pub posted_more : ps ++ postings_for a parent c (one_behind held a parent c ns ps set) ≡ redeem_postings held a parent c ns (take (i + 1) sets)
  posted_more =
      ap (λ (qs : List Posting). qs ++ postings_for a parent c (one_behind held a parent c ns ps set)) so_far
      ∙ flat_map_more (postings_for a parent c) [] (redeemed held a parent c ns (take i sets)) (one_behind held a parent c ns ps set)
      ∙ ap (flat_map (postings_for a parent c)) (sym redeemed_more)

  -- what it pays
  pub paid_more : (sums : List ℕ) → sums ≡ redeem_sums held a parent c ns (take i sets)
      → sums ++ (one_behind held a parent c ns ps set).paid ∷ [] ≡ redeem_sums held a parent c ns (take (i + 1) sets)
  paid_more sums paid =
      ap (λ (before : List ℕ). before ++ (one_behind held a parent c ns ps set).paid ∷ []) paid
      ∙ sym (map_push (λ r. r.paid) (redeemed held a parent c ns (take i sets)) (one_behind held a parent c ns ps set))
      ∙ ap (map (λ r. r.paid)) (sym redeemed_more)

-- a part of the parent is another collection than it
pub part_apart : (parent : Pairs) (c set : ℕ) → part parent c ≡ None → same_collection parent (joined parent c set) ≡ false
part_apart parent c set free =
    false_from_ne_true (same_collection parent (joined parent c set)) (λ yes.
    let same : parent ≡ joined parent c set = (same_collection_Decides parent (joined parent c set)).0 yes in
    let has = part-joined_same parent c set free in
    cc)

-- of no other collection than the parent anything is paid
pub unpaid-for : (a : ℕ) (parent : Pairs) (c : ℕ) (r : Redeemed) (b : ℕ) (k : Pairs) → same_collection parent k ≡ false → credits (postings_for a parent c r) b k ≡ 0
unpaid-for a parent c r b k apart =
    let burnt = moves_nothing (a == b) (same_collection (joined parent c r.set) k) in
    let paid = not_here (a == b) (same_collection parent k) r.paid (λ yes same. cc) in
    omega (arith, burnt, paid, sum_by-cons (paid_to_account b k) (debit a (joined parent c r.set) r.burnt) (credit a parent r.paid ∷ []))

unpaid_by : (a : ℕ) (parent : Pairs) (c : ℕ) (rs : List Redeemed) (b : ℕ) (k : Pairs) → same_collection parent k ≡ false → credits (flat_map (postings_for a parent c) rs) b k ≡ 0
unpaid_by a parent c [] b k apart = refl
unpaid_by a parent c (r ∷ rs) b k apart =
    let rest : List Posting = flat_map (postings_for a parent c) rs in
    omega (arith, unpaid-for a parent c r b k apart, unpaid_by a parent c rs b k apart, sum_by-append (paid_to_account b k) (postings_for a parent c r) rest)

-- to a part nothing is paid
pub unpaid : (held : ℕ → Pairs → ℕ) (a : ℕ) (parent : Pairs) (c : ℕ) (ns sets : List ℕ) (b set : ℕ) → part parent c ≡ None → credits (redeem_postings held a parent c ns sets) b (joined parent c set) ≡ 0
unpaid held a parent c ns sets b set free = unpaid_by a parent c (redeemed held a parent c ns sets) b (joined parent c set) (part_apart parent c set free)
