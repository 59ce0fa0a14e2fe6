-- The first part that isn't funded, found from the left.
use Rattle.std.proofs.Common.{◌≡◌, ◌≢◌, ℕ, suc, ◌+◌, ◌<◌, Bool, true, false, List, [], ◌∷◌, ◌++◌, length, Option, Some, None, refl, sym, ap, ◌∙◌, arith, take, drop, get_or}
use Rattle.std.specs.Prelude.{nat_lt, if◌then◌else◌, ◌==◌, Err}
use Rattle.std.specs.List.{flat_map}
use Rattle.std.proofs.lemmas.Bool.{ne_eqb}
use Rattle.std.proofs.lemmas.List.{drop_more, flat_map_more, take_more}
use Rattle.std.proofs.lemmas.List.Sums.{sum_by-cons}
use Rattle.collection_keys.specs.Collections.{Pairs}
use Rattle.ledger_book.specs.Entries.{held_after}
use Rattle.ledger_book.specs.Planning.{PlannedBy}
use Rattle.ledger_book.specs.Postings.{debit, paid_to_account, taken_from_account}
use Rattle.ledger_book.specs.declared.plan_fault.PlanFault.{PlanFault}
use Rattle.ledger_book.specs.declared.plan_fault.PlanFault.TheVariants.{Short, Memory}
use Rattle.ledger_book.specs.declared.posting.Posting.{Posting}
use Rattle.match_kinds.specs.Matching.{paid_asset}
use Rattle.match_kinds.specs.Settling.{maker_postings, unfunded, unfunded_from}
use Rattle.match_kinds.specs.declared.part.Part.{Part}

-- what is found where so much is held, and so much is paid
abbrev pub found_at : ℕ → ℕ → ℕ → Option (ℕ × ℕ)
found_at place held fill = if nat_lt held fill then Some (place, held) else None

found_none : (short : Bool) (first : ℕ × ℕ) → (if short then Some first else None) ≡ None → short ≡ false
found_none true first none = cc
found_none false first none = refl

found_some : (short : Bool) (first found : ℕ × ℕ) → (if short then Some first else None) ≡ Some found → (short ≡ true) × (first ≡ found)
found_some true first found some = (refl, cc)
found_some false first found some = cc

-- of another account a debit takes nothing
pub untouched : (held : ℕ → Pairs → ℕ) (a : ℕ) (k : Pairs) (amount : ℕ) (ps : List Posting) (b : ℕ) (j : Pairs) → b ≢ a → held_after held (debit a k amount ∷ ps) b j ≡ held_after held ps b j
untouched held a k amount ps b j other =
    let apart : (a == b) ≡ false = ne_eqb a b (λ same. other (sym same)) in
    let paid : paid_to_account b j (debit a k amount) ≡ 0 = rw apart refl in
    let taken : taken_from_account b j (debit a k amount) ≡ 0 = rw apart refl in
    omega (arith, paid, taken, sum_by-cons (paid_to_account b j) (debit a k amount) ps, sum_by-cons (taken_from_account b j) (debit a k amount) ps)

module _ (held : ℕ → Pairs → ℕ) (market : ℕ) (makers : List Part) where
  -- what the first so many makers post
  abbrev pub front : ℕ → List Posting
  front i = flat_map (maker_postings market) (take i makers)

  -- none of the first so many isn't funded: the first that isn't is among the rest
  abbrev pub IsFundedTo : ℕ → Type 0
  IsFundedTo i = unfunded_from held market 1 [] makers ≡ unfunded_from held market (i + 1) (front i) (drop i makers)

  pub front_more : (i : ℕ) (m : Part) → i < length makers → m ≡ get_or makers i m → front i ++ maker_postings market m ≡ front (i + 1)
  front_more i m inside item =
      flat_map_more (maker_postings market) [] (take i makers) m
      ∙ ap (flat_map (maker_postings market)) (ap (λ (x : Part). take i makers ++ x ∷ []) item ∙ sym (take_more makers i m inside))

  split_at : (i : ℕ) (m : Part) → i < length makers → m ≡ get_or makers i m → drop i makers ≡ m ∷ drop (i + 1) makers
  split_at i m inside item = drop_more makers i m inside ∙ ap (λ (x : Part). x ∷ drop (i + 1) makers) (sym item)

  passed : (place : ℕ) (earlier : List Posting) (m : Part) (ms : List Part) → nat_lt (held_after held earlier m.account (paid_asset market m)) m.fill ≡ false
      → unfunded_from held market place earlier (m ∷ ms) ≡ unfunded_from held market (suc place) (earlier ++ maker_postings market m) ms
  passed place earlier m ms enough = rw enough refl

  stopped : (place : ℕ) (earlier : List Posting) (m : Part) (ms : List Part) → nat_lt (held_after held earlier m.account (paid_asset market m)) m.fill ≡ true
      → unfunded_from held market place earlier (m ∷ ms) ≡ Some (place, held_after held earlier m.account (paid_asset market m))
  stopped place earlier m ms short = rw short refl

  module _ (taker : Part) (i : ℕ) (m : Part) (ps : List Posting) (inside : i < length makers) (item : m ≡ get_or makers i m) (other : m.account ≢ taker.account)
      (posted : ps ≡ debit taker.account (paid_asset market taker) taker.fill ∷ front i) (so_far : IsFundedTo i) where
    -- what the maker has, with what was posted so far
    abbrev have : ℕ
    have = held_after held ps m.account (paid_asset market m)

    have-is : have ≡ held_after held (front i) m.account (paid_asset market m)
    have-is =
        ap (λ (qs : List Posting). held_after held qs m.account (paid_asset market m)) posted
        ∙ untouched held taker.account (paid_asset market taker) taker.fill (front i) m.account (paid_asset market m) other

    -- the next maker is funded
    pub funded_more : (place : ℕ) → found_at place have m.fill ≡ None → IsFundedTo (i + 1)
    funded_more place none =
        let enough : nat_lt (held_after held (front i) m.account (paid_asset market m)) m.fill ≡ false = ap (λ (n : ℕ). nat_lt n m.fill) (sym have-is) ∙ found_none (nat_lt have m.fill) (place, have) none in
        let next : suc (i + 1) ≡ i + 1 + 1 = omega arith in
        so_far
        ∙ ap (unfunded_from held market (i + 1) (front i)) (split_at i m inside item)
        ∙ passed (i + 1) (front i) m (drop (i + 1) makers) enough
        ∙ ap (λ (n : ℕ). unfunded_from held market n (front i ++ maker_postings market m) (drop (i + 1) makers)) next
        ∙ ap (λ (qs : List Posting). unfunded_from held market (i + 1 + 1) qs (drop (i + 1) makers)) (front_more i m inside item)

    -- it isn't, or memory was wanting
    pub unfunded_there : (place : ℕ) (fault : PlanFault) → place ≡ i + 1 → PlannedBy (found_at place have m.fill) (Err fault) → PlannedBy (unfunded_from held market 1 [] makers) (Err fault)
    unfunded_there place Memory here found = tt
    unfunded_there place (Short amount at) here found =
        let parts = found_some (nat_lt have m.fill) (place, have) (at, amount) found in
        let short : nat_lt (held_after held (front i) m.account (paid_asset market m)) m.fill ≡ true = ap (λ (n : ℕ). nat_lt n m.fill) (sym have-is) ∙ parts.0 in
        so_far
        ∙ ap (unfunded_from held market (i + 1) (front i)) (split_at i m inside item)
        ∙ stopped (i + 1) (front i) m (drop (i + 1) makers) short
        ∙ ap (λ (n : ℕ). Some (n, held_after held (front i) m.account (paid_asset market m))) (sym here)
        ∙ ap (λ (n : ℕ). Some (place, n)) (sym have-is)
        ∙ ap (λ (x : ℕ × ℕ). Some x) parts.1

module _ (held : ℕ → Pairs → ℕ) (market : ℕ) (taker : Part) (makers : List Part) (ps : List Posting) (new : ps ≡ []) where
  abbrev taker_have : ℕ
  taker_have = held_after held ps taker.account (paid_asset market taker)

  taker_have-is : taker_have ≡ held taker.account (paid_asset market taker)
  taker_have-is = rw new (omega arith)

  -- the taker is funded, so that the first part that isn't is a maker
  pub taker_funded : found_at 0 taker_have taker.fill ≡ None → unfunded held market taker makers ≡ unfunded_from held market 1 [] makers
  taker_funded none =
      let enough : nat_lt (held taker.account (paid_asset market taker)) taker.fill ≡ false = ap (λ (n : ℕ). nat_lt n taker.fill) (sym taker_have-is) ∙ found_none (nat_lt taker_have taker.fill) (0, taker_have) none in
      rw enough refl

  -- it isn't, or memory was wanting
  pub taker_unfunded : (fault : PlanFault) → PlannedBy (found_at 0 taker_have taker.fill) (Err fault) → PlannedBy (unfunded held market taker makers) (Err fault)
  taker_unfunded Memory found = tt
  taker_unfunded (Short amount at) found =
      let parts = found_some (nat_lt taker_have taker.fill) (0, taker_have) (at, amount) found in
      let short : nat_lt (held taker.account (paid_asset market taker)) taker.fill ≡ true = ap (λ (n : ℕ). nat_lt n taker.fill) (sym taker_have-is) ∙ parts.0 in
      rw short (ap (λ (n : ℕ). Some (0, n)) (sym taker_have-is) ∙ ap (λ (x : ℕ × ℕ). Some x) parts.1)
