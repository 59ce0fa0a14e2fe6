-- What a funded match takes is there.
use Rattle.std.proofs.Common.{◌≡◌, ℕ, suc, ◌-◌, ◌≤◌, Bool, true, false, cond, List, [], ◌∷◌, ◌++◌, Option, Some, None, refl, sym, subst, append_assoc, arith, inl, inr}
use Rattle.std.specs.Prelude.{◌==◌, nat_lt, if◌then◌else◌, map, All}
use Rattle.std.specs.List.{flat_map}
use Rattle.std.proofs.lemmas.Bool.{cases_Bool, eqb-true, ltb-false}
use Rattle.std.proofs.lemmas.List.{append-nil}
use Rattle.std.proofs.lemmas.List.Elements.{All-head, All-tail}
use Rattle.std.proofs.lemmas.List.Sums.{sum_by-append, sum_by-cons, sum_by_push}
use Rattle.collection_keys.proofs.Sameness.{same_collection_Decides}
use Rattle.collection_keys.specs.Collections.{Pairs}
use Rattle.collection_keys.specs.Comparing.{same_collection}
use Rattle.condition_sets.specs.declared.names.TheConstants.{OPERATOR}
use Rattle.ledger_book.specs.Entries.{held_after}
use Rattle.ledger_book.specs.Postings.{IsFunded, credit, debit, debits, paid_to_account, taken_from_account}
use Rattle.ledger_book.specs.declared.posting.Posting.{Posting}
use Rattle.match_kinds.specs.Matching.{IsMaker, got_of, maker_fee, paid_asset, refund_of, taken_asset, taker_fee, taking_by}
use Rattle.match_kinds.specs.Settling.{fee_postings, maker_postings, match_postings, unfunded, unfunded_from}
use Rattle.match_kinds.specs.declared.part.Part.{Part}
use Rattle.match_kinds.proofs.Funding.{untouched}

-- where no part is found, the first isn't, and none behind it
none_parts : (short : Bool) (first : ℕ × ℕ) (rest : Option (ℕ × ℕ)) → (if short then Some first else rest) ≡ None → (short ≡ false) × (rest ≡ None)
none_parts true first rest none = cc
none_parts false first rest none = (refl, none)

-- ---- postings behind what is funded

-- of another position a debit takes nothing
not_here : (own same : Bool) (amount : ℕ) → (own ≡ true → same ≡ true → ⊥) → cond own (cond same amount 0) 0 ≡ 0
not_here true true amount other = absurd (other refl refl)
not_here true false amount other = refl
not_here false same amount other = refl

-- a credit takes nothing of any position
untaken-credit : (a : ℕ) (j : Pairs) (amount b : ℕ) (k : Pairs) → taken_from_account b k (credit a j amount) ≡ 0
untaken-credit a j amount b k = nothing (a == b) (same_collection j k)
  where
    nothing : (own same : Bool) → ◌≡◌ {A = ℕ} (cond own (cond same 0 0) 0) 0
    nothing true true = refl
    nothing true false = refl
    nothing false same = refl

module _ (held : ℕ → Pairs → ℕ) (ps : List Posting) (funded : IsFunded held ps) where
  -- a debit of no more than is there then
  debit-covered : (a : ℕ) (j : Pairs) (amount : ℕ) → amount ≤ held_after held ps a j → IsFunded held (ps ++ debit a j amount ∷ [])
  debit-covered a j amount there b k =
      let d : Posting = debit a j amount in
      let paid = sum_by_push (paid_to_account b k) ps d in
      let taken = sum_by_push (taken_from_account b k) ps d in
      elim (cases_Bool (a == b)) [
        | inl own ↦
            elim (cases_Bool (same_collection j k)) [
              | inl same ↦
                  let account : a ≡ b = eqb-true a b own in
                  let collection : j ≡ k = (same_collection_Decides j k).0 same in
                  let left : held_after held ps a j ≡ held_after held ps b k = λ i. held_after held ps (account i) (collection i) in
                  let all : taken_from_account b k d ≡ amount = rw (own, same) refl in
                  omega (arith, funded b k, paid, taken, there, left, all)
              | inr other ↦
                  let none : taken_from_account b k d ≡ 0 = not_here (a == b) (same_collection j k) amount (λ yes same. cc) in
                  omega (arith, funded b k, paid, taken, none)
            ]
        | inr other ↦
            let none : taken_from_account b k d ≡ 0 = not_here (a == b) (same_collection j k) amount (λ yes same. cc) in
            omega (arith, funded b k, paid, taken, none)
      ]

  -- postings that take nothing
  untaken-covered : (qs : List Posting) → ((b : ℕ) (k : Pairs) → debits qs b k ≡ 0) → IsFunded held (ps ++ qs)
  untaken-covered qs untaken b k = omega (arith, funded b k, untaken b k, sum_by-append (paid_to_account b k) ps qs, sum_by-append (taken_from_account b k) ps qs)

-- ---- the parts of a match

module _ (held : ℕ → Pairs → ℕ) (market : ℕ) (taker : Part) where
  abbrev first : Posting
  first = debit taker.account (paid_asset market taker) taker.fill

  -- a maker that has its fill with what was posted for the makers before it; the taker's debit isn't of its account
  maker-covered : (earlier : List Posting) (m : Part) → IsMaker taker m → m.fill ≤ held_after held earlier m.account (paid_asset market m)
      → IsFunded held (first ∷ earlier) → IsFunded held (first ∷ earlier ++ maker_postings market m)
  maker-covered earlier m maker there funded =
      let k = paid_asset market m in
      let paid : Posting = debit m.account k m.fill in
      let gets : Posting = credit m.account (taken_asset market m) (taking_by m - maker_fee m) in
      let same = untouched held taker.account (paid_asset market taker) taker.fill earlier m.account k maker.other in
      let pays = debit-covered held (first ∷ earlier) funded m.account k m.fill (omega (arith, there, same)) in
      let got = untaken-covered held ((first ∷ earlier) ++ paid ∷ []) pays (gets ∷ []) (λ b j. omega (arith, sum_by-cons (taken_from_account b j) gets [], untaken-credit m.account (taken_asset market m) (taking_by m - maker_fee m) b j)) in
      subst (IsFunded held) (append_assoc (first ∷ earlier) (paid ∷ []) (gets ∷ [])) got

  -- all makers from one on
  makers-covered : (place : ℕ) (earlier : List Posting) (ms : List Part) → All (IsMaker taker) ms → unfunded_from held market place earlier ms ≡ None
      → IsFunded held (first ∷ earlier) → IsFunded held (first ∷ earlier ++ flat_map (maker_postings market) ms)
  makers-covered place earlier [] makers none funded = subst (λ (qs : List Posting). IsFunded held (first ∷ qs)) (sym (append-nil earlier)) funded
  makers-covered place earlier (m ∷ ms) makers none funded =
      let have : ℕ = held_after held earlier m.account (paid_asset market m) in
      let posts : List Posting = maker_postings market m in
      let parts = none_parts (nat_lt have m.fill) (place, have) (unfunded_from held market (suc place) (earlier ++ posts) ms) none in
      let one = maker-covered earlier m (All-head (IsMaker taker) m ms makers) (ltb-false have m.fill parts.0) funded in
      let rest = makers-covered (suc place) (earlier ++ posts) ms (All-tail (IsMaker taker) m ms makers) parts.1 one in
      subst (λ (qs : List Posting). IsFunded held (first ∷ qs)) (append_assoc earlier posts (flat_map (maker_postings market) ms)) rest

  abbrev fee_of_maker : Part → Posting
  fee_of_maker m = credit OPERATOR (taken_asset market m) (maker_fee m)

  -- the makers' fees take nothing
  untaken-fees : (ms : List Part) (b : ℕ) (k : Pairs) → debits (map fee_of_maker ms) b k ≡ 0
  untaken-fees [] b k = refl
  untaken-fees (m ∷ ms) b k =
      omega (arith, untaken-fees ms b k, untaken-credit OPERATOR (taken_asset market m) (maker_fee m) b k, sum_by-cons (taken_from_account b k) (fee_of_maker m) (map fee_of_maker ms))

  -- what is paid behind the makers takes nothing
  untaken-behind : (makers : List Part) (refund net fee b : ℕ) (k : Pairs)
      → debits (credit taker.account (paid_asset market taker) refund ∷ credit taker.account (taken_asset market taker) net ∷ map fee_of_maker makers ++ credit OPERATOR (taken_asset market taker) fee ∷ []) b k ≡ 0
  untaken-behind makers refund net fee b k =
      let f : Posting → ℕ = taken_from_account b k in
      let back : Posting = credit taker.account (paid_asset market taker) refund in
      let gets : Posting = credit taker.account (taken_asset market taker) net in
      let charge : Posting = credit OPERATOR (taken_asset market taker) fee in
      let charges : List Posting = map fee_of_maker makers in
      omega (
        arith,
        untaken-fees makers b k,
        untaken-credit taker.account (paid_asset market taker) refund b k,
        untaken-credit taker.account (taken_asset market taker) net b k,
        untaken-credit OPERATOR (taken_asset market taker) fee b k,
        sum_by-cons f back (gets ∷ charges ++ charge ∷ []),
        sum_by-cons f gets (charges ++ charge ∷ []),
        sum_by-append f charges (charge ∷ []),
        sum_by-cons f charge [],
      )

-- where no part is found that isn't funded, no position falls below 0
pub match-covered : (held : ℕ → Pairs → ℕ) (market : ℕ) (taker : Part) (makers : List Part) → All (IsMaker taker) makers → unfunded held market taker makers ≡ None
    → IsFunded held (match_postings market taker makers)
match-covered held market taker makers are_makers none =
    let k = paid_asset market taker in
    let parts = none_parts (nat_lt (held taker.account k) taker.fill) (0, held taker.account k) (unfunded_from held market 1 [] makers) none in
    let there = ltb-false (held taker.account k) taker.fill parts.0 in
    let begun = debit-covered held [] (λ b j. omega arith) taker.account k taker.fill (omega (arith, there)) in
    let through = makers-covered held market taker 1 [] makers are_makers parts.1 begun in
    let fee : ℕ = taker_fee taker makers in
    let refund : ℕ = refund_of taker makers in
    let net : ℕ = got_of taker makers - fee in
    let fills : List Posting = flat_map (maker_postings market) makers in
    let back : Posting = credit taker.account k refund in
    let gets : Posting = credit taker.account (taken_asset market taker) net in
    untaken-covered held (first held market taker ∷ fills) through (back ∷ gets ∷ fee_postings market taker makers) (untaken-behind held market taker makers refund net fee)
