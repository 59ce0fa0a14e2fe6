-- How many balances there are after changes.
use Rattle.std.proofs.Common.{◌≡◌, ℕ, ◌+◌, ◌-◌, ◌≤◌, List, [], ◌∷◌, ◌++◌, false, subst, arith}
use Rattle.std.proofs.lemmas.Bool.Decides.{nat_tests}
use Rattle.std.proofs.lemmas.List.Sums.{sum_by-append}
use Rattle.collection_keys.specs.Collections.{Pairs}
use Rattle.ledger_book.proofs.Counted.{one_number}
use Rattle.ledger_book.proofs.Mixed.{counted_whole}
use Rattle.ledger_book.specs.Entries.{HasEntries, held_after, entries_of}
use Rattle.ledger_book.specs.Postings.{credits, debits, paid_to_account, taken_from_account, IsFunded}
use Rattle.ledger_book.specs.declared.posting.Posting.{Posting}
use Rattle.settle_core.specs.Refusals.{is_above_entries}

-- what is held is what postings gave, with what they took
abbrev pub HoldsAll : (ℕ → Pairs → ℕ) → List Posting → Type 0
HoldsAll held all = (a : ℕ) (k : Pairs) → held a k + debits all a k ≡ credits all a k

credits-both : (ps qs : List Posting) (a : ℕ) (k : Pairs) → credits (ps ++ qs) a k ≡ credits ps a k + credits qs a k
credits-both ps qs a k = sum_by-append (paid_to_account a k) ps qs

debits-both : (ps qs : List Posting) (a : ℕ) (k : Pairs) → debits (ps ++ qs) a k ≡ debits ps a k + debits qs a k
debits-both ps qs a k = sum_by-append (taken_from_account a k) ps qs

-- all postings are funded where those that come are
all-funded : (held : ℕ → Pairs → ℕ) (before ps : List Posting) → HoldsAll held before → IsFunded held ps → IsFunded (λ a k. 0) (before ++ ps)
all-funded held before ps holds funded a k =
    omega (arith, holds a k, funded a k, credits-both before ps a k, debits-both before ps a k)

same-after : (held : ℕ → Pairs → ℕ) (before ps : List Posting) → HoldsAll held before → IsFunded held ps → (a : ℕ) (k : Pairs)
    → credits (before ++ ps) a k - debits (before ++ ps) a k ≡ held_after held ps a k
same-after held before ps holds funded a k =
    omega (arith, holds a k, funded a k, credits-both before ps a k, debits-both before ps a k)

-- so the balances after them are counted by all postings
pub after-counted : (held : ℕ → Pairs → ℕ) (before ps : List Posting) → HoldsAll held before → IsFunded held ps → HasEntries (held_after held ps) (entries_of (before ++ ps))
after-counted held before ps holds funded =
    subst (λ (f : ℕ → Pairs → ℕ). HasEntries f (entries_of (before ++ ps))) (λ i a k. same-after held before ps holds funded a k i) (counted_whole (before ++ ps) (all-funded held before ps holds funded))

-- what posts nothing leaves what is held
pub after-nothing : (held : ℕ → Pairs → ℕ) (n : ℕ) → HasEntries (held_after held []) n → HasEntries held n
after-nothing held n has =
    let same : (a : ℕ) (k : Pairs) → held_after held [] a k ≡ held a k = λ a k. omega arith in
    subst (λ (f : ℕ → Pairs → ℕ). HasEntries f n) (λ i a k. same a k i) has

-- changes that the verdict admits leave no more balances than the limit
pub after-within : (held : ℕ → Pairs → ℕ) (before ps : List Posting) (most : ℕ) → HoldsAll held before → IsFunded held ps → ((n : ℕ) → HasEntries held n → n ≤ most)
    → is_above_entries most before ps ≡ false → (n : ℕ) → HasEntries (held_after held ps) n → n ≤ most
after-within held before [] most holds funded few fits n has = few n (after-nothing held n has)
after-within held before (p ∷ ps) most holds funded few fits n has =
    let same = one_number (held_after held (p ∷ ps)) n (entries_of (before ++ p ∷ ps)) has (after-counted held before (p ∷ ps) holds funded) in
    grind (arith, nat_tests, same, fits)

-- what stays where changes were carried out
pub counted-new : (old new : ℕ → Pairs → ℕ) (ps : List Posting) (n : ℕ) → IsFunded old ps → ((a : ℕ) (k : Pairs) → new a k + debits ps a k ≡ old a k + credits ps a k)
    → HasEntries new n → HasEntries (held_after old ps) n
counted-new old new ps n funded moved has =
    let same : (a : ℕ) (k : Pairs) → new a k ≡ held_after old ps a k = λ a k. omega (arith, moved a k, funded a k) in
    subst (λ (f : ℕ → Pairs → ℕ). HasEntries f n) (λ i a k. same a k i) has
