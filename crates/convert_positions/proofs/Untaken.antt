-- What is taken of one question's NO pays nothing, and takes nothing of another's.
use Rattle.std.proofs.Common.{◌≡◌, ◌≢◌, ℕ, Bool, true, false, List, [], ◌∷◌, ◌++◌, refl, ap, arith}
use Rattle.std.specs.Prelude.{cond, ◌==◌}
use Rattle.std.proofs.lemmas.Bool.{false_from_ne_true}
use Rattle.std.proofs.lemmas.List.Sums.{sum_by-append, sum_by-cons}
use Rattle.collection_keys.proofs.Sameness.{same_collection_Decides}
use Rattle.collection_keys.specs.Collections.{Pairs}
use Rattle.collection_keys.specs.Comparing.{same_collection}
use Rattle.convert_positions.specs.Converting.{no_of}
use Rattle.ledger_book.specs.Postings.{debit, credits, debits, paid_to_account, taken_from_account}
use Rattle.ledger_book.specs.declared.posting.Posting.{Posting}

nothing_moved : (b c : Bool) → ◌≡◌ {A = ℕ} (cond b (cond c 0 0) 0) 0
nothing_moved true true = refl
nothing_moved true false = refl
nothing_moved false c = refl

elsewhere : (b c : Bool) (amount : ℕ) → c ≡ false → cond b (cond c amount 0) 0 ≡ 0
elsewhere true true amount other = cc
elsewhere true false amount other = refl
elsewhere false c amount other = refl

-- nothing is paid by one debit more
pub unpaid_more : (ps : List Posting) (a : ℕ) (j : Pairs) (amount b : ℕ) (k : Pairs) → credits ps b k ≡ 0 → credits (ps ++ debit a j amount ∷ []) b k ≡ 0
unpaid_more ps a j amount b k none =
    omega (arith, none, nothing_moved (a == b) (same_collection j k), sum_by-append (paid_to_account b k) ps (debit a j amount ∷ []), sum_by-cons (paid_to_account b k) (debit a j amount) [])

first_condition : Pairs → ℕ
first_condition [] = 0
first_condition (p ∷ ps) = p.0

apart : (c d : ℕ) → c ≢ d → same_collection (no_of c) (no_of d) ≡ false
unfolding first_condition
apart c d other = false_from_ne_true (same_collection (no_of c) (no_of d)) (λ yes.
    let same : no_of c ≡ no_of d = (same_collection_Decides (no_of c) (no_of d)).0 yes in
    let equal : c ≡ d = ap first_condition same in
    other equal)

-- nothing is taken of a question's NO by a debit of another's
pub untaken_more : (ps : List Posting) (a c amount d : ℕ) → c ≢ d → debits ps a (no_of d) ≡ 0 → debits (ps ++ debit a (no_of c) amount ∷ []) a (no_of d) ≡ 0
untaken_more ps a c amount d other none =
    omega (arith, none, elsewhere (a == a) (same_collection (no_of c) (no_of d)) amount (apart c d other), sum_by-append (taken_from_account a (no_of d)) ps (debit a (no_of c) amount ∷ []), sum_by-cons (taken_from_account a (no_of d)) (debit a (no_of c) amount) [])
