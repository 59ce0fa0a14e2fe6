-- What postings pay and take, in what it is worth.
use Rattle.std.proofs.Common.{◌≡◌, ℕ, ◌+◌, ◌*◌, List, [], ◌∷◌, ◌++◌, All, map, sum_by, refl, ap, arith}
use Rattle.std.proofs.lemmas.List.Elements.{All-head, All-tail}
use Rattle.std.proofs.lemmas.List.Sums.{sum_by-append, sum_by-cons}
use Rattle.collection_keys.specs.Collections.{Pairs}
use Rattle.condition_table.specs.Shares.{weighted}
use Rattle.ledger_book.specs.Postings.{credit, debit}
use Rattle.ledger_book.specs.declared.posting.Posting.{Posting}
use Rattle.coverage_law.specs.Need.{paid_worth, taken_worth}
use Rattle.coverage_law.proofs.Weights.{weighted-constant, weighted-sum, weighted-times}

-- ---- longer lists

-- with others behind them postings pay what both pay
pub paid-append : (value : Pairs → ℕ) (ps qs : List Posting) → paid_worth value (ps ++ qs) ≡ paid_worth value ps + paid_worth value qs
unfolding paid_worth
paid-append value ps qs = sum_by-append (λ p. p.paid * value p.collection) ps qs

-- and take what both take
pub taken-append : (value : Pairs → ℕ) (ps qs : List Posting) → taken_worth value (ps ++ qs) ≡ taken_worth value ps + taken_worth value qs
unfolding taken_worth
taken-append value ps qs = sum_by-append (λ p. p.taken * value p.collection) ps qs

-- with a posting before them they pay what it pays more
pub paid-cons : (value : Pairs → ℕ) (p : Posting) (ps : List Posting) → paid_worth value (p ∷ ps) ≡ p.paid * value p.collection + paid_worth value ps
unfolding paid_worth
paid-cons value p ps = sum_by-cons (λ q. q.paid * value q.collection) p ps

-- and take what it takes more
pub taken-cons : (value : Pairs → ℕ) (p : Posting) (ps : List Posting) → taken_worth value (p ∷ ps) ≡ p.taken * value p.collection + taken_worth value ps
unfolding taken_worth
taken-cons value p ps = sum_by-cons (λ q. q.taken * value q.collection) p ps

-- no postings pay nothing
pub paid-none : (value : Pairs → ℕ) → paid_worth value [] ≡ 0
unfolding paid_worth
paid-none value = refl

-- and take nothing
pub taken-none : (value : Pairs → ℕ) → taken_worth value [] ≡ 0
unfolding taken_worth
taken-none value = refl

-- ---- other values

-- where two values agree on what is posted, as much is paid by one as by the other
pub paid-same : (v w : Pairs → ℕ) (ps : List Posting) → All (λ p. v p.collection ≡ w p.collection) ps → paid_worth v ps ≡ paid_worth w ps
paid-same v w [] same = omega (arith, paid-none v, paid-none w)
paid-same v w (p ∷ ps) same =
    let here = All-head (λ (q : Posting). v q.collection ≡ w q.collection) p ps same in
    let first : p.paid * v p.collection ≡ p.paid * w p.collection = ap (λ n. p.paid * n) here in
    let rest = paid-same v w ps (All-tail (λ (q : Posting). v q.collection ≡ w q.collection) p ps same) in
    omega (arith, first, rest, paid-cons v p ps, paid-cons w p ps)

-- and as much is taken
pub taken-same : (v w : Pairs → ℕ) (ps : List Posting) → All (λ p. v p.collection ≡ w p.collection) ps → taken_worth v ps ≡ taken_worth w ps
taken-same v w [] same = omega (arith, taken-none v, taken-none w)
taken-same v w (p ∷ ps) same =
    let here = All-head (λ (q : Posting). v q.collection ≡ w q.collection) p ps same in
    let first : p.taken * v p.collection ≡ p.taken * w p.collection = ap (λ n. p.taken * n) here in
    let rest = taken-same v w ps (All-tail (λ (q : Posting). v q.collection ≡ w q.collection) p ps same) in
    omega (arith, first, rest, taken-cons v p ps, taken-cons w p ps)

-- by a weighted sum of values the weighted sum is paid of what is paid by each
pub paid-weighted : (ns : List ℕ) (v : ℕ → Pairs → ℕ) (ps : List Posting) → paid_worth (λ k. weighted ns (λ s. v s k)) ps ≡ weighted ns (λ s. paid_worth (v s) ps)
unfolding paid_worth
paid-weighted ns v [] = omega (arith, weighted-constant ns 0)
paid-weighted ns v (p ∷ ps) =
    let each : weighted ns (λ s. paid_worth (v s) (p ∷ ps)) ≡ weighted ns (λ s. p.paid * v s p.collection + paid_worth (v s) ps) = ap (weighted ns) (λ j s. paid-cons (v s) p ps j) in
    let first = weighted-times ns p.paid (λ s. v s p.collection) in
    let both = weighted-sum ns (λ s. p.paid * v s p.collection) (λ s. paid_worth (v s) ps) in
    omega (arith, each, first, both, paid-weighted ns v ps, paid-cons (λ k. weighted ns (λ s. v s k)) p ps)

-- and so it is of what is taken
pub taken-weighted : (ns : List ℕ) (v : ℕ → Pairs → ℕ) (ps : List Posting) → taken_worth (λ k. weighted ns (λ s. v s k)) ps ≡ weighted ns (λ s. taken_worth (v s) ps)
unfolding taken_worth
taken-weighted ns v [] = omega (arith, weighted-constant ns 0)
taken-weighted ns v (p ∷ ps) =
    let each : weighted ns (λ s. taken_worth (v s) (p ∷ ps)) ≡ weighted ns (λ s. p.taken * v s p.collection + taken_worth (v s) ps) = ap (weighted ns) (λ j s. taken-cons (v s) p ps j) in
    let first = weighted-times ns p.taken (λ s. v s p.collection) in
    let both = weighted-sum ns (λ s. p.taken * v s p.collection) (λ s. taken_worth (v s) ps) in
    omega (arith, each, first, both, taken-weighted ns v ps, taken-cons (λ k. weighted ns (λ s. v s k)) p ps)

-- ---- credits and debits

-- one credit pays its amount
pub credit-paid : (value : Pairs → ℕ) (a : ℕ) (k : Pairs) (amount : ℕ) → paid_worth value (credit a k amount ∷ []) ≡ amount * value k
unfolding paid_worth
credit-paid value a k amount = omega arith

-- and takes nothing
pub credit-taken : (value : Pairs → ℕ) (a : ℕ) (k : Pairs) (amount : ℕ) → taken_worth value (credit a k amount ∷ []) ≡ 0
unfolding taken_worth
credit-taken value a k amount = omega arith

-- one debit pays nothing
pub debit-paid : (value : Pairs → ℕ) (a : ℕ) (k : Pairs) (amount : ℕ) → paid_worth value (debit a k amount ∷ []) ≡ 0
unfolding paid_worth
debit-paid value a k amount = omega arith

-- and takes its amount
pub debit-taken : (value : Pairs → ℕ) (a : ℕ) (k : Pairs) (amount : ℕ) → taken_worth value (debit a k amount ∷ []) ≡ amount * value k
unfolding taken_worth
debit-taken value a k amount = omega arith

-- credits of several collections pay the amount of each
pub credits-paid : (value : Pairs → ℕ) (a amount : ℕ) (ks : List Pairs) → paid_worth value (map (λ k. credit a k amount) ks) ≡ sum_by (λ k. amount * value k) ks
credits-paid value a amount [] = paid-none value
credits-paid value a amount (k ∷ ks) =
    omega (arith, credits-paid value a amount ks, paid-cons value (credit a k amount) (map (λ j. credit a j amount) ks), sum_by-cons (λ j. amount * value j) k ks)

-- and take nothing
pub credits-taken : (value : Pairs → ℕ) (a amount : ℕ) (ks : List Pairs) → taken_worth value (map (λ k. credit a k amount) ks) ≡ 0
credits-taken value a amount [] = taken-none value
credits-taken value a amount (k ∷ ks) =
    omega (arith, credits-taken value a amount ks, taken-cons value (credit a k amount) (map (λ j. credit a j amount) ks))

-- debits of several take the amount of each
pub debits-taken : (value : Pairs → ℕ) (a amount : ℕ) (ks : List Pairs) → taken_worth value (map (λ k. debit a k amount) ks) ≡ sum_by (λ k. amount * value k) ks
debits-taken value a amount [] = taken-none value
debits-taken value a amount (k ∷ ks) =
    omega (arith, debits-taken value a amount ks, taken-cons value (debit a k amount) (map (λ j. debit a j amount) ks), sum_by-cons (λ j. amount * value j) k ks)

-- and pay nothing
pub debits-paid : (value : Pairs → ℕ) (a amount : ℕ) (ks : List Pairs) → paid_worth value (map (λ k. debit a k amount) ks) ≡ 0
debits-paid value a amount [] = paid-none value
debits-paid value a amount (k ∷ ks) =
    omega (arith, debits-paid value a amount ks, paid-cons value (debit a k amount) (map (λ j. debit a j amount) ks))
