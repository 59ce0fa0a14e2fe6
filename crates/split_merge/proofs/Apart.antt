-- A set that is apart from those before it gives another part, to which nothing is posted yet.
use Rattle.std.proofs.Common.{◌≡◌, ◌≢◌, ℕ, ◌<◌, Bool, true, false, List, [], ◌∷◌, Some, fold, All, length, take, get_or, refl, sym, ◌∙◌, ap, subst, arith}
use Rattle.std.specs.Prelude.{map, cond, ◌==◌}
use Rattle.std.specs.Int.Bits.{bit_and, bit_or}
use Rattle.std.proofs.lemmas.Bool.{false_from_ne_true}
use Rattle.std.proofs.lemmas.List.{get_or_read}
use Rattle.std.proofs.lemmas.List.Elements.{All-cons, All-head, All-tail}
use Rattle.std.proofs.lemmas.List.Sums.{sum_by-cons}
use Rattle.std.proofs.lemmas.Nat.{le_or_l, le_or_r}
use Rattle.std.proofs.lemmas.Nat.Bits.{bit_at_and, bit_at_or, same_from_bits}
use Rattle.condition_sets.specs.Sets.{AreApart, union_of}
use Rattle.collection_keys.specs.Collections.{Pairs, part, joined}
use Rattle.collection_keys.specs.Comparing.{same_collection}
use Rattle.ledger_book.specs.Postings.{debit, credits, debits, paid_to_account, taken_from_account}

-- what two sets together share with a third is what either shares with it
and-or : (a b c : ℕ) → bit_and (bit_or a b) c ≡ bit_or (bit_and a c) (bit_and b c)
and-or a b c = same_from_bits _ _ (λ i. simp (bit_at_and, bit_at_or) (omega arith))

and-same : (a : ℕ) → bit_and a a ≡ a
and-same a = same_from_bits _ _ (λ i. simp bit_at_and (omega arith))

-- what is apart from two sets together is apart from both
apart-or : (a b c : ℕ) → bit_and (bit_or a b) c ≡ 0 → (bit_and a c ≡ 0) × (bit_and b c ≡ 0)
apart-or a b c apart =
    let both : bit_or (bit_and a c) (bit_and b c) ≡ 0 = sym (and-or a b c) ∙ apart in
    (omega (arith, both, le_or_l (bit_and a c) (bit_and b c)), omega (arith, both, le_or_r (bit_and a c) (bit_and b c)))

apart-start : (set start : ℕ) (sets : List ℕ) → bit_and (fold bit_or start sets) set ≡ 0 → bit_and start set ≡ 0
apart-start set start [] apart = apart
apart-start set start (x ∷ xs) apart = (apart-or start x set (apart-start set (bit_or start x) xs apart)).0

-- a set that is apart from some together is none of them
none_of_them : (set start : ℕ) (sets : List ℕ) → 0 < set → bit_and (fold bit_or start sets) set ≡ 0 → All (λ x. x ≢ set) sets
none_of_them set start [] some apart = λ place default inside. absurd (omega arith)
none_of_them set start (x ∷ xs) some apart =
    let here : bit_and x set ≡ 0 = (apart-or start x set (apart-start set (bit_or start x) xs apart)).1 in
    let other : x ≢ set = λ same. let none : bit_and set set ≡ 0 = subst (λ (n : ℕ). bit_and n set ≡ 0) same here in omega (arith, some, none, and-same set) in
    All-cons (λ x. x ≢ set) x xs other (none_of_them set (bit_or start x) xs some apart)

-- two parts of one condition are the same only where their sets are
pub same_set : (parent : Pairs) (c : ℕ) → ((i : ℕ) → part (joined parent c i) c ≡ Some i) → (i j : ℕ) → joined parent c i ≡ joined parent c j → i ≡ j
same_set parent c has i j same =
    let found : Some i ≡ Some j = sym (has i) ∙ (ap (λ (k : Pairs). part k c) same ∙ has j) in
    cc

nothing_moved : (b c : Bool) → ◌≡◌ {A = ℕ} (cond b (cond c 0 0) 0) 0
nothing_moved true true = refl
nothing_moved true false = refl
nothing_moved false c = refl

elsewhere : (b c : Bool) (amount : ℕ) → c ≡ false → cond b (cond c amount 0) 0 ≡ 0
elsewhere true true amount other = cc
elsewhere true false amount other = refl
elsewhere false c amount other = refl

-- debits pay nothing
pub unpaid : (a amount : ℕ) (ks : List Pairs) (b : ℕ) (k : Pairs) → credits (map (λ k. debit a k amount) ks) b k ≡ 0
unpaid a amount [] b k = refl
unpaid a amount (x ∷ xs) b k =
    omega (arith, unpaid a amount xs b k, nothing_moved (a == b) (same_collection x k), sum_by-cons (paid_to_account b k) (debit a x amount) (map (λ k. debit a k amount) xs))

-- debits of the parts of other sets take nothing of the part of this one
untaken : (a amount : ℕ) (f : ℕ → Pairs) (sets : List ℕ) (set : ℕ) → ((i j : ℕ) → same_collection (f i) (f j) ≡ true → i ≡ j) → All (λ x. x ≢ set) sets
    → debits (map (λ k. debit a k amount) (map f sets)) a (f set) ≡ 0
untaken a amount f [] set same others = refl
untaken a amount f (x ∷ xs) set same others =
    let other : x ≢ set = All-head (λ x. x ≢ set) x xs others in
    let apart : same_collection (f x) (f set) ≡ false = false_from_ne_true _ (λ yes. other (same x set yes)) in
    let rest = untaken a amount f xs set same (All-tail (λ x. x ≢ set) x xs others) in
    omega (arith, rest, elsewhere (a == a) (same_collection (f x) (f set)) amount apart, sum_by-cons (taken_from_account a (f set)) (debit a (f x) amount) (map (λ k. debit a k amount) (map f xs)))

-- the part of the set at a place, where the sets are apart
pub untaken_at : (a amount : ℕ) (f : ℕ → Pairs) (sets : List ℕ) (place set : ℕ) → ((i j : ℕ) → same_collection (f i) (f j) ≡ true → i ≡ j)
    → AreApart sets → place < length sets → set ≡ get_or sets place set → 0 < set
    → debits (map (λ k. debit a k amount) (map f (take place sets))) a (f set) ≡ 0
untaken_at a amount f sets place set same apart inside item some =
    let here : bit_and (union_of (take place sets)) set ≡ 0
    = subst (λ (n : ℕ). bit_and (union_of (take place sets)) n ≡ 0) (sym (get_or_read sets place set inside item 0)) (apart place inside) in
    untaken a amount f (take place sets) set same (none_of_them set 0 (take place sets) some here)
