-- The names that come: which they are, that they are no names yet, that none stands twice, and that they ascend.
use Rattle.std.proofs.Common.{◌≡◌, ℕ, ◌+◌, ◌<◌, ◌≤◌, List, [], ◌∷◌, ◌++◌, Bool, true, false, length, take, drop, get_or, insert, refl, sym, ◌∙◌, ap, subst, arith, inl, inr}
use Rattle.std.specs.List.{list_any, prefix_len}
use Rattle.std.specs.Ordering.{is_lt, is_eq, ordering_reverse}
use Rattle.std.specs.declared.cmp.Ordering.{Ordering}
use Rattle.std.specs.declared.cmp.Ordering.TheVariants.{Less, Equal, Greater}
use Rattle.std.specs.Prelude.{◌||◌, ◌&&◌, cond, not}
use Rattle.std.proofs.Math.Numerals.{one-add}
use Rattle.std.proofs.lemmas.Bool.{cases_Bool, cond_both, cond-true, cond-false, or_parts, or_cases, and_parts, and_from}
use Rattle.std.proofs.lemmas.List.{take-append-drop, drop_more}
use Rattle.std.proofs.lemmas.List.Folds.{list_any-append}
use Rattle.collection_keys.specs.Collections.{Pairs}
use Rattle.collection_keys.specs.Comparing.{same_collection, collection_cmp, collection_total, collection_ties}
use Rattle.ledger_book.specs.Naming.{has, placed, is_change, is_changed, is_new, are_ascending, named_from, new_names, AreApart, AreFresh}
use Rattle.ledger_book.specs.declared.posting.Posting.{Posting}
use Rattle.ledger_book.proofs.Positions.{collection_Decides}
use Rattle.ledger_book.proofs.Carried.{or_true}

insert-cons : (j : Pairs) (js : List Pairs) (n : ℕ) (k : Pairs) → insert (j ∷ js) (1 + n) k ≡ j ∷ insert js n k
insert-cons j js n k = rw (one-add n) refl

-- a collection's place is behind those that it isn't less than
pub placed-is : (k : Pairs) (js : List Pairs) → placed k js ≡ insert js (prefix_len (λ j. not (is_lt (collection_cmp k j))) js) k
placed-is k [] = refl
placed-is k (j ∷ js) = grind (arith, placed-is k js, insert-cons j js (prefix_len (λ (i : Pairs). not (is_lt (collection_cmp k i))) js) k)

or_swap : (a b c : Bool) → (a || (b || c)) ≡ (b || (a || c))
or_swap true true c = refl
or_swap true false c = refl
or_swap false b c = refl

-- what is among these after one is placed
has-placed : (k : Pairs) (js : List Pairs) (i : Pairs) → has (placed k js) i ≡ (same_collection i k || has js i)
has-placed k [] i = refl
has-placed k (j ∷ js) i =
    cond_both (is_lt (collection_cmp k j)) (k ∷ j ∷ js) (j ∷ placed k js) (λ (ks : List Pairs). has ks i ≡ (same_collection i k || has (j ∷ js) i))
    (λ less. refl)
    (λ more. ap (λ b. same_collection i j || b) (has-placed k js i) ∙ or_swap (same_collection i j) (same_collection i k) (has js i))

other : (j k : Pairs) → same_collection j k ≡ false → same_collection k j ≡ false
other j k apart =
    elim (cases_Bool (same_collection k j)) [
      | inl tied ↦ let back = (collection_Decides j k).1 (sym ((collection_Decides k j).0 tied)) in cc
      | inr differ ↦ differ
    ]

apart-placed : (k : Pairs) (js : List Pairs) → has js k ≡ false → AreApart js → AreApart (placed k js)
apart-placed k [] new apart = (refl, tt)
apart-placed k (j ∷ js) new apart =
    let parts = or_parts (same_collection k j) (has js k) new in
    cond_both (is_lt (collection_cmp k j)) (k ∷ j ∷ js) (j ∷ placed k js) AreApart
    (λ less. (new, apart))
    (λ more. (has-placed k js j ∙ ap (λ b. b || has js j) (other k j parts.0) ∙ apart.0, apart-placed k js parts.1 apart.1))

swapped : (j k : Pairs) → same_collection j k ≡ same_collection k j
swapped j k =
    elim (cases_Bool (same_collection j k)) [
      | inl same ↦ same ∙ sym ((collection_Decides k j).1 (sym ((collection_Decides j k).0 same)))
      | inr differ ↦ differ ∙ sym (other j k differ)
    ]

-- it is the same to ask from the other side
pub has_swapped : (ks : List Pairs) (k : Pairs) → list_any (λ j. same_collection j k) ks ≡ has ks k
has_swapped [] k = refl
has_swapped (j ∷ js) k = ap (λ b. b || list_any (λ (i : Pairs). same_collection i k) js) (swapped j k) ∙ ap (λ b. same_collection k j || b) (has_swapped js k)

length-placed : (k : Pairs) (js : List Pairs) → length (placed k js) ≡ length js + 1
length-placed k [] = refl
length-placed k (j ∷ js) =
    cond_both (is_lt (collection_cmp k j)) (k ∷ j ∷ js) (j ∷ placed k js) (λ (ks : List Pairs). length ks ≡ length (j ∷ js) + 1)
    (λ less. omega arith)
    (λ more. omega (arith, length-placed k js))

length-named_from : (old : List Pairs) (all : List Posting) (found : List Pairs) (ps : List Posting) → length (named_from old all found ps) ≤ length found + length ps
length-named_from old all found [] = omega arith
length-named_from old all found (p ∷ ps) =
    cond_both (is_new old all found p) (placed p.collection found) found (λ (ks : List Pairs). length (named_from old all ks ps) ≤ length found + length (p ∷ ps))
    (λ new. omega (arith, length-named_from old all (placed p.collection found) ps, length-placed p.collection found))
    (λ known. omega (arith, length-named_from old all found ps))

-- no more names come than there are postings
pub length-new_names : (old : List Pairs) (ps : List Posting) → length (new_names old ps) ≤ length ps
length-new_names old ps = omega (arith, length-named_from old ps [] ps)

not_true : (b : Bool) → not b ≡ true → b ≡ false
not_true true is = cc
not_true false is = refl

fresh_next : (old : List Pairs) (all : List Posting) (found : List Pairs) (p : Posting) → AreFresh old found → is_new old all found p ≡ true → AreFresh old (placed p.collection found)
fresh_next old all found p fresh new =
    let parts = and_parts (is_change all p) (not (has old p.collection) && not (has found p.collection)) new in
    let both = and_parts (not (has old p.collection)) (not (has found p.collection)) parts.1 in
    record {
      absent = λ k there.
          elim (or_cases (same_collection k p.collection) (has found k) (sym (has-placed p.collection found k) ∙ there)) [
            | inl same ↦ subst (λ (j : Pairs). has old j ≡ false) (sym ((collection_Decides k p.collection).0 same)) (not_true (has old p.collection) both.0)
            | inr before ↦ fresh.absent k before
          ];
      once = apart-placed p.collection found (not_true (has found p.collection) both.1) fresh.once;
    }

fresh_from : (old : List Pairs) (all : List Posting) (found : List Pairs) (ps : List Posting) → AreFresh old found → AreFresh old (named_from old all found ps)
fresh_from old all found [] fresh = fresh
fresh_from old all found (p ∷ ps) fresh =
    cond_both (is_new old all found p) (placed p.collection found) found (λ (ks : List Pairs). AreFresh old (named_from old all ks ps))
    (λ new. fresh_from old all (placed p.collection found) ps (fresh_next old all found p fresh new))
    (λ old_one. fresh_from old all found ps fresh)

pub new_names-fresh : (old : List Pairs) (ps : List Posting) → AreFresh old (new_names old ps)
new_names-fresh old ps = fresh_from old ps [] ps (record { absent = λ k there. cc; once = tt })

or_none : (a b : Bool) → a ≡ false → b ≡ false → (a || b) ≡ false
or_none true b none rest = cc
or_none false b none rest = rest

among_none : (found old : Bool) → found ≡ (found || (not old && false))
among_none true old = refl
among_none false true = refl
among_none false false = refl

-- a posting names its collection, or leaves what comes as it was
among_more : (same found old later change : Bool) → change ≡ true → (same ≡ true → old ≡ false)
    → ((same || found) || (not old && later)) ≡ (found || (not old && ((same && change) || later)))
among_more true true old later true is free = refl
among_more true false false later true is free = refl
among_more true false true later true is free = let none = free refl in cc
among_more false found old later true is free = refl
among_more same found old later false is free = cc

among_same : (same found old later change : Bool) → (same ≡ true → (change && (not old && not found)) ≡ false)
    → (found || (not old && later)) ≡ (found || (not old && ((same && change) || later)))
among_same true true old later change out = refl
among_same true false true later change out = refl
among_same true false false later true out = let none = out refl in cc
among_same true false false later false out = refl
among_same false found old later change out = refl

-- whether a collection has, among these, a posting that changes an amount
abbrev pub is_touched : List Posting → List Posting → Pairs → Bool
is_touched all ps k = list_any (λ p. same_collection k p.collection && is_change all p) ps

has-named_from : (old : List Pairs) (all : List Posting) (found : List Pairs) (ps : List Posting) (k : Pairs)
    → has (named_from old all found ps) k ≡ (has found k || (not (has old k) && is_touched all ps k))
has-named_from old all found [] k = among_none (has found k) (has old k)
has-named_from old all found (p ∷ ps) k =
    let later = is_touched all ps k in
    let same = same_collection k p.collection in
    cond_both (is_new old all found p) (placed p.collection found) found (λ (ks : List Pairs). has (named_from old all ks ps) k ≡ (has found k || (not (has old k) && ((same && is_change all p) || later))))
    (λ new.
    let parts = and_parts (is_change all p) (not (has old p.collection) && not (has found p.collection)) new in
    let free = not_true (has old p.collection) (and_parts (not (has old p.collection)) (not (has found p.collection)) parts.1).0 in
    has-named_from old all (placed p.collection found) ps k
    ∙ ap (λ b. b || (not (has old k) && later)) (has-placed p.collection found k)
    ∙ among_more same (has found k) (has old k) later (is_change all p) parts.0 (λ tied. subst (λ (j : Pairs). has old j ≡ false) (sym ((collection_Decides k p.collection).0 tied)) free))
    (λ known.
    has-named_from old all found ps k
    ∙ among_same same (has found k) (has old k) later (is_change all p) (λ tied. subst (λ (j : Pairs). (is_change all p && (not (has old j) && not (has found j))) ≡ false) (sym ((collection_Decides k p.collection).0 tied)) known))

-- the names that come are those of the collections that have none and of which an amount changes
pub has-new_names : (old : List Pairs) (ps : List Posting) (k : Pairs) → has (new_names old ps) k ≡ (not (has old k) && is_changed ps k)
has-new_names old ps k = has-named_from old ps [] ps k

not_changed : (old changed : Bool) → old ≡ false → (not old && changed) ≡ false → changed ≡ false
not_changed false changed absent none = none
not_changed true changed absent none = cc

-- a collection that has no name, and gets none, has no posting that changes an amount
pub untouched : (old : List Pairs) (ps : List Posting) (k : Pairs) → has (old ++ new_names old ps) k ≡ false → is_changed ps k ≡ false
untouched old ps k nowhere =
    let parts = or_parts (has old k) (has (new_names old ps) k) (sym (list_any-append (same_collection k) old (new_names old ps)) ∙ nowhere) in
    not_changed (has old k) (is_changed ps k) parts.0 (sym (has-new_names old ps k) ∙ parts.1)

-- names stay apart when those that come are put behind them
pub apart-append : (old ks : List Pairs) → AreApart old → AreApart ks → ((k : Pairs) → has ks k ≡ true → has old k ≡ false) → AreApart (old ++ ks)
apart-append [] ks apart news absent = news
apart-append (j ∷ js) ks apart news absent =
    let none : has ks j ≡ false
    = elim (cases_Bool (has ks j)) [
      | inl there ↦
          let out = (or_parts (same_collection j j) (has js j) (absent j there)).0 in
          let tied = (collection_Decides j j).1 refl in
          cc
      | inr free ↦ free
    ] in (
      list_any-append (same_collection j) js ks ∙ or_none (has js j) (has ks j) apart.0 none,
      apart-append js ks apart.1 news (λ k there. (or_parts (same_collection k j) (has js k) (absent k there)).1),
    )

lt_turned : (o p : Ordering) → o ≡ ordering_reverse p → is_lt o ≡ false → (o ≡ Equal → ⊥) → is_lt p ≡ true
lt_turned Less p is more apart = cc
lt_turned Equal p is more apart = absurd (apart refl)
lt_turned Greater Less is more apart = refl
lt_turned Greater Equal is more apart = cc
lt_turned Greater Greater is more apart = cc

-- of two collections that differ, one is less
is_less : (k j : Pairs) → is_lt (collection_cmp k j) ≡ false → same_collection k j ≡ false → is_lt (collection_cmp j k) ≡ true
is_less k j more differ =
    lt_turned (collection_cmp k j) (collection_cmp j k) (collection_total.antisymm k j) more
    (λ tied. let same = collection_ties k j ∙ ap is_eq tied in cc)

ascending-placed : (k : Pairs) (js : List Pairs) → has js k ≡ false → are_ascending js ≡ true → are_ascending (placed k js) ≡ true
ascending-placed k [] new up = refl
ascending-placed k (j ∷ []) new up =
    let differ = (or_parts (same_collection k j) false new).0 in
    cond_both (is_lt (collection_cmp k j)) (k ∷ j ∷ []) (j ∷ k ∷ []) (λ (ks : List Pairs). are_ascending ks ≡ true)
    (λ less. and_from (is_lt (collection_cmp k j)) true less refl)
    (λ more. and_from (is_lt (collection_cmp j k)) true (is_less k j more differ) refl)
ascending-placed k (j ∷ i ∷ js) new up =
    let parts = or_parts (same_collection k j) (has (i ∷ js) k) new in
    let steps = and_parts (is_lt (collection_cmp j i)) (are_ascending (i ∷ js)) up in
    let rest = ascending-placed k (i ∷ js) parts.1 steps.1 in
    cond_both (is_lt (collection_cmp k j)) (k ∷ j ∷ i ∷ js) (j ∷ placed k (i ∷ js)) (λ (ks : List Pairs). are_ascending ks ≡ true)
    (λ less. and_from (is_lt (collection_cmp k j)) (are_ascending (j ∷ i ∷ js)) less up)
    (λ more. behind (is_less k j more parts.0) steps.0 rest)
  where
    behind : is_lt (collection_cmp j k) ≡ true → is_lt (collection_cmp j i) ≡ true → are_ascending (placed k (i ∷ js)) ≡ true → are_ascending (j ∷ placed k (i ∷ js)) ≡ true
    behind first second rest =
        elim (cases_Bool (is_lt (collection_cmp k i))) [
          | inl less ↦
              let is : placed k (i ∷ js) ≡ k ∷ i ∷ js = cond-true (is_lt (collection_cmp k i)) (k ∷ i ∷ js) (i ∷ placed k js) less in
              rw is (and_from (is_lt (collection_cmp j k)) (are_ascending (k ∷ i ∷ js)) first (subst (λ (ks : List Pairs). are_ascending ks ≡ true) is rest))
          | inr more ↦
              let is : placed k (i ∷ js) ≡ i ∷ placed k js = cond-false (is_lt (collection_cmp k i)) (k ∷ i ∷ js) (i ∷ placed k js) more in
              rw is (and_from (is_lt (collection_cmp j i)) (are_ascending (i ∷ placed k js)) second (subst (λ (ks : List Pairs). are_ascending ks ≡ true) is rest))
        ]

ascending_from : (old : List Pairs) (all : List Posting) (found : List Pairs) (ps : List Posting) → are_ascending found ≡ true → are_ascending (named_from old all found ps) ≡ true
ascending_from old all found [] up = up
ascending_from old all found (p ∷ ps) up =
    cond_both (is_new old all found p) (placed p.collection found) found (λ (ks : List Pairs). are_ascending (named_from old all ks ps) ≡ true)
    (λ new.
    let parts = and_parts (is_change all p) (not (has old p.collection) && not (has found p.collection)) new in
    let free = not_true (has found p.collection) (and_parts (not (has old p.collection)) (not (has found p.collection)) parts.1).1 in
    ascending_from old all (placed p.collection found) ps (ascending-placed p.collection found free up))
    (λ known. ascending_from old all found ps up)

pub ascending-new_names : (old : List Pairs) (ps : List Posting) → are_ascending (new_names old ps) ≡ true
ascending-new_names old ps = ascending_from old ps [] ps refl

-- of those that are apart, none is among those before it
apart_front : (front : List Pairs) (k : Pairs) (rest : List Pairs) → AreApart (front ++ k ∷ rest) → has front k ≡ false
apart_front [] k rest apart = refl
apart_front (j ∷ js) k rest apart =
    let parts = or_parts (has js j) (same_collection j k || has rest j) (sym (list_any-append (same_collection j) js (k ∷ rest)) ∙ apart.0) in
    or_none (same_collection k j) (has js k) (other j k (or_parts (same_collection j k) (has rest j) parts.1).0) (apart_front js k rest apart.1)

-- the next name is neither one from before nor among those that were given already
pub next_fresh : (old ks names : List Pairs) (i : ℕ) (k : Pairs) → AreFresh old ks → i < length ks → k ≡ get_or ks i k
    → names ≡ old ++ take i ks → has names k ≡ false
next_fresh old ks names i k fresh below is given =
    let whole : ks ≡ take i ks ++ k ∷ drop (i + 1) ks
    = sym (take-append-drop i ks) ∙ ap (λ (rest : List Pairs). take i ks ++ rest) (drop_more ks i k below ∙ ap (λ (j : Pairs). j ∷ drop (i + 1) ks) (sym is)) in
    let before = apart_front (take i ks) k (drop (i + 1) ks) (subst AreApart whole fresh.once) in
    let there : has ks k ≡ true
    = ap (λ (js : List Pairs). has js k) whole ∙ list_any-append (same_collection k) (take i ks) (k ∷ drop (i + 1) ks)
    ∙ ap (λ b. has (take i ks) k || (b || has (drop (i + 1) ks) k)) ((collection_Decides k k).1 refl) ∙ or_true (has (take i ks) k) in
    ap (λ (js : List Pairs). has js k) given ∙ list_any-append (same_collection k) old (take i ks) ∙ or_none (has old k) (has (take i ks) k) (fresh.absent k there) before

-- one posting more of those from which the names that come are found
pub named_more : (old : List Pairs) (all ps : List Posting) (found next : List Pairs) (i : ℕ) (p : Posting) → i < length ps → p ≡ get_or ps i p
    → next ≡ cond (is_new old all found p) (placed p.collection found) found
    → named_from old all next (drop (i + 1) ps) ≡ named_from old all found (drop i ps)
named_more old all ps found next i p below is step =
    ap (λ (ks : List Pairs). named_from old all ks (drop (i + 1) ps)) step
    ∙ sym (ap (named_from old all found) (drop_more ps i p below ∙ ap (λ (q : Posting). q ∷ drop (i + 1) ps) (sym is)))
